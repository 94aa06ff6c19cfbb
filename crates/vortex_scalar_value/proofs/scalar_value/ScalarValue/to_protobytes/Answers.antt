use Rattle.std.proofs.Common.{◌<◌, ◌^◌, length, arith}
use Rattle.vortex_scalar_value.proofs.Put.{is_message}
use Rattle.vortex_scalar_value.proofs.scalar_value.ScalarValue.to_protobytes.Goals as goal

pub returns-clause-read : goal.returns-clause-read
returns-clause-read c =
    let short : length c.finish.result.items < 2 ^ 64 = omega (arith, c.finish.result.ok, c.finish.result.small) in
    is_message c.args.self.now c.finish.result.items c.in_ok-message.message c.new.result c.in_ok-message.ensures.held short c.finish.ensures c.in_ok-message.ensures.written c.new.ensures
