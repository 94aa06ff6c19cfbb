use Rattle.std.proofs.Common.{◌<◌, ◌^◌, ◌∙◌, length, ap, arith}
use Rattle.vortex_types.specs.DTypes.{term_of}
use Rattle.vortex_scalar.proofs.MessageParts.{levels_fit, is_written, is_read}
use Rattle.vortex_scalar.proofs.scalar.Scalar.to_proto.Goals as goal

pub value_message-requires : goal.value_message-requires
value_message-requires c =
    levels_fit (term_of c.parts.result.0.now) c.parts.result.1.now c.parts.ensures.fits c.in_ok-of_type.ensures.1

pub returns-clause-written : goal.returns-clause-written
returns-clause-written c =
    is_written (term_of c.parts.result.0.now) c.parts.result.1.now c.args.self.now c.as_slice.result.now c.as_slice-2.result.now c.both_parts.result
    c.parts.ensures.scalar c.parts.ensures.fits (c.as_slice.ensures.value ∙ c.in_ok-of_type.ensures.0, c.in_ok-of_type.ensures.1) (c.as_slice-2.ensures.value ∙ c.in_ok-of_value.ensures.written) c.both_parts.ensures.written c.both_parts.ensures.memory

pub returns-clause-read : goal.returns-clause-read
returns-clause-read c =
    let short : length c.as_slice-2.result.now < 2 ^ 64 = omega (arith, ap length c.as_slice-2.ensures.value, c.in_ok-of_value.of_value.ok, c.in_ok-of_value.of_value.small) in
    is_read (term_of c.parts.result.0.now) c.parts.result.1.now c.args.self.now c.as_slice.result.now c.as_slice-2.result.now c.both_parts.result
    c.parts.ensures.scalar c.parts.ensures.fits (c.as_slice.ensures.value ∙ c.in_ok-of_type.ensures.0, c.in_ok-of_type.ensures.1) (c.as_slice-2.ensures.value ∙ c.in_ok-of_value.ensures.written) c.in_ok-of_value.ensures.held short c.both_parts.ensures.written
