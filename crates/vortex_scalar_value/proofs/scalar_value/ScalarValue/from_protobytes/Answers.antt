use Rattle.vortex_scalar_value.proofs.Read.{is_read}
use Rattle.vortex_scalar_value.proofs.scalar_value.ScalarValue.from_protobytes.Goals as goal

pub returns : goal.returns
returns c = is_read c.read_value.result c.args.bytes.now c.read_value.ensures
