use Rattle.std.proofs.Common.{rules}
use Rattle.vortex_scalar.proofs.MessageParts.{no_type, no_value}
use Rattle.vortex_scalar.proofs.scalar.Scalar.from_proto.Goals as goal

pub returns-in_err-dtype : goal.returns-in_err-dtype
returns-in_err-dtype c = no_type c.args.bytes.now c.in_err-dtype.field-0.0 c.from_residual.result c.in_err-dtype.ensures (search rules)

pub returns-in_err-value : goal.returns-in_err-value
returns-in_err-value c = no_value c.args.bytes.now c.in_err-value.field-0.0 c.from_residual-in_err-value.result c.in_err-value.ensures (search rules)
