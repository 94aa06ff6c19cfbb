use Rattle.std.proofs.Common.{inr}
use Rattle.vortex_scalar.proofs.Rows.{no_text}
use Rattle.vortex_names.specs.Nullable.{is_nullable}
use Rattle.vortex_scalar.proofs.scalar.Scalar.try_utf8.Goals as goal

pub returns-in-Err : goal.returns-in-Err
returns-in-Err c = inr (no_text (is_nullable c.args.nullability) c.args.bytes.now c.in-Err.ensures.cases.0)
