use Rattle.std.proofs.Common.{rules}
use Rattle.vortex_dtype.specs.declared.masks.FieldMask.TheVariants.{All}
use Rattle.vortex_dtype.proofs.Masked.{stepped_into}
use Rattle.vortex_dtype.proofs.masks.FieldMask.step_into.Goals as goal

pub returns-then-is_root-clause-inner : goal.returns-then-is_root-clause-inner
returns-then-is_root-clause-inner c = stepped_into c.args.self All (search rules)
