use Rattle.std.proofs.Common.{ap}
use Rattle.vortex_names.specs.Nullable.{is_nullable}
use Rattle.vortex_array_data.proofs.MadeMasks.{dropped_taken, kept_taken}
use Rattle.vortex_array_compare.proofs.compare.kept_mask.Goals as goal

pub returns-in-Nullable : goal.returns-in-Nullable
returns-in-Nullable c =
    kept_taken c.args.len (is_nullable c.args.nullability) c.args.known c.requires.long
    (ap is_nullable c.in-Nullable.is)

pub returns-in-NonNullable : goal.returns-in-NonNullable
returns-in-NonNullable c =
    dropped_taken c.args.len (is_nullable c.args.nullability) c.args.known c.requires.long
    (ap is_nullable c.in-NonNullable.is) (c.requires.bare (ap is_nullable c.in-NonNullable.is))
