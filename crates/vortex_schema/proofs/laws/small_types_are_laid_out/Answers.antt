use Rattle.std.specs.Prelude.{refl}
use Rattle.vortex_flat.specs.Layout.{layout_of}
use Rattle.vortex_schema.proofs.laws.small_types_are_laid_out.Goals as goal

pub returns-clause-flag : goal.returns-clause-flag
unfolding layout_of
returns-clause-flag c = refl

pub returns-clause-no_metadata : goal.returns-clause-no_metadata
unfolding layout_of
returns-clause-no_metadata c = refl
