use Rattle.std.proofs.Common.{refl}
use Rattle.std.specs.Str.{chars}
use Rattle.vortex_bounds.specs.Texts.{raised_chars}
use Rattle.vortex_scalar.proofs.worked.text_bounds_are_worked.Goals as goal

pub returns-clause-front : goal.returns-clause-front
unfolding chars lib.Utf8.encode
returns-clause-front c = (refl, refl, refl)

pub returns-clause-raised : goal.returns-clause-raised
unfolding chars raised_chars lib.Utf8.encode
returns-clause-raised c = (refl, refl, refl, refl)
