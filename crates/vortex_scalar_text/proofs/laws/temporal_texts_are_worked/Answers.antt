use Rattle.std.proofs.Common.{refl}
use Rattle.std.specs.Fmt.{digits}
use Rattle.std.specs.Str.{chars, is_utf8}
use Rattle.vortex_scalar_text.proofs.laws.temporal_texts_are_worked.Goals as goal

pub returns-clause-times : goal.returns-clause-times
unfolding digits
returns-clause-times c = (refl, refl, refl)

pub returns-clause-nulls : goal.returns-clause-nulls
unfolding chars is_utf8 lib.Utf8.encode
returns-clause-nulls c = (refl, refl, refl)

pub returns-clause-stored : goal.returns-clause-stored
unfolding digits chars is_utf8 lib.Utf8.encode
returns-clause-stored c = (refl, refl, refl)

pub returns-clause-others : goal.returns-clause-others
returns-clause-others c = (refl, refl)
