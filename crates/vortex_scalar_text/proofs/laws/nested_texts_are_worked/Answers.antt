use Rattle.std.proofs.Common.{refl}
use Rattle.std.specs.Fmt.{digits}
use Rattle.vortex_scalar_text.proofs.laws.nested_texts_are_worked.Goals as goal

pub returns-clause-lists : goal.returns-clause-lists
unfolding digits
returns-clause-lists c = refl

pub returns-clause-fixed : goal.returns-clause-fixed
unfolding digits
returns-clause-fixed c = refl

pub returns-clause-structs : goal.returns-clause-structs
unfolding digits
returns-clause-structs c = refl

pub returns-clause-empty : goal.returns-clause-empty
unfolding digits
returns-clause-empty c = (refl, refl, refl)
