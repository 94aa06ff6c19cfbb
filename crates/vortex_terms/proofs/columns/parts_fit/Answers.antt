use Rattle.std.proofs.Common.{get_or}
use Rattle.std.proofs.lemmas.List.Elements.{All-from_recursion, recursion_from_All}
use Rattle.vortex_terms.specs.Fits.{Fits}
use Rattle.vortex_terms.specs.JoinLaws.{parts-struct}
use Rattle.vortex_terms.specs.PartLaws.{parts-types, AllFit, parts-fit}
use Rattle.vortex_terms.specs.Parts.{parts}
use Rattle.vortex_terms.proofs.columns.parts_fit.Goals as goal

pub returns-clause-types : goal.returns-clause-types
returns-clause-types c = parts-types

pub returns-clause-rows : goal.returns-clause-rows
returns-clause-rows c = λ t rs a k d h.
    let p = get_or (parts t rs) k d in
    All-from_recursion (Fits p.0) p.1 (All-from_recursion (λ q. AllFit q.0 q.1) (parts t rs) (parts-fit t rs (recursion_from_All (Fits t) rs a)) k d h)

pub returns-clause-field : goal.returns-clause-field
returns-clause-field c = parts-struct
