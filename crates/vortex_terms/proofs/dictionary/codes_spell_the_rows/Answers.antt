use Rattle.std.proofs.Common.{◌<◌, length}
use Rattle.std.proofs.lemmas.List.Elements.{All-from_recursion}
use Rattle.vortex_terms.specs.Distinct.{distinct, codes_of}
use Rattle.vortex_terms.specs.DistinctLaws.{distinct-IsDistinct, length-distinct, codes_of-below, codes_of-get}
use Rattle.vortex_terms.proofs.dictionary.codes_spell_the_rows.Goals as goal

pub returns-clause-apart : goal.returns-clause-apart
returns-clause-apart c = distinct-IsDistinct

pub returns-clause-fewer : goal.returns-clause-fewer
returns-clause-fewer c = length-distinct

pub returns-clause-places : goal.returns-clause-places
returns-clause-places c = λ rs. All-from_recursion (λ n. n < length (distinct rs)) (codes_of rs) (codes_of-below rs)

pub returns-clause-spelled : goal.returns-clause-spelled
returns-clause-spelled c = codes_of-get
