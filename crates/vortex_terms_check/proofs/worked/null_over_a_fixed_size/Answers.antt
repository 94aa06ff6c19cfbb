use Rattle.std.proofs.Common.{append-nil, ap, ◌∙◌, ◌∷◌, [], false}
use Rattle.vortex_terms.specs.Term.{primitive}
use Rattle.vortex_terms.specs.Row.{copies}
use Rattle.vortex_terms.specs.RowLaws.{copies-are}
use Rattle.vortex_terms.specs.Default.{default_row}
use Rattle.vortex_terms_check.proofs.Limits.{limit}
use Rattle.vortex_terms_check.proofs.worked.null_over_a_fixed_size.Goals as goal

pub returns-clause-rows : goal.returns-clause-rows
returns-clause-rows c = λ k w. ap (λ rs. (primitive w false, rs) ∷ []) (append-nil (copies k (default_row (primitive w false))) ∙ copies-are k (default_row (primitive w false)))

pub returns-clause-limit : goal.returns-clause-limit
returns-clause-limit c = limit
