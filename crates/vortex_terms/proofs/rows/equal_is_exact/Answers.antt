use Rattle.std.proofs.Common.{ap, sym, ◌∙◌}
use Rattle.vortex_terms.specs.Order.{row_cmp}
use Rattle.vortex_terms.specs.OrderLaws.{row_cmp-Equal, row_cmp-itself, row_eq-Decides}
use Rattle.vortex_terms.proofs.rows.equal_is_exact.Goals as goal

pub returns-clause-order : goal.returns-clause-order
returns-clause-order c = λ r s. (row_cmp-Equal r s, λ e. ap (λ x. row_cmp r x) (sym e) ∙ row_cmp-itself r)

pub returns-clause-test : goal.returns-clause-test
returns-clause-test c = row_eq-Decides
