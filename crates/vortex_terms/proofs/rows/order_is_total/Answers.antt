use Rattle.vortex_terms.specs.OrderLaws.{row_cmp_total}
use Rattle.vortex_terms.proofs.rows.order_is_total.Goals as goal

pub returns : goal.returns
returns c = row_cmp_total
