use Rattle.vortex_terms.specs.OrderLaws.{row_cmp-null, int_cmp-pos, rows_cmp-slices, form-Less}
use Rattle.vortex_terms.proofs.rows.order_is_that_of_rust.Goals as goal

pub returns-clause-null_first : goal.returns-clause-null_first
returns-clause-null_first c = row_cmp-null

pub returns-clause-unsigned : goal.returns-clause-unsigned
returns-clause-unsigned c = int_cmp-pos

pub returns-clause-lists : goal.returns-clause-lists
returns-clause-lists c = rows_cmp-slices

pub returns-clause-forms : goal.returns-clause-forms
returns-clause-forms c = form-Less
