use Rattle.std.proofs.Common.{◌-◌, ◌^◌}
use Rattle.vortex_terms.specs.Parts.{byte_count}
use Rattle.vortex_terms_check.specs.Plain.{row_of}
use Rattle.vortex_terms_check.proofs.Sums.{counted_later, counted_here}
use Rattle.vortex_terms_check.proofs.sizes.+distinct_bytes.Goals as goal

pub returns-then-stands : goal.returns-then-stands
returns-then-stands t c = counted_later row_of byte_count c.args.rows.now c.first-item.result c.stands.result c.distinct_bytes.result (2 ^ 64 - 1) c.in-len1-up.len_at_least c.first-item.is c.stands.ensures c.if-stands.true c.distinct_bytes.ensures

pub returns-else-stands : goal.returns-else-stands
returns-else-stands t c = counted_here row_of byte_count c.args.rows.now c.first-item.result c.stands.result c.byte_count.result c.distinct_bytes-else-stands.result c.saturating_add.result (2 ^ 64 - 1) c.in-len1-up.len_at_least c.first-item.is c.stands.ensures c.if-stands.false c.byte_count.ensures c.distinct_bytes-else-stands.ensures c.saturating_add.ensures
