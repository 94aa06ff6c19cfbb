use Rattle.std.proofs.Common.{◌≡◌, ◌≤◌, ◌<◌, ◌+◌, ◌*◌, length}
use Rattle.std.specs.List.{AllByRecursion}
use Rattle.vortex_terms.specs.Order.{rows_cmp}
use Rattle.vortex_array_data.specs.ArrayNode.{array_node_count}
use Rattle.vortex_array_data.specs.Column.{Column}
use Rattle.vortex_array_compare.specs.inner.ComparedRows.{rows_at, rows_beside, HaveRows}
use Rattle.vortex_array_compare.proofs.ComparedLists.{rows_between, under, AreRows, Compares}
use Rattle.vortex_array_data.proofs.HeldValues.{columns_count}
use Rattle.vortex_array_compare.proofs.compare_rows.+ordered.Given as goal

abbrev pub decreases-row_order : goal.decreases-row_order
decreases-row_order l = 2 * array_node_count l.array.now.node

abbrev pub decreases-rows_order : goal.decreases-rows_order
decreases-rows_order l = 2 * array_node_count l.array.now.node + 1

abbrev pub decreases-fields_order : goal.decreases-fields_order
decreases-fields_order l = 2 * columns_count l.fields.now + 1

-- what is left compares as all
abbrev pub invariant-rows_order-loop-rest : goal.invariant-rows_order-loop-rest
invariant-rows_order-loop-rest l = record {
  rise : l.i ≤ l.to;
  rows : AreRows l.array.dtype l.rest;
  same : Compares l.array.dtype l.array.rows l.i l.to l.rest
      (rows_cmp (rows_between l.array.rows l.from l.to) (under l.array.dtype l.values));
}

abbrev pub decreases-rows_order-loop-rest : goal.decreases-rows_order-loop-rest
decreases-rows_order-loop-rest l = length l.rest

abbrev pub invariant-fields_order-loop-rest : goal.invariant-fields_order-loop-rest
invariant-fields_order-loop-rest l = record {
  places : AllByRecursion (λ (f : Column). l.i < length f.rows) l.rest;
  rows : HaveRows l.rest l.others;
  fewer : columns_count l.rest ≤ columns_count l.fields;
  same : rows_cmp (rows_at l.i l.rest) (rows_beside l.rest l.others)
      ≡ rows_cmp (rows_at l.i l.fields) (rows_beside l.fields l.values);
}

abbrev pub decreases-fields_order-loop-rest : goal.decreases-fields_order-loop-rest
decreases-fields_order-loop-rest l = length l.rest
