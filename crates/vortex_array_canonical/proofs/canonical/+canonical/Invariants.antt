use Rattle.std.proofs.Common.{◌≡◌, ◌≤◌, ◌+◌, ◌*◌, ◌++◌, false, List, length}
use Rattle.vortex_terms.specs.Weight.{weight}
use Rattle.vortex_types.specs.DTypes.{term_of}
use Rattle.vortex_array_data.specs.Column.{Column}
use Rattle.vortex_array_data.specs.inner.Picked.{are_plain_columns}
use Rattle.vortex_array_canonical.specs.inner.SameRows.{AnyHoldsMuch, AreCanonicalOf}
use Rattle.vortex_array_canonical.proofs.CanonicalRows.{columns_weight}
use Rattle.vortex_array_canonical.proofs.canonical.+canonical.Given as goal

abbrev pub decreases-canonical : goal.decreases-canonical
decreases-canonical l = 4 * weight l.array.now.dtype + 2

abbrev pub decreases-rebuilt : goal.decreases-rebuilt
decreases-rebuilt l = 4 * weight l.array.now.dtype + 1

abbrev pub decreases-canonical_content : goal.decreases-canonical_content
decreases-canonical_content l = 4 * weight (term_of l.dtype.now)

abbrev pub decreases-canonical_lists : goal.decreases-canonical_lists
decreases-canonical_lists l = 4 * weight l.elements.now.value.dtype + 3

abbrev pub decreases-canonical_fields : goal.decreases-canonical_fields
decreases-canonical_fields l = 4 * columns_weight l.fields.now + 3

-- what was made, and what is made of the rest, are made of all
abbrev pub invariant-canonical_fields-loop-rest : goal.invariant-canonical_fields-loop-rest
invariant-canonical_fields-loop-rest l = record {
  same : (ds : List Column) → AreCanonicalOf l.rest ds → AreCanonicalOf l.fields (l.out.items ++ ds);
  fewer : columns_weight l.rest ≤ columns_weight l.fields;
  constant : are_plain_columns l.rest ≡ false → are_plain_columns l.fields ≡ false;
  much : AnyHoldsMuch l.rest → AnyHoldsMuch l.fields;
}

abbrev pub decreases-canonical_fields-loop-rest : goal.decreases-canonical_fields-loop-rest
decreases-canonical_fields-loop-rest l = length l.rest
