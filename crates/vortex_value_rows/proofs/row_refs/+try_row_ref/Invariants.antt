use Rattle.vortex_terms.specs.Weight.{weight}
use Rattle.vortex_types.specs.TypeRefs.{ref_term}
use Rattle.vortex_value_rows.proofs.row_refs.+try_row_ref.Given as goal

abbrev pub decreases-try_row_ref : goal.decreases-try_row_ref
decreases-try_row_ref l = weight (ref_term l.of)
