use Rattle.vortex_terms.specs.Weight.{weight}
use Rattle.vortex_types.specs.TypeRefs.{ref_term}
use Rattle.vortex_value_rows.proofs.part_types.+try_parts.Given as goal

abbrev pub decreases-try_parts : goal.decreases-try_parts
decreases-try_parts l = weight (ref_term l.of)
