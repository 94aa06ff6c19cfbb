use Rattle.std.proofs.Common.{◌≡◌}
use Rattle.vortex_terms.specs.Types.{place_of}
use Rattle.vortex_types.specs.Accessors.{fields_of}
use Rattle.vortex_types.specs.TypeRefs.{ref_term}
use Rattle.vortex_dtype.proofs.Walked.{place_from}
use Rattle.vortex_dtype.proofs.paths.first_of_name.Given as goal

abbrev pub invariant-loop-i : goal.invariant-loop-i
invariant-loop-i l = place_from (fields_of (ref_term l.r)) l.name l.i ≡ place_of (fields_of (ref_term l.r)) l.name
