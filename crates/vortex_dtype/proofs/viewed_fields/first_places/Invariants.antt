use Rattle.std.proofs.Common.{◌≡◌, ◌≤◌, ℕ, List}
use Rattle.std.specs.HashMap.{get_by}
use Rattle.std.specs.Str.{bytes_eq}
use Rattle.vortex_terms.specs.Types.{field_count}
use Rattle.vortex_schema.specs.Views.{fields_of}
use Rattle.vortex_dtype.proofs.Walked.{place_from}
use Rattle.vortex_dtype.proofs.viewed_fields.first_places.Given as goal

abbrev pub invariant-loop-i : goal.invariant-loop-i
invariant-loop-i l =
    (l.i ≤ field_count (fields_of l.fields))
    × ((q : List ℕ) → get_by (λ k. bytes_eq q k.now) l.places ≡ place_from (fields_of l.fields) q l.i)

abbrev pub decreases-loop-i : goal.decreases-loop-i
decreases-loop-i l = l.i
