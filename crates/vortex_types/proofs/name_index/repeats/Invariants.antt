use Rattle.std.proofs.Common.{◌≡◌, ◌≤◌, ℕ, List, drop, length, false}
use Rattle.std.specs.Prelude.{is_some}
use Rattle.std.specs.List.{list_any}
use Rattle.std.specs.HashMap.{get_by}
use Rattle.std.specs.Str.{bytes_eq}
use Rattle.vortex_terms.specs.StructFields.{name_repeats}
use Rattle.vortex_types.proofs.name_index.repeats.Given as goal

abbrev pub invariant-loop-i : goal.invariant-loop-i
invariant-loop-i l =
    (l.i ≤ length l.names)
    × ((q : List ℕ) → is_some (get_by (λ k. bytes_eq q k.now) l.places) ≡ list_any (bytes_eq q) (drop l.i l.names))
    × (name_repeats (drop l.i l.names) ≡ false)

abbrev pub decreases-loop-i : goal.decreases-loop-i
decreases-loop-i l = l.i
