use Rattle.std.proofs.Common.{◌≡◌, ◌≤◌, ℕ, List, drop, length}
use Rattle.std.specs.List.{position_from}
use Rattle.std.specs.HashMap.{get_by}
use Rattle.std.specs.Str.{bytes_eq}
use Rattle.vortex_types.proofs.name_index.first_places.Given as goal

abbrev pub invariant-loop-i : goal.invariant-loop-i
invariant-loop-i l =
    (l.i ≤ length l.names)
    × ((q : List ℕ) → get_by (λ k. bytes_eq q k.now) l.places ≡ position_from (λ y. bytes_eq y q) l.i (drop l.i l.names))

abbrev pub decreases-loop-i : goal.decreases-loop-i
decreases-loop-i l = l.i
