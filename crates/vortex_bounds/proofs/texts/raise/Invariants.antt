use Rattle.std.proofs.Common.{◌≡◌}
use Rattle.vortex_bounds.proofs.TextLemmas.{NoneBehind}
use Rattle.vortex_bounds.proofs.texts.raise.Given as goal

abbrev pub invariant-loop-place : goal.invariant-loop-place
invariant-loop-place l =
    (goal.iterator-loop-place).can_next l.place-iterator
    × (goal.iterator-loop-place).is_finite l.place-iterator
    × (l.place-iterator.iter.at ≡ 0)
    × NoneBehind l.fn.text l.place-iterator.iter.rest.now
