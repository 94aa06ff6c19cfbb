use Rattle.std.proofs.Common.{ℕ, suc, ◌<◌}
use Rattle.vortex_dict.specs.Slices.{IsPiece}
use Rattle.vortex_dict.proofs.bytes_rows.are_pieces.Given as goal

abbrev pub invariant-loop-i : goal.invariant-loop-i
invariant-loop-i l = (k : ℕ) → suc k < l.i → IsPiece l.bytes l.offsets k
