-- The least and the greatest number of a kind are the ends of its range.
use Rattle.std.proofs.Common.{◌≡◌, ◌↔◌, ℕ, zero, suc, ◌-◌, ◌^◌, ◌<◌, ◌≤◌, ℤ, pos, negsuc, neg_ℤ, Bool, true, false, ltb, sym, true≢false, arith, ◌≤ℤ◌, IsTrue}
use Rattle.std.specs.Prelude.{◌&&◌}
use Rattle.std.specs.Bool.{if◌then◌else◌}
use Rattle.std.proofs.lemmas.Bool.{ltb-true, lt-ltb}
use Rattle.std.proofs.lemmas.Int.{ints}
use Rattle.std.proofs.lemmas.Nat.{pow_pos}
use Rattle.vortex_number.specs.Format.{magnitude_bits}
use Rattle.vortex_number.specs.PType.{format_of, in_range, is_signed, greatest}
use Rattle.vortex_number.specs.declared.ptype.PType.{PType}
use Rattle.vortex_arithmetic.specs.Scaled.{least}

abbrev low : Bool → ℕ → ℤ
low s m = if s then neg_ℤ (pos m) else pos 0

above : (s : Bool) (m n : ℕ) → low s m ≤ℤ pos n
above true zero n = omega (arith, ints)
above true (suc m) n = omega (arith, ints)
above false m n = omega (arith, ints)

natural : (s : Bool) (m n : ℕ) → 0 < m → ltb n m ≡ true ↔ ((low s m ≤ℤ pos n) × (pos n ≤ℤ pos (m - 1)))
natural s m n some = (
  λ e. let h = ltb-true n m e in (above s m n, omega (arith, ints)),
  λ both. let h = both.1 in lt-ltb n m (let k : n ≤ m - 1 = omega (arith, ints, h) in omega arith),
)

negative : (s : Bool) (m n : ℕ) → 0 < m → (s && ltb n m) ≡ true ↔ ((low s m ≤ℤ negsuc n) × (negsuc n ≤ℤ pos (m - 1)))
negative false m n some = (λ e. absurd (true≢false (sym e)), λ both. absurd both.0.le)
negative true m n some = (
  λ e. let h = ltb-true n m e in (omega (arith, ints), omega (arith, ints)),
  λ both. let h = both.0 in lt-ltb n m (let k : suc n ≤ m = omega (arith, ints, h) in omega arith),
)

pub ends : (k : PType) (z : ℤ) → IsTrue (in_range k z) ↔ ((least k ≤ℤ z) × (z ≤ℤ pos (greatest k)))
ends k (pos n) = natural (is_signed k) (2 ^ magnitude_bits (format_of k)) n (pow_pos (magnitude_bits (format_of k)))
ends k (negsuc n) = negative (is_signed k) (2 ^ magnitude_bits (format_of k)) n (pow_pos (magnitude_bits (format_of k)))
