-- Writing the groups of a number from the lowest on.
use Rattle.std.proofs.Common.{◌≡◌, ℕ, zero, suc, ◌+◌, ◌-◌, ◌*◌, ◌/◌, ◌%◌, ◌^◌, ◌<◌, ◌≤◌, List, [], ◌∷◌, ◌++◌, length, take, set, Option, Some, ltb, refl, sym, ap, ◌∙◌, subst, append_assoc, arith, inl, inr, All, length-set}
use Rattle.std.proofs.Math.Nat.{pow-suc}
use Rattle.std.proofs.lemmas.Nat.{shr_below, div_below}
use Rattle.std.proofs.lemmas.Option.{some_pair_parts, option_and_then_some, cond_some, none-some}
use Rattle.std.proofs.lemmas.Bool.{lt-ltb, le-ltb, cases_lt}
use Rattle.std.proofs.lemmas.List.{take_more_set}
use Rattle.vortex_prelude.specs.Chain.{◌>>=◌}
use Rattle.vortex_wire.specs.Varint.{groups_at, varint_at, groups_of, varint}

-- The buffer has the groups that were taken off v, and left is what they left.
pub record WritesOn (v : ℕ) (buffer : List ℕ) (len left : ℕ) : Type 0 where
  pub within : len ≤ 9
  pub size : length buffer ≡ 10
  pub below : left < 2 ^ (64 - 7 * len)
  pub so_far : take len buffer ++ groups_of (9 - len) left ≡ varint v

pub writes_from_start : (v : ℕ) (buffer : List ℕ) → v < 2 ^ 64 → length buffer ≡ 10 → WritesOn v buffer 0 v
unfolding varint
writes_from_start v buffer h size = record { within = omega arith; size = size; below = h; so_far = refl }

lone : (most n : ℕ) → n < 128 → groups_of most n ≡ n ∷ []
unfolding groups_of
lone zero n h = refl
lone (suc most) n h = rw (lt-ltb n 128 h) refl

longer : (most n : ℕ) → 128 ≤ n → groups_of (suc most) n ≡ (128 + n % 128) ∷ groups_of most (n / 128)
unfolding groups_of
longer most n h = rw (le-ltb n 128 h) refl

-- what is 128 or more leaves room for another group
pub room : (v : ℕ) (buffer : List ℕ) (len left : ℕ) → WritesOn v buffer len left → 128 ≤ left → len < 9
room v buffer len left on large = elim (cases_lt len 9) [
  | inl h ↦ h
  | inr h ↦
      let nine : len ≡ 9 = omega (arith, on.within) in
      let small : left < 2 = subst (λ (k : ℕ). left < 2 ^ (64 - 7 * k)) nine on.below in
      absurd (omega arith)
]

pub writes_more : (v : ℕ) (buffer : List ℕ) (len left x : ℕ) → WritesOn v buffer len left → 128 ≤ left → x ≡ left % 128 + 128 → WritesOn v (set buffer len x) (len + 1) (left / 128)
writes_more v buffer len left x on large is =
    let lt : len < 9 = room v buffer len left on large in
    let bits : 64 - 7 * len ≡ (64 - 7 * (len + 1)) + 7 = omega arith in
    let k : 9 - len ≡ suc (9 - (len + 1)) = omega arith in
    let byte : 128 + left % 128 ≡ x = omega arith in
    let groups : groups_of (9 - len) left ≡ x ∷ groups_of (9 - (len + 1)) (left / 128) = rw k (longer _ left large ∙ ap (λ (b : ℕ). b ∷ groups_of (9 - (len + 1)) (left / 128)) byte) in
    let front : take (len + 1) (set buffer len x) ≡ take len buffer ++ x ∷ [] = take_more_set buffer len x (omega (arith, on.size)) in
    record {
      within = omega arith;
      size = simp length-set on.size;
      below = shr_below left (64 - 7 * (len + 1)) 7 (subst (λ (k : ℕ). left < 2 ^ k) bits on.below);
      so_far = rw front (append_assoc (take len buffer) (x ∷ []) (groups_of (9 - (len + 1)) (left / 128)) ∙ ap (λ (g : List ℕ). take len buffer ++ g) (sym groups) ∙ on.so_far);
    }

pub writes_last : (v : ℕ) (buffer : List ℕ) (len left : ℕ) → WritesOn v buffer len left → left < 128 → take (len + 1) (set buffer len left) ≡ varint v
writes_last v buffer len left on small =
    take_more_set buffer len left (omega (arith, on.size, on.within)) ∙ ap (λ (g : List ℕ). take len buffer ++ g) (sym (lone (9 - len) left small)) ∙ on.so_far

-- ---- what is written is read again, whatever follows

smaller : (n most : ℕ) → n < 128 ^ (suc (suc most)) → n / 128 < 128 ^ (suc most)
smaller n most h = div_below n 128 (128 ^ (suc most)) (omega arith) (subst (λ (m : ℕ). n < m) (pow-suc 128 (suc most)) h)

groups_again : (most n : ℕ) (rest : List ℕ) → n < 128 ^ (suc most) → groups_at (suc most) (groups_of most n ++ rest) ≡ Some (n, rest)
unfolding groups_at groups_of
groups_again zero n rest h = rw (lt-ltb n 128 h) refl
groups_again (suc most) n rest h = elim (cases_lt n 128) [
  | inl small ↦ rw (lt-ltb n 128 small) (rw (lt-ltb n 128 small) refl)
  | inr large ↦
      let fits : n / 128 < 128 ^ (suc most) = smaller n most h in
      let high = groups_again most (n / 128) rest fits in
      let back : 128 + n % 128 - 128 + 128 * (n / 128) ≡ n = omega arith in
      rw (le-ltb n 128 large) (rw (le-ltb (128 + n % 128) 128 (omega arith), high) (ap (λ (k : ℕ). Some (k, rest)) back))
]

pub varint_again : (v : ℕ) (rest : List ℕ) → v < 2 ^ 64 → varint_at (varint v ++ rest) ≡ Some (v, rest)
unfolding varint_at varint
varint_again v rest h = rw (groups_again 9 v rest (omega arith)) (rw (lt-ltb v (2 ^ 64) h) refl)

-- ---- no other spelling is shorter

lone_length : (most n : ℕ) → n < 128 → length (groups_of most n) ≡ 1
lone_length most n h = ap length (lone most n h)

one_longer : (most n high : ℕ) → n / 128 ≡ high → length (groups_of (suc most) n) ≤ suc (length (groups_of most high))
one_longer most n high e = elim (cases_lt n 128) [
  | inl small ↦ omega (arith, lone_length (suc most) n small)
  | inr large ↦ omega (arith, ap length (longer most n large), ap (λ (h : ℕ). length (groups_of most h)) e)
]

shortest_high : (k most : ℕ) (bytes : List ℕ) (x : ℕ × List ℕ) (b n : ℕ) (rest : List ℕ) → 128 ≤ b → b < 256 → ◌≡◌ {A = Option (ℕ × List ℕ)} (Some (b - 128 + 128 * x.0, x.1)) (Some (n, rest))
    → length (groups_of most x.0) + length x.1 ≤ length bytes → length (groups_of (suc most) n) + length rest ≤ suc (length bytes)
shortest_high k most bytes x b n rest large byte e high =
    let parts = some_pair_parts (b - 128 + 128 * x.0) n x.1 rest e in
    let quotient : n / 128 ≡ x.0 = omega (arith, parts.0) in
    omega (arith, one_longer most n x.0 quotient, high, ap length parts.1)

groups_shortest : (k most : ℕ) (bytes : List ℕ) (n : ℕ) (rest : List ℕ) → k ≤ suc most → All (λ b. b < 256) bytes → groups_at k bytes ≡ Some (n, rest)
    → length (groups_of most n) + length rest ≤ length bytes
unfolding groups_at
groups_shortest zero most bytes n rest fits bounds e = absurd cc
groups_shortest (suc k) most [] n rest fits bounds e = absurd cc
groups_shortest (suc zero) zero (b ∷ bytes) n rest fits bounds e = elim (cases_lt b 128) [
  | inl small ↦
      let parts = some_pair_parts b n bytes rest (rw (lt-ltb b 128 small) at e) in
      omega (arith, lone_length zero n (omega (arith, parts.0)), ap length parts.1)
  | inr large ↦ let none = rw (le-ltb b 128 large) at e in absurd (none-some (n, rest) none)
]
groups_shortest (suc (suc k)) zero (b ∷ bytes) n rest fits bounds e = absurd (omega arith)
groups_shortest (suc k) (suc most) (b ∷ bytes) n rest fits bounds e = elim (cases_lt b 128) [
  | inl small ↦
      let parts = some_pair_parts b n bytes rest (rw (lt-ltb b 128 small) at e) in
      omega (arith, lone_length (suc most) n (omega (arith, parts.0)), ap length parts.1)
  | inr large ↦
      let byte : b < 256 = bounds 0 0 (omega arith) in
      let others : All (λ b. b < 256) bytes = λ i d lt. bounds (suc i) d (omega arith) in
      let fewer : k ≤ suc most = omega arith in
      let later : (groups_at k bytes >>= λ high. Some (b - 128 + 128 * high.0, high.1)) ≡ Some (n, rest) = rw (le-ltb b 128 large) at e in
      option_and_then_some (λ high. Some (b - 128 + 128 * high.0, high.1)) (groups_at k bytes) (n, rest) later
      (λ x found made. shortest_high k most bytes x b n rest large byte made (groups_shortest k most bytes x.0 x.1 fewer others found))
]

pub varint_shortest : (v : ℕ) (bytes rest : List ℕ) → All (λ b. b < 256) bytes → varint_at bytes ≡ Some (v, rest) → length (varint v) + length rest ≤ length bytes
unfolding varint_at varint
varint_shortest v bytes rest bounds e =
    option_and_then_some _ (groups_at 10 bytes) (v, rest) e
    (λ x found made. let same = (cond_some (ltb x.0 (2 ^ 64)) x (v, rest) made).1 in
    groups_shortest 10 9 bytes v rest (omega arith) bounds (found ∙ ap (λ (y : ℕ × List ℕ). Some y) same))
