-- Parts of a mask by its form.
use Rattle.std.proofs.Common.{◌≡◌, ℕ, zero, suc, ◌+◌, ◌-◌, ◌*◌, ◌%◌, ◌^◌, ◌≤◌, min, Bool, true, false, List, length, take, drop, replicate, slice_range, arith, refl, sym, ap, ◌∙◌, inl, inr}
use Rattle.std.proofs.lemmas.Bool.{cases_lt}
use Rattle.std.proofs.lemmas.List.{take-take, take_all, drop-drop, drop-take, length-replicate, take-replicate, drop-replicate}
use Rattle.std.proofs.lemmas.Nat.{pow_pos, one_shl}
use Rattle.std.proofs.Math.Nat.{pow-suc}
use Rattle.std.specs.List.{flat_map}
use Rattle.vortex_mask.specs.Bits.{bits_of_byte}
use Rattle.vortex_mask.specs.Truths.{number_of}
use Rattle.vortex_mask.specs.Shown.{shown, IsHeld}
use Rattle.vortex_mask.specs.declared.mask.Content.{Content}
use Rattle.vortex_mask.specs.declared.mask.Content.TheVariants as content
use Rattle.vortex_mask.proofs.Held.{length-shown}
use Rattle.vortex_mask.proofs.Eights.{eight_of}

number_of_trues : (k : ℕ) → number_of (replicate k true) ≡ 2 ^ k - 1
number_of_trues zero = refl
number_of_trues (suc k) = rw (number_of_trues k, pow-suc 2 k) (omega (arith, pow_pos k))

number_of_falses : (k : ℕ) → number_of (replicate k false) ≡ 0
number_of_falses zero = refl
number_of_falses (suc k) = rw (number_of_falses k) refl

take_replicate : {A : Type 0} (n k : ℕ) (b : A) → take k (replicate n b) ≡ replicate (min n k) b
take_replicate n k b = elim (cases_lt n k) [
  | inl h ↦ (let e : min n k ≡ n = omega arith in rw e (take_all k (replicate n b) (omega (arith, length-replicate n b))))
  | inr h ↦ (let e : min n k ≡ k = omega arith in rw e (take-replicate k n b h))
]

eight_replicated : (n p : ℕ) (b : Bool) → take 8 (drop p (replicate n b)) ≡ replicate (min (n - p) 8) b
eight_replicated n p b = rw (drop-replicate p n b) (take_replicate (n - p) 8 b)

pub trues_byte : (w : ℕ) → w ≤ 8 → 1 * 2 ^ w % 65536 - 1 ≡ number_of (replicate w true)
trues_byte w h =
    let o : 1 * 2 ^ w % 65536 ≡ 2 ^ w = one_shl w 16 (omega arith) in
    rw (number_of_trues w, o) refl

pub falses_byte : (w : ℕ) → 0 ≡ number_of (replicate w false)
falses_byte w = sym (number_of_falses w)

-- a mask that is one value
pub all_seen : (c : Content) (n : ℕ) (b : Bool) (m : List Bool) → shown c n ≡ m → c ≡ content.All b → m ≡ replicate n b
all_seen c n b m v e = sym v ∙ ap (λ (x : Content). shown x n) e

-- a mask of bits
pub bits_seen : (c : Content) (n : ℕ) (bytes : List ℕ) (from : ℕ) (m : List Bool) → shown c n ≡ m → c ≡ content.Bits bytes from → m ≡ take n (drop from (flat_map bits_of_byte bytes))
bits_seen c n bytes from m v e = sym v ∙ ap (λ (x : Content). shown x n) e

pub seen_length : (c : Content) (n : ℕ) (m : List Bool) → IsHeld c n → shown c n ≡ m → length m ≡ n
seen_length c n m h v = ap length (sym v) ∙ length-shown c n h

pub byte_of_all : (n p w l : ℕ) (b : Bool) (m : List Bool) → m ≡ replicate n b → l ≡ n → w ≡ min (l - p) 8 → number_of (replicate w b) ≡ number_of (take 8 (drop p m))
byte_of_all n p w l b m e f g = rw (e, eight_replicated n p b, g, f) refl

pub byte_of_bits : (n p w l from : ℕ) (bytes : List ℕ) (m : List Bool) → m ≡ take n (drop from (flat_map bits_of_byte bytes)) → l ≡ n → p ≤ l → w ≡ min (l - p) 8 → number_of (take w (drop (from + p) (flat_map bits_of_byte bytes))) ≡ number_of (take 8 (drop p m))
byte_of_bits n p w l from bytes m e f h g =
    let q : p ≤ n = omega arith in
    rw (e, eight_of n p from (flat_map bits_of_byte bytes) q, g, f) refl

pub slice_replicated : (n from to : ℕ) (b : Bool) → to ≤ n → replicate (to - from) b ≡ slice_range (replicate n b) from to
slice_replicated n from to b h = rw (drop-replicate from n b) (sym (take-replicate (to - from) (n - from) b (omega arith)))

pub slice_of : {A : Type 0} (n p from to : ℕ) (xs : List A) → from ≤ to → to ≤ n → take (to - from) (drop (p + from) xs) ≡ slice_range (take n (drop p xs)) from to
slice_of n p from to xs l h =
    let e : n ≡ from + (n - from) = omega arith in
    let d : drop from (take n (drop p xs)) ≡ take (n - from) (drop (p + from) xs) =
    ap (λ (k : ℕ). drop from (take k (drop p xs))) e
    ∙ drop-take from (n - from) (drop p xs)
    ∙ ap (take (n - from)) (drop-drop from p xs) in
    rw d (sym (take-take (to - from) (n - from) (drop (p + from) xs) (omega arith)))
