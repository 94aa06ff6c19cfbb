-- Masks, place by place.
use Rattle.std.proofs.Common.{◌≡◌, ℕ, zero, suc, ◌+◌, ◌*◌, ◌^◌, ◌<◌, Bool, true, false, ◌&&◌, List, [], ◌∷◌, ◌++◌, map, length, take, drop, replicate, bit_and, if◌then◌else◌, arith, refl, sym, ap, ◌∙◌}
use Rattle.std.proofs.lemmas.Nat.{and_block}
use Rattle.std.specs.Int.Bits.{and_zero_r}
use Rattle.std.specs.Simd.{first_chunks}
use Rattle.vortex_mask.specs.Truths.{both, number_of}
use Rattle.vortex_mask.proofs.Packs.{packed_more}

pub both_trues : (m : List Bool) → both (replicate (length m) true) m ≡ m
both_trues [] = refl
both_trues (b ∷ m) = ap (λ (n : List Bool). b ∷ n) (both_trues m)

pub both_falses : (m : List Bool) → both (replicate (length m) false) m ≡ replicate (length m) false
both_falses [] = refl
both_falses (b ∷ m) = ap (λ (n : List Bool). false ∷ n) (both_falses m)

and_turned : (a b : Bool) → (a && b) ≡ (b && a)
and_turned true true = refl
and_turned true false = refl
and_turned false true = refl
and_turned false false = refl

both_turned : (m n : List Bool) → both m n ≡ both n m
both_turned [] [] = refl
both_turned [] (b ∷ n) = refl
both_turned (a ∷ m) [] = refl
both_turned (a ∷ m) (b ∷ n) = rw (and_turned a b, both_turned m n) refl

pub both_all_true : (m : List Bool) (b : Bool) → b ≡ true → both (replicate (length m) b) m ≡ m
both_all_true m b e = rw e (both_trues m)

pub both_all_false : (m : List Bool) (b : Bool) → b ≡ false → both (replicate (length m) b) m ≡ replicate (length m) false
both_all_false m b e = rw e (both_falses m)

pub both_second : (m n : List Bool) (b : Bool) → n ≡ replicate (length n) b → length m ≡ length n → both (replicate (length m) b) m ≡ both m n
both_second m n b e h =
    both_turned (replicate (length m) b) m ∙ ap (both m) (ap (λ (k : ℕ). replicate k b) h ∙ sym e)

pub length-both : (m n : List Bool) → length m ≡ length n → length (both m n) ≡ length m
length-both [] n h = refl
length-both (a ∷ m) [] h = absurd (omega arith)
length-both (a ∷ m) (b ∷ n) h = ap suc (length-both m n (omega arith))

both_nothing : (m : List Bool) → both m [] ≡ []
both_nothing [] = refl
both_nothing (a ∷ m) = refl

take_both : (k : ℕ) (m n : List Bool) → take k (both m n) ≡ both (take k m) (take k n)
take_both zero m n = refl
take_both (suc k) [] n = refl
take_both (suc k) (a ∷ m) [] = refl
take_both (suc k) (a ∷ m) (b ∷ n) = ap (λ (x : List Bool). (a && b) ∷ x) (take_both k m n)

drop_both : (k : ℕ) (m n : List Bool) → drop k (both m n) ≡ both (drop k m) (drop k n)
drop_both zero m n = refl
drop_both (suc k) [] n = refl
drop_both (suc k) (a ∷ m) [] = sym (both_nothing (drop k m))
drop_both (suc k) (a ∷ m) (b ∷ n) = drop_both k m n

bits_and : (a b : Bool) → bit_and (if a then 1 else 0) (if b then 1 else 0) ≡ (if a && b then 1 else 0)
bits_and true true = refl
bits_and true false = refl
bits_and false true = refl
bits_and false false = refl

bit_small : (b : Bool) → (if b then 1 else 0) < 2 ^ 1
bit_small true = omega arith
bit_small false = omega arith

no_bits : (n : ℕ) → bit_and n 0 ≡ 0
no_bits n = and_zero_r n

number_of_both : (m n : List Bool) → number_of (both m n) ≡ bit_and (number_of m) (number_of n)
number_of_both [] n = refl
number_of_both (a ∷ m) [] = sym (no_bits (number_of (a ∷ m)))
number_of_both (a ∷ m) (b ∷ n) =
    let e : number_of (a ∷ m) ≡ number_of m * 2 ^ 1 + (if a then 1 else 0) = omega arith in
    let f : number_of (b ∷ n) ≡ number_of n * 2 ^ 1 + (if b then 1 else 0) = omega arith in
    let g : bit_and (number_of (a ∷ m)) (number_of (b ∷ n)) ≡ bit_and (number_of m) (number_of n) * 2 ^ 1 + bit_and (if a then 1 else 0) (if b then 1 else 0) =
    ap (λ (x : ℕ). bit_and x (number_of (b ∷ n))) e
    ∙ ap (bit_and (number_of m * 2 ^ 1 + (if a then 1 else 0))) f
    ∙ and_block 1 (number_of m) (number_of n) (if a then 1 else 0) (if b then 1 else 0) (bit_small a) (bit_small b) in
    omega (arith, g, bits_and a b, number_of_both m n)

byte_of_both : (m n : List Bool) (p : ℕ) → number_of (take 8 (drop p (both m n))) ≡ bit_and (number_of (take 8 (drop p m))) (number_of (take 8 (drop p n)))
byte_of_both m n p =
    ap (λ (x : List Bool). number_of (take 8 x)) (drop_both p m n)
    ∙ ap number_of (take_both 8 (drop p m) (drop p n))
    ∙ number_of_both (take 8 (drop p m)) (take 8 (drop p n))

-- a step of the loop
pub both_more : (m n : List Bool) (i a b : ℕ) (bytes after : List ℕ) → bytes ≡ map number_of (first_chunks 8 i (both m n)) → a ≡ number_of (take 8 (drop (8 * i) m)) → b ≡ number_of (take 8 (drop (8 * i) n)) → after ≡ bytes ++ bit_and a b ∷ [] → after ≡ map number_of (first_chunks 8 (i + 1) (both m n))
both_more m n i a b bytes after e f g h =
    let k : bit_and a b ≡ number_of (take 8 (drop (8 * i) (both m n))) = rw (f, g) (sym (byte_of_both m n (8 * i))) in
    h ∙ packed_more (both m n) i (bit_and a b) bytes e k
