-- Bytes that lie in a buffer.
use Rattle.std.proofs.Common.{◌≡◌, ℕ, ◌+◌, ◌*◌, ◌^◌, ◌≤◌, ◌<◌, true, leb, List, ◌++◌, length, take, drop, Some, refl, sym, ap, subst, ◌∙◌, append_assoc, arith, length-append}
use Rattle.std.proofs.lemmas.List.{take_at, drop_at}
use Rattle.std.proofs.lemmas.Bool.{le-leb}
use Rattle.std.proofs.lemmas.Nat.{from_le_bytes-to_le_bytes_2, from_le_bytes-to_le_bytes_4, from_le_bytes-to_le_bytes_8}
use Rattle.vortex_flat.specs.Numbers.{little_endian, number}
use Rattle.vortex_flat.specs.Tree.{Wide, one, two, four, eight, wide}
use Rattle.vortex_flat.specs.Layout.{low_first}
use Rattle.vortex_flat.proofs.NumbersLemmas.{spell_2, spell_4, spell_8}

-- xs lies in b from place i on
pub record At (b : List ℕ) (i : ℕ) (xs : List ℕ) : Type 0 where
  pub before : List ℕ
  pub behind : List ℕ
  pub parts : b ≡ before ++ (xs ++ behind)
  pub place : length before ≡ i

pub At-prefix : (b : List ℕ) (i : ℕ) (xs ys : List ℕ) → At b i (xs ++ ys) → At b i xs
At-prefix b i xs ys a = record { before = a.before; behind = ys ++ a.behind; parts = a.parts ∙ ap (λ (t : List ℕ). a.before ++ t) (append_assoc xs ys a.behind); place = a.place }

pub At-back : (b : List ℕ) (i : ℕ) (xs ys : List ℕ) → At b i (xs ++ ys) → At b (i + length xs) ys
At-back b i xs ys a = record {
  before = a.before ++ xs;
  behind = a.behind;
  parts = a.parts ∙ ap (λ (t : List ℕ). a.before ++ t) (append_assoc xs ys a.behind) ∙ sym (append_assoc a.before xs (ys ++ a.behind));
  place = omega (arith, length-append a.before xs, a.place);
}

-- the same, where the place is said in another way
pub At-behind : (b : List ℕ) (i j : ℕ) (xs ys : List ℕ) → At b i (xs ++ ys) → j ≡ i + length xs → At b j ys
At-behind b i j xs ys a e = subst (λ (k : ℕ). At b k ys) (sym e) (At-back b i xs ys a)

pub At-moved : (b : List ℕ) (i j : ℕ) (xs : List ℕ) → At b i xs → j ≡ i → At b j xs
At-moved b i j xs a e = subst (λ (k : ℕ). At b k xs) (sym e) a

pub At-same : (b : List ℕ) (i : ℕ) (xs ys : List ℕ) → At b i xs → xs ≡ ys → At b i ys
At-same b i xs ys a e = subst (λ (zs : List ℕ). At b i zs) e a

pub At-within : (b : List ℕ) (i : ℕ) (xs : List ℕ) → At b i xs → i + length xs ≤ length b
At-within b i xs a = omega (arith, ap length a.parts, length-append a.before (xs ++ a.behind), length-append xs a.behind, a.place)

pub At-piece : (b : List ℕ) (i : ℕ) (xs : List ℕ) → At b i xs → take (length xs) (drop i b) ≡ xs
At-piece b i xs a =
    let rest : drop i b ≡ xs ++ a.behind = ap (drop i) a.parts ∙ drop_at a.before (xs ++ a.behind) i a.place in
    ap (take (length xs)) rest ∙ take_at xs a.behind (length xs) refl

pub number_of : (b : List ℕ) (i : ℕ) (xs : List ℕ) → At b i xs → number b i (length xs) ≡ Some (little_endian xs)
unfolding number
number_of b i xs a =
    let within : leb (i + length xs) (length b) ≡ true = le-leb _ _ (At-within b i xs a) in
    rw within (ap (λ (ys : List ℕ). Some (little_endian ys)) (At-piece b i xs a))

-- a number that was spelled is read
spelled : (w : Wide) (n : ℕ) → n < 2 ^ (8 * wide w) → little_endian (low_first (wide w) n) ≡ n
spelled one n h = omega arith
spelled two n h = spell_2 (low_first 2 n) refl ∙ from_le_bytes-to_le_bytes_2 n h
spelled four n h = spell_4 (low_first 4 n) refl ∙ from_le_bytes-to_le_bytes_4 n h
spelled eight n h = spell_8 (low_first 8 n) refl ∙ from_le_bytes-to_le_bytes_8 n h

pub length-low_first : (w : Wide) (n : ℕ) → length (low_first (wide w) n) ≡ wide w
length-low_first one n = refl
length-low_first two n = refl
length-low_first four n = refl
length-low_first eight n = refl

pub number_at_place : (b : List ℕ) (i : ℕ) (w : Wide) (n : ℕ) → At b i (low_first (wide w) n) → n < 2 ^ (8 * wide w) → number b i (wide w) ≡ Some n
number_at_place b i w n a h =
    ap (number b i) (sym (length-low_first w n)) ∙ number_of b i (low_first (wide w) n) a ∙ ap Some (spelled w n h)
