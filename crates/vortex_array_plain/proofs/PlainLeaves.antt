-- Numbers, texts and offsets of values.
use Rattle.std.proofs.Common.{◌≡◌, ◌≤◌, ◌<◌, ◌∙◌, ◌+◌, ℕ, ℤ, List, [], ◌∷◌, ◌++◌, IsTrue, map, length, take, get_or, refl, sym, ap, subst, arith}
use Rattle.std.specs.List.{flat_map, sum}
use Rattle.std.proofs.lemmas.List.{take_more}
use Rattle.vortex_number.specs.Format.{Format, fits}
use Rattle.vortex_terms.specs.Row.{Row, whole_row}
use Rattle.vortex_terms.specs.FromColumns.{last_from, pieces}
use Rattle.vortex_scalar_value.specs.Value.{ValueTerm}
use Rattle.vortex_leaves.specs.Numbers.{NumberBytes}
use Rattle.vortex_leaves.specs.Selected.{joined_offsets, AreNumbersOf}
use Rattle.vortex_leaves.specs.Texts.{TextBytes, text_pieces}
use Rattle.vortex_leaves.proofs.Joined.{joined_more, last-ends, length-joined, pieces_joined, AreJoinedAt}
use Rattle.vortex_array_plain.specs.PlainValues.{bytes_in}

-- ---- numbers

pub fits_there : (f g : Format) (z w : ℤ) → f ≡ g → z ≡ w → IsTrue (fits g w) → IsTrue (fits f z)
fits_there f g z w e s h = subst (λ (f : Format). IsTrue (fits f z)) (sym e) (subst (λ (z : ℤ). IsTrue (fits g z)) (sym s) h)

fused : {X : Type 0} (f : X → ℤ) (xs : List X) → map (λ x. whole_row (f x)) xs ≡ map whole_row (map f xs)
fused f [] = refl
fused f (x ∷ xs) = ap (λ (l : List Row). whole_row (f x) ∷ l) (fused f xs)

pub numbers_again : {X : Type 0} (g : Format) (number : X → ℤ) (f : ValueTerm → ℤ) (xs ys : List X) (vs : List ValueTerm) (a : NumberBytes)
    → xs ≡ ys → map number ys ≡ map f vs → AreNumbersOf g (map (λ x. whole_row (number x)) xs) a
    → AreNumbersOf g (map (λ v. whole_row (f v)) vs) a
numbers_again {X = X} g number f xs ys vs a s e h =
    subst (λ (rs : List Row). AreNumbersOf g rs a)
    (ap (λ (l : List X). map (λ x. whole_row (number x)) l) s ∙ fused number ys ∙ ap (map whole_row) e ∙ sym (fused f vs)) h

same_numbers : (zs : List ℤ) → map (λ (z : ℤ). z) zs ≡ zs
same_numbers [] = refl
same_numbers (z ∷ zs) = ap (λ (l : List ℤ). z ∷ l) (same_numbers zs)

pub decimals_again : (g : Format) (f : ValueTerm → ℤ) (xs ys : List ℤ) (vs : List ValueTerm) (a : NumberBytes)
    → xs ≡ ys → ys ≡ map f vs → AreNumbersOf g (map (λ x. whole_row x) xs) a → AreNumbersOf g (map (λ v. whole_row (f v)) vs) a
decimals_again g f xs ys vs a s e h = numbers_again g (λ (z : ℤ). z) f xs ys vs a s (same_numbers ys ∙ e) h

-- ---- offsets

-- one more size
pub size_more : (sizes : List ℕ) (i : ℕ) (os new : List ℕ) (end next : ℕ) → AreJoinedAt (λ n. n) (take i sizes) os end
    → i < length sizes → next ≡ end + get_or sizes i 0 → new ≡ os ++ (next ∷ []) → AreJoinedAt (λ n. n) (take (i + 1) sizes) new next
size_more sizes i os new end next h l n e =
    subst (λ (ks : List ℕ). AreJoinedAt (λ n. n) ks new next) (sym (take_more sizes i 0 l))
    (joined_more (λ n. n) (take i sizes) os new (get_or sizes i 0) end next h n e)

-- ---- texts

sizes_of : (vs : List ValueTerm) → map length (map bytes_in vs) ≡ map (λ v. length (bytes_in v)) vs
sizes_of [] = refl
sizes_of (v ∷ vs) = ap (λ (l : List ℕ). length (bytes_in v) ∷ l) (sizes_of vs)

joined_bytes : (vs : List ValueTerm) → flat_map bytes_in vs ≡ flat_map (λ p. p) (map bytes_in vs)
joined_bytes [] = refl
joined_bytes (v ∷ vs) = ap (λ (l : List ℕ). bytes_in v ++ l) (joined_bytes vs)

pub texts_within : (vs : List ValueTerm) (os bytes sizes : List ℕ) → os ≡ joined_offsets sizes
    → sizes ≡ map (λ v. length (bytes_in v)) vs → bytes ≡ flat_map bytes_in vs → last_from 0 os ≤ length bytes
texts_within vs os bytes sizes e s b =
    let sum_is : sum sizes ≡ sum (map length (map bytes_in vs)) = ap sum (s ∙ sym (sizes_of vs)) in
    let long : length bytes ≡ sum (map length (map bytes_in vs)) =
    ap length b ∙ ap length (joined_bytes vs) ∙ length-joined (map bytes_in vs) in
    omega (arith, ap (last_from 0) e, last-ends 0 sizes, sum_is, long)

pub texts_joined : (vs : List ValueTerm) (os bytes sizes : List ℕ) (t : TextBytes) → t ≡ record { offsets = os; bytes = bytes }
    → os ≡ joined_offsets sizes → sizes ≡ map (λ v. length (bytes_in v)) vs → bytes ≡ flat_map bytes_in vs
    → text_pieces t ≡ map bytes_in vs
texts_joined vs os bytes sizes t is e s b =
    ap text_pieces is ∙ ap (λ (l : List ℕ). pieces l bytes) (e ∙ ap joined_offsets (s ∙ sym (sizes_of vs)))
    ∙ ap (pieces (joined_offsets (map length (map bytes_in vs)))) (b ∙ joined_bytes vs) ∙ pieces_joined (map bytes_in vs)
