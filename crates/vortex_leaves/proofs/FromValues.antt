-- Values that are written one behind the other, and read again.
use Rattle.std.proofs.Common.{◌≡◌, ◌<◌, ◌+◌, ◌-◌, ◌*◌, ℕ, ℤ, pos, suc, List, [], ◌∷◌, ◌++◌, true, IsTrue, map, length, take, drop, get_or, refl, sym, ap, ◌∙◌, arith, subst, length-append}
use Rattle.std.specs.List.{AllByRecursion, flat_map}
use Rattle.std.specs.Int.{byte_len, w32}
use Rattle.std.proofs.lemmas.Bool.{ltb-true}
use Rattle.std.proofs.lemmas.List.{length-map, take_at, drop_at, take_more, append-nil}
use Rattle.std.proofs.lemmas.Grind.{flat_map-append}
use Rattle.vortex_number.specs.Format.{Format, unsigned, fits, bits_of, bytes_of}
use Rattle.vortex_number.specs.inner.FormatLaws.{number_with_bytes-bytes_of, number_of_le_bytes-le_bytes, length-le_bytes}
use Rattle.vortex_value.specs.declared.decimal.DecimalValueType.{DecimalValueType}
use Rattle.vortex_value.specs.declared.decimal.DecimalValueType.TheVariants as width
use Rattle.vortex_value.specs.DecimalValue.{decimal_format as width_format}
use Rattle.vortex_terms.specs.Types.{IsBytes}
use Rattle.vortex_terms.specs.Row.{whole_row}
use Rattle.vortex_node_rows.specs.Leaves.{numbers_in}
use Rattle.vortex_node_rows.specs.Buffers.{never_fall, numbers_32}
use Rattle.vortex_leaves.specs.Numbers.{AreNumbers}
use Rattle.vortex_leaves.specs.Selected.{AreNumbersOf}
use Rattle.vortex_leaves.specs.Texts.{HoldOffsets}

-- the bytes of all of them
abbrev pub written : {X : Type 0} → Format → (X → ℤ) → List X → List ℕ
written f number xs = flat_map (λ x. bytes_of f (number x)) xs

-- each has a place in the format
abbrev pub AreFit : {X : Type 0} → Format → (X → ℤ) → List X → Type 0
AreFit f number xs = AllByRecursion (λ x. IsTrue (fits f (number x))) xs

-- ---- one value more

pub written_more : {X : Type 0} (f : Format) (number : X → ℤ) (xs : List X) (i : ℕ) (x : X) (old new c : List ℕ)
    → i < length xs → x ≡ get_or xs i x → old ≡ written f number (take i xs) → c ≡ bytes_of f (number x)
    → new ≡ old ++ c → new ≡ written f number (take (i + 1) xs)
written_more {X = X} f number xs i x old new c l at e w n =
    let out = λ (y : X). bytes_of f (number y) in
    let more : take (i + 1) xs ≡ take i xs ++ get_or xs i x ∷ [] = take_more xs i x l in
    let last : c ≡ flat_map out (get_or xs i x ∷ []) = w ∙ ap out at ∙ sym (append-nil (out (get_or xs i x))) in
    n ∙ ap (λ (b : List ℕ). b ++ c) e ∙ ap (λ (b : List ℕ). written f number (take i xs) ++ b) last
    ∙ sym (flat_map-append out (take i xs) (get_or xs i x ∷ [])) ∙ ap (flat_map out) (sym more)

all_behind : {X : Type 0} (P : X → Type 0) (xs : List X) (y : X) → AllByRecursion P xs → P y
    → AllByRecursion P (xs ++ y ∷ [])
all_behind P [] y h k = (k, tt)
all_behind P (x ∷ xs) y h k = (h.0, all_behind P xs y h.1 k)

pub fit_more : {X : Type 0} (f : Format) (number : X → ℤ) (xs : List X) (i : ℕ) (x : X) → i < length xs
    → x ≡ get_or xs i x → AreFit f number (take i xs) → IsTrue (fits f (number x)) → AreFit f number (take (i + 1) xs)
fit_more {X = X} f number xs i x l at h k =
    let P : X → Type 0 = λ y. IsTrue (fits f (number y)) in
    subst (AllByRecursion P) (sym (take_more xs i x l))
    (all_behind P (take i xs) (get_or xs i x) h (subst P at k))

-- ---- all of them

length-written : {X : Type 0} (f : Format) (number : X → ℤ) (xs : List X)
    → length (written f number xs) ≡ length xs * byte_len f.width
length-written f number [] = omega arith
length-written f number (x ∷ xs) =
    omega (
      arith,
      length-append (bytes_of f (number x)) (written f number xs),
      length-le_bytes f.width (bits_of f (number x)),
      length-written f number xs,
    )

numbers_written : {X : Type 0} (f : Format) (number : X → ℤ) (xs : List X) → AreFit f number xs
    → numbers_in f (length xs) (written f number xs) ≡ map (λ x. whole_row (number x)) xs
numbers_written f number [] h = refl
numbers_written f number (x ∷ xs) h =
    let c : List ℕ = bytes_of f (number x) in
    let rest : List ℕ = written f number xs in
    let long : length c ≡ byte_len f.width = length-le_bytes f.width (bits_of f (number x)) in
    let first : take (byte_len f.width) (c ++ rest) ≡ c = take_at c rest (byte_len f.width) long in
    let others : drop (byte_len f.width) (c ++ rest) ≡ rest = drop_at c rest (byte_len f.width) long in
    rw (first, others, numbers_written f number xs h.1)
    (ap (λ z. whole_row z ∷ map (λ x. whole_row (number x)) xs) (number_with_bytes-bytes_of f (number x) h.0))

offsets_written : (os : List ℕ) → AreFit (unsigned w32) pos os
    → numbers_32 (length os) (written (unsigned w32) pos os) ≡ os
offsets_written [] h = refl
offsets_written (o ∷ os) h =
    let c : List ℕ = bytes_of (unsigned w32) (pos o) in
    let rest : List ℕ = written (unsigned w32) pos os in
    let long : length c ≡ 4 = length-le_bytes w32 o in
    let first : take 4 (c ++ rest) ≡ c = take_at c rest 4 long in
    let others : drop 4 (c ++ rest) ≡ rest = drop_at c rest 4 long in
    rw (first, others, offsets_written os h.1)
    (ap (λ (j : ℕ). j ∷ os) (number_of_le_bytes-le_bytes w32 o (ltb-true _ _ h.0)))

-- ---- what is held

pub numbers_made : {X : Type 0} (f g : Format) (number : X → ℤ) (xs : List X) (vec bytes part : List ℕ) (n : ℕ)
    → g ≡ f → vec ≡ written f number xs → bytes ≡ vec → n ≡ length xs → part ≡ bytes → IsBytes part
    → AreFit f number xs → AreNumbers (record { format = g; count = n; bytes = bytes })
    × AreNumbersOf f (map (λ x. whole_row (number x)) xs) (record { format = g; count = n; bytes = bytes })
numbers_made f g number xs vec bytes part n e v b c p h fit =
    let is : bytes ≡ written f number xs = b ∙ v in (
      record {
        exact = ap length is ∙ length-written f number xs ∙ ap (λ k. k * byte_len f.width) (sym c)
            ∙ ap (λ (k : Format). n * byte_len k.width) (sym e);
        below = subst IsBytes p h;
      },
      record {
        format = e;
        count = c ∙ sym (length-map xs (λ x. whole_row (number x)));
        rows = ap (λ (k : Format). numbers_in k n bytes) e ∙ ap (λ k. numbers_in f k bytes) c
            ∙ ap (numbers_in f (length xs)) is ∙ numbers_written f number xs fit;
      },
    )

pub offsets_made : (os vec bytes part : List ℕ) (n : ℕ) → vec ≡ written (unsigned w32) pos os → bytes ≡ vec
    → suc n ≡ length os → part ≡ bytes → IsBytes part → AreFit (unsigned w32) pos os → IsTrue (never_fall os)
    → HoldOffsets n bytes × (numbers_32 (suc n) bytes ≡ os)
offsets_made os vec bytes part n v b c p h fit rise =
    let is : bytes ≡ written (unsigned w32) pos os = b ∙ v in
    let same : numbers_32 (suc n) bytes ≡ os =
    ap (λ k. numbers_32 k bytes) c ∙ ap (numbers_32 (length os)) is ∙ offsets_written os fit in (
      record {
        exact = ap length is ∙ length-written (unsigned w32) pos os ∙ ap (λ k. k * 4) (sym c);
        rise = ap never_fall same ∙ rise;
        below = subst IsBytes p h;
      },
      same,
    )

pub is_signed : (w : DecimalValueType) (g : Format) → g ≡ width_format w → g.signed ≡ true
is_signed w g e = ap (λ (f : Format). f.signed) e ∙ by w
  where
    by : (w : DecimalValueType) → (width_format w).signed ≡ true
    by width.I8 = refl
    by width.I16 = refl
    by width.I32 = refl
    by width.I64 = refl
    by width.I128 = refl
