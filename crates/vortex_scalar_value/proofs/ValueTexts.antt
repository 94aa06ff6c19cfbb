-- Lemmas of printed values.
use Rattle.std.proofs.Common.{◌≡◌, ℕ, zero, suc, ◌+◌, ◌-◌, ◌<◌, ◌≤◌, List, [], ◌∷◌, ◌++◌, take, drop, length, get_or, map, Some, refl, sym, ap, ◌∙◌, arith, add-one}
use Rattle.std.specs.Prelude.{slice_get, nat_le, if◌then◌else◌, Bool, true, false}
use Rattle.std.specs.List.{flat_map}
use Rattle.std.specs.Char.{encode_utf8}
use Rattle.std.specs.Str.{encode_utf8_all}
use Rattle.std.proofs.lemmas.List.{length-map}
use Rattle.vortex_number.specs.WholeKind.{whole_kind, ptype_of}
use Rattle.vortex_number.specs.declared.ptype.PType.{PType}
use Rattle.vortex_number.specs.declared.ptype.PType.TheVariants as kinds
use Rattle.vortex_value.specs.DecimalValue.{width_of, decimal_number}
use Rattle.vortex_value.specs.declared.decimal.DecimalValue.{DecimalValue}
use Rattle.vortex_value.specs.declared.decimal.DecimalValue.TheVariants as decimals
use Rattle.vortex_scalar_value.specs.Value.{ValueTerm, values_from}
use Rattle.vortex_scalar_value.specs.ValueWeight.{value_weight, values_weight}
use Rattle.vortex_scalar_value.specs.ValueText.{value_text, value_texts, decimal_with, two_digits}

-- ---- numbers

pub same_kind : (k : PType) → ptype_of (whole_kind k) ≡ k
same_kind kinds.U8 = refl
same_kind kinds.U16 = refl
same_kind kinds.U32 = refl
same_kind kinds.U64 = refl
same_kind kinds.I8 = refl
same_kind kinds.I16 = refl
same_kind kinds.I32 = refl
same_kind kinds.I64 = refl

pub same_decimal : (d : DecimalValue) → decimal_with (width_of d) (decimal_number d) ≡ d
same_decimal (decimals.I8 z) = refl
same_decimal (decimals.I16 z) = refl
same_decimal (decimals.I32 z) = refl
same_decimal (decimals.I64 z) = refl
same_decimal (decimals.I128 z) = refl

-- ---- lists

pub texts_of : (vs : List ValueTerm) → value_texts (values_from vs) ≡ map value_text vs
texts_of [] = refl
texts_of (v ∷ vs) = ap (λ xs. value_text v ∷ xs) (texts_of vs)

pub value_lighter : (vs : List ValueTerm) (i : ℕ) (v : ValueTerm) → slice_get vs i ≡ Some v → value_weight v < values_weight (values_from vs)
value_lighter [] i v e = absurd (cc)
value_lighter (w ∷ vs) zero v e = let same = weight_at w v e in omega arith
  where
    weight_at : (w v : ValueTerm) → Some w ≡ Some v → value_weight w ≡ value_weight v
    weight_at w v e = cc
value_lighter (w ∷ vs) (suc i) v e = let rest = value_lighter vs i v e in omega arith

pub text_at : (vs : List ValueTerm) (i : ℕ) (v : ValueTerm) → slice_get vs i ≡ Some v → get_or (map value_text vs) i [] ≡ value_text v
text_at [] i v e = absurd (cc)
text_at (w ∷ vs) zero v e = same w v e
  where
    same : (w v : ValueTerm) → Some w ≡ Some v → value_text w ≡ value_text v
    same w v e = cc
text_at (w ∷ vs) (suc i) v e = text_at vs i v e

pub text_count : (vs : List ValueTerm) → length (map value_text vs) ≡ length vs
text_count vs = length-map vs value_text

-- ---- bytes

empty_end : (xs : List ℕ) → xs ++ [] ≡ xs
empty_end [] = refl
empty_end (x ∷ xs) = ap (λ ys. x ∷ ys) (empty_end xs)

together : (xs ys zs : List ℕ) → (xs ++ ys) ++ zs ≡ xs ++ (ys ++ zs)
together [] ys zs = refl
together (x ∷ xs) ys zs = ap (λ ws. x ∷ ws) (together xs ys zs)

pub hex_step : (bs : List ℕ) (i : ℕ) → i < length bs
    → flat_map two_digits (take i bs) ++ two_digits (get_or bs i 0) ≡ flat_map two_digits (take (i + 1) bs)
hex_step [] i h = absurd (omega arith)
hex_step (b ∷ bs) zero h = sym (empty_end (two_digits b))
hex_step (b ∷ bs) (suc i) h =
    together (two_digits b) (flat_map two_digits (take i bs)) (two_digits (get_or bs i 0))
    ∙ ap (λ ys. two_digits b ++ ys) (hex_step bs i (omega arith)) ∙ (rw add-one (rw add-one refl))

-- ---- characters

encoded_end : (cs : List ℕ) (c : ℕ) → encode_utf8_all (cs ++ c ∷ []) ≡ encode_utf8_all cs ++ encode_utf8 c
encoded_end [] c = empty_end (encode_utf8 c)
encoded_end (d ∷ cs) c =
    ap (λ ys. encode_utf8 d ++ ys) (encoded_end cs c) ∙ sym (together (encode_utf8 d) (encode_utf8_all cs) (encode_utf8 c))

drop_none : (n : ℕ) → drop {A = ℕ} n [] ≡ []
drop_none zero = refl
drop_none (suc n) = refl

-- one character more from a place on, and none before it
shown_one : (cs : List ℕ) (from i c : ℕ) (rest : List ℕ) → drop i cs ≡ c ∷ rest → from ≤ i
    → drop from (take (suc i) cs) ≡ drop from (take i cs) ++ c ∷ []
shown_one [] from zero c rest e h = absurd (cc)
shown_one [] from (suc i) c rest e h = absurd (cc)
shown_one (d ∷ cs) zero zero c rest e h = same d c cs rest e
  where
    same : (d c : ℕ) (cs rest : List ℕ) → d ∷ cs ≡ c ∷ rest → d ∷ [] ≡ c ∷ []
    same d c cs rest e = cc
shown_one (d ∷ cs) (suc from) zero c rest e h = absurd (omega arith)
shown_one (d ∷ cs) zero (suc i) c rest e h = ap (λ ys. d ∷ ys) (shown_one cs zero i c rest e (omega arith))
shown_one (d ∷ cs) (suc from) (suc i) c rest e h = shown_one cs from i c rest e (omega arith)

shown_none : (cs : List ℕ) (from i : ℕ) → i < from → drop from (take (suc i) cs) ≡ drop from (take i cs)
shown_none cs zero i h = absurd (omega arith)
shown_none [] (suc from) zero h = refl
shown_none [] (suc from) (suc i) h = refl
shown_none (d ∷ cs) (suc from) zero h = drop_none from
shown_none (d ∷ cs) (suc from) (suc i) h = shown_none cs from i (omega arith)

at_most : (a b : ℕ) → nat_le a b ≡ true → a ≤ b
at_most a b e = grind arith

above : (a b : ℕ) → nat_le a b ≡ false → b < a
above a b e = grind arith

pub shown_step : (cs : List ℕ) (from i c : ℕ) (rest : List ℕ) → drop i cs ≡ c ∷ rest
    → encode_utf8_all (drop from (take i cs)) ++ (if nat_le from i then encode_utf8 c else []) ≡ encode_utf8_all (drop from (take (i + 1) cs))
shown_step cs from i c rest e = rw add-one (sym (by (nat_le from i) refl))
  where
    by : (b : Bool) → nat_le from i ≡ b → encode_utf8_all (drop from (take (suc i) cs)) ≡ encode_utf8_all (drop from (take i cs)) ++ (if b then encode_utf8 c else [])
    by true h = ap encode_utf8_all (shown_one cs from i c rest e (at_most from i h)) ∙ encoded_end (drop from (take i cs)) c
    by false h = ap encode_utf8_all (shown_none cs from i (above from i h)) ∙ sym (empty_end (encode_utf8_all (drop from (take i cs))))

pub rest_step : (cs : List ℕ) (i c : ℕ) (rest : List ℕ) → drop i cs ≡ c ∷ rest → rest ≡ drop (i + 1) cs
rest_step [] zero c rest e = absurd (cc)
rest_step [] (suc i) c rest e = absurd (cc)
rest_step (d ∷ cs) zero c rest e = same d c cs rest e
  where
    same : (d c : ℕ) (cs rest : List ℕ) → d ∷ cs ≡ c ∷ rest → rest ≡ cs
    same d c cs rest e = cc
rest_step (d ∷ cs) (suc i) c rest e = rest_step cs i c rest e ∙ (rw add-one (rw add-one refl))
