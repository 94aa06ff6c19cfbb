-- Lemmas of printed scalars.
use Rattle.std.proofs.Common.{◌≡◌, ℕ, zero, suc, ◌+◌, ◌<◌, ◌≤◌, ℤ, Bool, true, false, List, [], ◌∷◌, ◌++◌, length, get_or, map, Some, None, refl, sym, ap, ◌∙◌, arith}
use Rattle.std.specs.Prelude.{slice_get, min, codes, if◌then◌else◌}
use Rattle.std.specs.Str.{IsUtf8, is_utf8}
use Rattle.std.proofs.lemmas.Str.{IsUtf8-from_is_utf8, is_utf8-from_IsUtf8}
use Rattle.std.specs.Fmt.{digits}
use Rattle.std.proofs.lemmas.List.{length-map, get_or-map}
use Rattle.vortex_terms.specs.Term.{Fields, no_fields, field}
use Rattle.vortex_terms.specs.Types.{field_count}
use Rattle.vortex_scalar_value.specs.Value.{ValueTerm}
use Rattle.vortex_value_rows.specs.RowOf.{number_of_bytes}
use Rattle.vortex_scalar_text.specs.ScalarText.{scalar_text, field_texts}
use Rattle.vortex_scalar_text.specs.inner.FieldTexts.{field_text}

-- a number has at most 16 bytes
pub few_bytes : (bs : List ℕ) (z : ℤ) → Some z ≡ number_of_bytes bs → length bs ≤ 16
few_bytes bs z e = grind arith

-- the text at a place
pub text_at : (f : ValueTerm → List ℕ) (vs : List ValueTerm) (i : ℕ) (v : ValueTerm) → slice_get vs i ≡ Some v → get_or (map f vs) i [] ≡ f v
text_at f [] i v e = absurd (cc)
text_at f (w ∷ vs) zero v e = same w v e
  where
    same : (w v : ValueTerm) → Some w ≡ Some v → f w ≡ f v
    same w v e = cc
text_at f (w ∷ vs) (suc i) v e = text_at f vs i v e

pub text_count : (f : ValueTerm → List ℕ) (vs : List ValueTerm) → length (map f vs) ≡ length vs
text_count f vs = length-map vs f

pub byte_text : (bs : List ℕ) (i : ℕ) → i < length bs → get_or (map (digits 16 false) bs) i [] ≡ digits 16 false (get_or bs i 0)
byte_text bs i h = get_or-map (digits 16 false) bs i 0 [] h

pub byte_count : (bs : List ℕ) → length (map (digits 16 false) bs) ≡ length bs
byte_count bs = length-map bs (digits 16 false)

pub text_of_field : (fs : Fields) (vs : List ValueTerm) (i : ℕ) (v : ValueTerm) → i < field_count fs → slice_get vs i ≡ Some v
    → get_or (field_texts fs vs) i [] ≡ field_text fs i v
text_of_field no_fields vs i v h e = absurd (omega arith)
text_of_field (field x t fs) [] i v h e = absurd (cc)
text_of_field (field x t fs) (w ∷ vs) zero v h e = same w v e
  where
    same : (w v : ValueTerm) → Some w ≡ Some v → x ++ codes ": " ++ scalar_text t w ≡ x ++ codes ": " ++ scalar_text t v
    same w v e = ap (λ u. x ++ codes ": " ++ scalar_text t u) (same_value w v e)
      where
        same_value : (w v : ValueTerm) → Some w ≡ Some v → w ≡ v
        same_value w v e = cc
text_of_field (field x t fs) (w ∷ vs) (suc i) v h e = text_of_field fs vs i v (omega arith) e

pub field_text_count : (fs : Fields) (vs : List ValueTerm) → length (field_texts fs vs) ≡ min (field_count fs) (length vs)
field_text_count no_fields [] = refl
field_text_count no_fields (v ∷ vs) = omega arith
field_text_count (field x t fs) [] = omega arith
field_text_count (field x t fs) (v ∷ vs) = omega (arith, field_text_count fs vs)

-- bytes that are a text, and that are none
pub is_text : (bs ts : List ℕ) → ts ≡ bs → IsUtf8 bs → Some ts ≡ (if is_utf8 bs then Some bs else None)
is_text bs ts e u = ap Some e ∙ sym (ap (λ (b : Bool). if b then Some bs else None) (is_utf8-from_IsUtf8 bs u))

pub is_no_text : (bs : List ℕ) → (IsUtf8 bs → ⊥) → None ≡ (if is_utf8 bs then Some bs else None)
is_no_text bs h = by (is_utf8 bs) refl
  where
    by : (b : Bool) → is_utf8 bs ≡ b → None ≡ (if b then Some bs else None)
    by true e = absurd (h (IsUtf8-from_is_utf8 bs e))
    by false e = refl
