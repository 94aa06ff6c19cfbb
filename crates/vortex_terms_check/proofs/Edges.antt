-- The edges of the limits and of the size rule.
use Rattle.std.proofs.Common.{◌≡◌, ◌≤◌, ◌+◌, ℕ, Bool, true, false, List, [], ◌∷◌, length, arith, ◌∙◌, ◌↔◌, IsTrue, IsFalse, refl}
use Rattle.std.specs.List.{sum_by}
use Rattle.std.specs.Str.{IsUtf8}
use Rattle.std.proofs.lemmas.List.Sums.{sum_by-cons}
use Rattle.vortex_terms.specs.Term.{WholeKind, null, primitive, utf8, structure, fixed_size_list, Fields, field, no_fields}
use Rattle.vortex_terms.specs.Types.{LegalFields, Bounded, fields_levels, fields_nodes, fields_text_length}
use Rattle.vortex_terms.specs.Row.{Row, null_row, bytes_row, copies}
use Rattle.vortex_terms.specs.Parts.{byte_count, passes}
use Rattle.vortex_terms.specs.SizeLaws.{length-copies, passes-primitive, passes-text}
use Rattle.vortex_terms_check.proofs.Limits.{limit}

not_so : (b : Bool) (P : Type 0) → IsTrue b ↔ P → ¬ P → IsFalse b
not_so true P h n = absurd (n (h.0 refl))
not_so false P h n = refl

pub numbers_pass : (w : WholeKind) (n : Bool) (r : Row) → IsTrue (passes (primitive w n) (copies 268435456 r))
numbers_pass w n r = let count = length-copies 268435456 r in (passes-primitive w n (copies 268435456 r)).1 (omega (arith, count))

pub fewer_do_not : (w : WholeKind) (n : Bool) (r : Row) → IsFalse (passes (primitive w n) (copies 268435455 r))
fewer_do_not w n r = let count = length-copies 268435455 r in not_so _ _ (passes-primitive w n (copies 268435455 r)) (λ h. absurd (omega (arith, h, count)))

one_text : (bs : List ℕ) → sum_by byte_count (bytes_row bs ∷ []) ≡ length bs
one_text bs = sum_by-cons byte_count (bytes_row bs) [] ∙ (let none : length bs + 0 ≡ length bs = omega arith in none)

pub text_passes : (n : Bool) (bs : List ℕ) → length bs ≡ 4294967280 → IsTrue (passes (utf8 n) (bytes_row bs ∷ []))
text_passes n bs e = let size = one_text bs in (passes-text n (bytes_row bs ∷ [])).1 (omega (arith, e, size))

pub shorter_does_not : (n : Bool) (bs : List ℕ) → length bs ≡ 4294967279 → IsFalse (passes (utf8 n) (bytes_row bs ∷ []))
shorter_does_not n bs e = let size = one_text bs in not_so _ _ (passes-text n (bytes_row bs ∷ [])) (λ h. absurd (omega (arith, h, e, size)))

pub fixed_passes : (w : WholeKind) → IsTrue (passes (fixed_size_list (primitive w false) 268435456 true) (null_row ∷ []))
fixed_passes w = (limit 268435456 w).1 (omega arith)

pub smaller_fixed_does_not : (w : WholeKind) → IsFalse (passes (fixed_size_list (primitive w false) 268435455 true) (null_row ∷ []))
smaller_fixed_does_not w = not_so _ _ (limit 268435455 w) (λ h. absurd (omega (arith, h)))

-- ---- limits on types

pub name_bounded : (x : List ℕ) (n : Bool) → IsUtf8 x → Bounded (structure (field x null no_fields) n) ↔ (length x ≤ 67108864)
name_bounded x n u = (
  λ b. omega (arith, b.little_text),
  λ h. record { legal = (u, tt, tt); few_levels = omega arith; few_nodes = omega arith; little_text = omega (arith, h) },
)

pub fields_bounded : (fs : Fields) (n : Bool) → LegalFields fs → fields_levels fs ≤ 63 → fields_text_length fs ≤ 67108864 → Bounded (structure fs n) ↔ (fields_nodes fs ≤ 999999)
fields_bounded fs n legal l t = (
  λ b. omega (arith, b.few_nodes),
  λ h. record { legal = legal; few_levels = omega (arith, l); few_nodes = omega (arith, h); little_text = omega (arith, t) },
)
