-- Types that are written as messages, from the end to the start.
use Rattle.std.proofs.Common.{◌≡◌, ℕ, zero, suc, ◌-◌, ◌^◌, ◌<◌, ◌≤◌, List, [], ◌++◌, length, Option, Some, ℤ, pos, negsuc, refl, sym, ap, subst, ◌∙◌, append_assoc, arith}
use Rattle.std.specs.Prelude.{slice_get, Result, IfOk}
use Rattle.std.specs.Int.{w8, w64, cast_signed, cast_unsigned}
use Rattle.std.proofs.lemmas.Int.{to_z-of_z}
use Rattle.std.proofs.lemmas.List.{length-append}
use borrow.Author.Differences.{fits_in, le_T}
use Rattle.vortex_terms.specs.Term.{Term, null, boolean, primitive, decimal, utf8, binary, structure, list, extension, fixed_size_list, Fields, no_fields, field}
use Rattle.vortex_terms.specs.Types.{Bounded, IsDecimal, type_number, names_of, field_at, field_count}
use Rattle.vortex_wire.specs.Field.{bytes_field}
use Rattle.vortex_wire.specs.Inside.{headed, repeated_field}
use Rattle.vortex_wire.proofs.Headers.{headed_body}
use Rattle.vortex_proto.specs.TypeBytes.{type_bytes, field_types}
use Rattle.vortex_proto.specs.TypeMessage.{IsTypeMessage}
use Rattle.vortex_proto.proofs.TypeAgain.{bounded_again}
use Rattle.vortex_types.proofs.Fields.{fields_drop, drop_all}

pub number_some : (t : Term) → 0 < type_number t
number_some null = omega arith
number_some (boolean n) = omega arith
number_some (primitive k n) = omega arith
number_some (decimal s z n) = omega arith
number_some (utf8 n) = omega arith
number_some (binary n) = omega arith
number_some (structure fs n) = omega arith
number_some (list t n) = omega arith
number_some (extension id t m) = omega arith
number_some (fixed_size_list t k n) = omega arith

pub number_most : (t : Term) → type_number t < 2 ^ 29
number_most null = omega arith
number_most (boolean n) = omega arith
number_most (primitive k n) = omega arith
number_most (decimal s z n) = omega arith
number_most (utf8 n) = omega arith
number_most (binary n) = omega arith
number_most (structure fs n) = omega arith
number_most (list t n) = omega arith
number_most (extension id t m) = omega arith
number_most (fixed_size_list t k n) = omega arith

-- a scale is handed on as its bits, of any width from eight on
pub scale_8 : (p : ℕ) (s r : ℤ) → IsDecimal p s → r ≡ s → cast_signed w8 (cast_unsigned w8 r) ≡ s
scale_8 p s r h e =
    ap (λ (z : ℤ). cast_signed w8 (cast_unsigned w8 z)) e
    ∙ to_z-of_z w8 s (fits_in w8 s (omega (arith, le_T (negsuc 127) s h.2.le, le_T s (pos p) h.3.le, h.1)))

pub scale_64 : (p : ℕ) (s r : ℤ) → IsDecimal p s → r ≡ s → cast_signed w64 (cast_unsigned w64 r) ≡ s
scale_64 p s r h e =
    ap (λ (z : ℤ). cast_signed w64 (cast_unsigned w64 z)) e
    ∙ to_z-of_z w64 s (fits_in w64 s (omega (arith, le_T (negsuc 127) s h.2.le, le_T s (pos p) h.3.le, h.1)))

-- what is written before stays behind
pub behind : (all body after : List ℕ) (before : ℕ) → all ≡ body ++ after → before ≡ length after → before ≤ length all
behind all body after before e h = omega (arith, length-append body after, ap length e, h)

-- a body that was written becomes the bytes of a field
pub headed_is : (number before : ℕ) (all body after : List ℕ) → all ≡ body ++ after → before ≡ length after → headed number before all ≡ bytes_field number body ++ after
headed_is number before all body after e h = rw (e, h) (headed_body number body after)

-- ---- pieces, from the last to the first

pub ok_same : {A E : Type 0} (r : Result A E) (x y : A) → x ≡ y → IfOk r (λ b. b ≡ x) → IfOk r (λ b. b ≡ y)
ok_same r x y e h = subst (λ z. IfOk r (λ b. b ≡ z)) e h

pub two_before : (p q u v after : List ℕ) → p ≡ u → q ≡ v ++ after → p ++ q ≡ (u ++ v) ++ after
two_before p q u v after e h = rw (e, h) (sym (append_assoc u v after))

pub three_before : (p q r s u v w after : List ℕ) → p ≡ u → q ≡ v → r ≡ w ++ after → s ≡ q ++ r → p ++ s ≡ ((u ++ v) ++ w) ++ after
three_before p q r s u v w after e h last whole =
    two_before p s u (v ++ w) after e (whole ∙ two_before q r v w after h last) ∙ ap (λ (bytes : List ℕ). bytes ++ after) (sym (append_assoc u v w))

-- ---- fields, from the last to the first

-- what the fields from a place on are written as stands before what was there
abbrev pub Behind : (Fields → List ℕ) → Fields → ℕ → List ℕ → List ℕ → Type 0
Behind bytes_of fs left after now = (left ≤ field_count fs) × (now ≡ bytes_of (fields_drop left fs) ++ after)

abbrev pub names_bytes : ℕ → Fields → List ℕ
names_bytes number fs = repeated_field number (names_of fs)

pub behind_start : (bytes_of : Fields → List ℕ) (fs : Fields) (left : ℕ) (after : List ℕ) → bytes_of no_fields ≡ [] → left ≡ field_count fs → Behind bytes_of fs left after after
behind_start bytes_of fs left after none e = (omega (arith, e), sym (ap (λ (gs : Fields). bytes_of gs ++ after) (drop_all fs left (sym e)) ∙ ap (λ (bytes : List ℕ). bytes ++ after) none))

no_names : (number : ℕ) → names_bytes number no_fields ≡ []
unfolding repeated_field
no_names number = refl

pub names_start : (number : ℕ) (fs : Fields) (left : ℕ) (after : List ℕ) → left ≡ field_count fs → Behind (names_bytes number) fs left after after
names_start number fs left after e = behind_start (names_bytes number) fs left after (no_names number) e

pub types_start : (fs : Fields) (left : ℕ) (after : List ℕ) → left ≡ field_count fs → Behind field_types fs left after after
types_start fs left after e = behind_start field_types fs left after refl e

name_on : (number : ℕ) (fs : Fields) (i : ℕ) (x : List ℕ) → slice_get (names_of fs) i ≡ Some x → names_bytes number (fields_drop i fs) ≡ bytes_field number x ++ names_bytes number (fields_drop (suc i) fs)
unfolding repeated_field
name_on number no_fields i x e = absurd (cc)
name_on number (field y t fs) zero x e =
    let same : y ≡ x = some_same y x e in
    ap (λ (z : List ℕ). bytes_field number z ++ repeated_field number (names_of fs)) same
  where
    some_same : (a b : List ℕ) → ◌≡◌ {A = Option (List ℕ)} (Some a) (Some b) → a ≡ b
    some_same a b h = cc
name_on number (field y t fs) (suc i) x e = name_on number fs i x e

type_on : (fs : Fields) (i : ℕ) (t : Term) → field_at fs i ≡ Some t → field_types (fields_drop i fs) ≡ bytes_field 2 (type_bytes t) ++ field_types (fields_drop (suc i) fs)
type_on no_fields i t e = absurd (cc)
type_on (field y u fs) zero t e =
    let same : u ≡ t = some_same u t e in
    ap (λ (v : Term). bytes_field 2 (type_bytes v) ++ field_types fs) same
  where
    some_same : (a b : Term) → ◌≡◌ {A = Option Term} (Some a) (Some b) → a ≡ b
    some_same a b h = cc
type_on (field y u fs) (suc i) t e = type_on fs i t e

-- one more field before
one_before : (bytes_of : Fields → List ℕ) (fs : Fields) (left : ℕ) (after now next piece : List ℕ) → 0 < left → bytes_of (fields_drop (left - 1) fs) ≡ piece ++ bytes_of (fields_drop (suc (left - 1)) fs) → next ≡ piece ++ now
    → Behind bytes_of fs left after now → Behind bytes_of fs (left - 1) after next
one_before bytes_of fs left after now next piece some first e h =
    let back : suc (left - 1) ≡ left = omega (arith, some) in
    let one : bytes_of (fields_drop (left - 1) fs) ≡ piece ++ bytes_of (fields_drop left fs) = first ∙ ap (λ (k : ℕ). piece ++ bytes_of (fields_drop k fs)) back in (
      omega (arith, h.0),
      e ∙ ap (λ (bytes : List ℕ). piece ++ bytes) h.1 ∙ sym (append_assoc piece (bytes_of (fields_drop left fs)) after) ∙ ap (λ (bytes : List ℕ). bytes ++ after) (sym one),
    )

pub name_before : (number : ℕ) (fs : Fields) (left : ℕ) (after now next name : List ℕ) → 0 < left → slice_get (names_of fs) (left - 1) ≡ Some name → next ≡ bytes_field number name ++ now
    → Behind (names_bytes number) fs left after now → Behind (names_bytes number) fs (left - 1) after next
name_before number fs left after now next name some e made h =
    one_before (names_bytes number) fs left after now next (bytes_field number name) some (name_on number fs (left - 1) name e) made h

pub type_before : (fs : Fields) (left : ℕ) (after now next : List ℕ) (t : Term) → 0 < left → field_at fs (left - 1) ≡ Some t → next ≡ bytes_field 2 (type_bytes t) ++ now
    → Behind field_types fs left after now → Behind field_types fs (left - 1) after next
type_before fs left after now next t some e made h =
    one_before field_types fs left after now next (bytes_field 2 (type_bytes t)) some (type_on fs (left - 1) t e) made h

pub behind_all : (bytes_of : Fields → List ℕ) (fs : Fields) (left : ℕ) (after now : List ℕ) → left ≡ 0 → Behind bytes_of fs left after now → now ≡ bytes_of fs ++ after
behind_all bytes_of fs left after now e h = h.1 ∙ ap (λ (k : ℕ). bytes_of (fields_drop k fs) ++ after) e

-- ---- the answer

pub message_read : (t : Term) (bytes : List ℕ) → bytes ≡ type_bytes t → Bounded t → IsTypeMessage bytes t
message_read t bytes e bounded = subst (λ (b : List ℕ). IsTypeMessage b t) (sym e) (bounded_again t bounded)
