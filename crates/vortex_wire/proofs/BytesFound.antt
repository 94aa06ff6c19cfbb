-- The bytes in the fields of a number, as loops over the fields find them.
use Rattle.std.proofs.Common.{inl, inr, ◌≡◌, ℕ, List, [], ◌∷◌, ◌++◌, Option, Some, None, Result, Err, option_map, refl, sym, ap, ◌∙◌}
use Rattle.std.specs.Prelude.{filter, ◌==◌, true, false, unwrap_or, if◌then◌else◌}
use Rattle.std.specs.Borrow.{Bor}
use Rattle.std.proofs.lemmas.Option.{none-some}
use Rattle.std.proofs.lemmas.Bool.{eq-eqb, ne_eqb, cases_Bool}
use Rattle.std.specs.List.{list_all, last_or}
use Rattle.std.specs.Option.{option_to_list}
use Rattle.std.specs.Str.{is_utf8, IsUtf8}
use Rattle.std.proofs.lemmas.Str.{IsUtf8-from_is_utf8, is_utf8-from_IsUtf8}
use Rattle.vortex_prelude.specs.Chain.{◌>>=◌}
use Rattle.vortex_wire.specs.declared.error.WireError.{WireError}
use Rattle.vortex_wire.specs.declared.field.WireField.{WireField}
use Rattle.vortex_wire.specs.declared.field.WireValue.{WireValue}
use Rattle.vortex_wire.specs.declared.field.WireValue.TheVariants as wire
use Rattle.vortex_wire.specs.Field.{Field, content_of, fields_of, then_fields}
use Rattle.vortex_wire.specs.Inside.{bytes_in, each_bytes, bytes_fields, texts, singular_text, optional_bytes, the_one, message}
use Rattle.vortex_wire.specs.Finds.{all_bytes_of, text_in}
use Rattle.vortex_wire.proofs.FieldLaws.{no_fields_in_nothing}

skipped : (number : ℕ) (f : Field) (fields : Option (List Field)) → (f.number ≡ number → ⊥)
    → (option_map (λ others. f ∷ others) fields >>= λ all. each_bytes (filter (λ f. f.number == number) all))
    ≡ (fields >>= λ all. each_bytes (filter (λ f. f.number == number) all))
skipped number f None ne = refl
skipped number f (Some fields) ne = rw (ne_eqb f.number number ne) refl

-- a field of another number
pub goes_past : (number : ℕ) (f : Field) (old new : List ℕ) → (f.number ≡ number → ⊥) → fields_of old ≡ option_map (λ others. f ∷ others) (fields_of new)
    → bytes_fields number old ≡ bytes_fields number new
unfolding bytes_fields
goes_past number f old new ne e =
    ap (λ (o : Option (List Field)). o >>= λ all. each_bytes (filter (λ f. f.number == number) all)) e ∙ skipped number f (fields_of new) ne

then_one : (x : List ℕ) (o : Option (List (List ℕ))) → (o >>= λ others. Some (x ∷ others)) ≡ option_map (λ others. x ∷ others) o
then_one x None = refl
then_one x (Some xs) = refl

taken : (number : ℕ) (x : List ℕ) (f : Field) (fields : Option (List Field)) → f.number ≡ number → bytes_in f.content ≡ Some x
    → (option_map (λ others. f ∷ others) fields >>= λ all. each_bytes (filter (λ f. f.number == number) all))
    ≡ option_map (λ others. x ∷ others) (fields >>= λ all. each_bytes (filter (λ f. f.number == number) all))
unfolding each_bytes
taken number x f None same held = refl
taken number x f (Some fields) same held = rw (eq-eqb f.number number same) (rw held (then_one x (each_bytes (filter (λ f. f.number == number) fields))))

-- bytes of this number
pub goes_on : (number : ℕ) (x : List ℕ) (f : Field) (old new : List ℕ) → f.number ≡ number → bytes_in f.content ≡ Some x → fields_of old ≡ option_map (λ others. f ∷ others) (fields_of new)
    → bytes_fields number old ≡ option_map (λ others. x ∷ others) (bytes_fields number new)
unfolding bytes_fields
goes_on number x f old new same held e =
    ap (λ (o : Option (List Field)). o >>= λ all. each_bytes (filter (λ f. f.number == number) all)) e ∙ taken number x f (fields_of new) same held

refused_field : (number : ℕ) (f : Field) (fields : Option (List Field)) → f.number ≡ number → bytes_in f.content ≡ None
    → (option_map (λ others. f ∷ others) fields >>= λ all. each_bytes (filter (λ f. f.number == number) all)) ≡ None
unfolding each_bytes
refused_field number f None same none = refl
refused_field number f (Some fields) same none = rw (eq-eqb f.number number same) (rw none refl)

-- another content of this number
pub refused : (number : ℕ) (f : Field) (old new : List ℕ) → f.number ≡ number → bytes_in f.content ≡ None → fields_of old ≡ option_map (λ others. f ∷ others) (fields_of new)
    → bytes_fields number old ≡ None
unfolding bytes_fields
refused number f old new same none e =
    ap (λ (o : Option (List Field)). o >>= λ all. each_bytes (filter (λ f. f.number == number) all)) e ∙ refused_field number f (fields_of new) same none

-- no field stands next
pub cut_off : (number : ℕ) (old : List ℕ) → fields_of old ≡ None → bytes_fields number old ≡ None
unfolding bytes_fields
cut_off number old e = ap (λ (o : Option (List Field)). o >>= λ all. each_bytes (filter (λ f. f.number == number) all)) e

-- no byte is left
pub ends : (number : ℕ) (old : List ℕ) → old ≡ [] → bytes_fields number old ≡ Some []
unfolding bytes_fields each_bytes
ends number old e =
    ap (λ (o : Option (List Field)). o >>= λ all. each_bytes (filter (λ f. f.number == number) all)) (ap fields_of e ∙ no_fields_in_nothing)

pub field_failed : (old new : List ℕ) (read : Result WireField WireError) (e : WireError) → fields_of old ≡ then_fields (Some read) (fields_of new) → read ≡ Err e → fields_of old ≡ None
field_failed old new read e came is = came ∙ ap (λ (r : Result WireField WireError). then_fields (Some r) (fields_of new)) is

pub no_bytes : (value : WireValue) → ((x : Bor (List ℕ)) → value ≡ wire.Bytes x → ⊥) → bytes_in (content_of value) ≡ None
no_bytes (wire.Varint n) h = refl
no_bytes (wire.Eight n) h = refl
no_bytes (wire.Bytes x) h = absurd (h x refl)
no_bytes (wire.Four n) h = refl

-- ---- a list that grows

-- the bytes that were found, and then these
abbrev pub after : List (Bor (List ℕ)) → Option (List (List ℕ)) → Option (List (List ℕ))
after before found = option_map (λ later. all_bytes_of before ++ later) found

pub after_none : (found : Option (List (List ℕ))) → after [] found ≡ found
after_none None = refl
after_none (Some xs) = refl

moved : (before : List (Bor (List ℕ))) (x : Bor (List ℕ)) (later : List (List ℕ)) → all_bytes_of (before ++ x ∷ []) ++ later ≡ all_bytes_of before ++ x.now ∷ later
moved [] x later = refl
moved (y ∷ before) x later = ap (λ xs. y.now ∷ xs) (moved before x later)

pub after_one : (before : List (Bor (List ℕ))) (x : Bor (List ℕ)) (found : Option (List (List ℕ))) → after (before ++ x ∷ []) found ≡ after before (option_map (λ xs. x.now ∷ xs) found)
after_one before x None = refl
after_one before x (Some xs) = ap Some (moved before x xs)

-- ---- texts

pub text_here : (text : List ℕ) → IsUtf8 text → text_in text ≡ Some text
text_here text h = rw (is_utf8-from_IsUtf8 text h) refl

not_text : (text : List ℕ) → (IsUtf8 text → ⊥) → is_utf8 text ≡ false
not_text text h = elim (cases_Bool (is_utf8 text)) [
  | inl passes ↦ absurd (h (IsUtf8-from_is_utf8 text passes))
  | inr fails ↦ fails
]

pub text_fault : (text : List ℕ) → (IsUtf8 text → ⊥) → text_in text ≡ None
text_fault text h = rw (not_text text h) refl

some_same : (x y : List ℕ) → Some x ≡ Some y → x ≡ y
some_same x y e = cc

some_text : (text found : List ℕ) → text_in text ≡ Some found → is_utf8 text ≡ true
some_text text found e = elim (cases_Bool (is_utf8 text)) [
  | inl passes ↦ passes
  | inr fails ↦ absurd (none-some found (rw fails at e))
]

same_text : (text found : List ℕ) → text_in text ≡ Some found → found ≡ text
same_text text found e = elim (cases_Bool (is_utf8 text)) [
  | inl passes ↦ sym (some_same text found (rw passes at e))
  | inr fails ↦ absurd (none-some found (rw fails at e))
]

no_text_in : (text : List ℕ) → text_in text ≡ None → is_utf8 text ≡ false
no_text_in text e = elim (cases_Bool (is_utf8 text)) [
  | inl passes ↦ absurd (none-some text (sym (rw passes at e)))
  | inr fails ↦ fails
]

pub no_text_left : (number : ℕ) (old : List ℕ) → bytes_fields number old ≡ Some [] → texts number old ≡ Some []
unfolding texts
no_text_left number old e = rw e refl

pub no_texts : (number : ℕ) (old : List ℕ) → bytes_fields number old ≡ None → texts number old ≡ None
unfolding texts
no_texts number old e = rw e refl

is_text : (x : List ℕ) (found : Option (List (List ℕ))) → is_utf8 x ≡ true
    → (option_map (λ xs. x ∷ xs) found >>= λ found. if list_all is_utf8 found then Some found else None)
    ≡ option_map (λ xs. x ∷ xs) (found >>= λ found. if list_all is_utf8 found then Some found else None)
is_text x None e = refl
is_text x (Some xs) e = rw e (elim (cases_Bool (list_all is_utf8 xs)) [
  | inl passes ↦ rw passes refl
  | inr fails ↦ rw fails refl
])

pub text_more : (number : ℕ) (x : List ℕ) (old new : List ℕ) → bytes_fields number old ≡ option_map (λ xs. x ∷ xs) (bytes_fields number new) → is_utf8 x ≡ true
    → texts number old ≡ option_map (λ xs. x ∷ xs) (texts number new)
unfolding texts
text_more number x old new e h = rw e (is_text x (bytes_fields number new) h)

pub found_more : (number : ℕ) (x y : List ℕ) (old new : List ℕ) → bytes_fields number old ≡ option_map (λ xs. x ∷ xs) (bytes_fields number new) → text_in x ≡ Some y
    → texts number old ≡ option_map (λ xs. y ∷ xs) (texts number new)
found_more number x y old new e h =
    text_more number x old new e (some_text x y h) ∙ ap (λ z. option_map (λ xs. z ∷ xs) (texts number new)) (sym (same_text x y h))

no_text : (x : List ℕ) (found : Option (List (List ℕ))) → is_utf8 x ≡ false
    → (option_map (λ xs. x ∷ xs) found >>= λ found. if list_all is_utf8 found then Some found else None) ≡ None
no_text x None e = refl
no_text x (Some xs) e = rw e refl

pub text_refused : (number : ℕ) (x : List ℕ) (old new : List ℕ) → bytes_fields number old ≡ option_map (λ xs. x ∷ xs) (bytes_fields number new) → is_utf8 x ≡ false
    → texts number old ≡ None
unfolding texts
text_refused number x old new e h = rw e (no_text x (bytes_fields number new) h)

pub found_none : (number : ℕ) (x : List ℕ) (old new : List ℕ) → bytes_fields number old ≡ option_map (λ xs. x ∷ xs) (bytes_fields number new) → text_in x ≡ None
    → texts number old ≡ None
found_none number x old new e h = text_refused number x old new e (no_text_in x h)

-- ---- the last, and the only one

-- the last text, where this one came before
abbrev pub text_after : Option (List ℕ) → Option (List (List ℕ)) → Option (List ℕ)
text_after last found = option_map (λ xs. unwrap_or (last_or last xs) []) found

empty_before : (found : Option (List (List ℕ))) → text_after None found ≡ (found >>= λ xs. Some (unwrap_or (last_or None xs) []))
empty_before None = refl
empty_before (Some xs) = refl

pub text_begins : (number : ℕ) (b : List ℕ) → text_after None (texts number b) ≡ singular_text number b
unfolding singular_text
text_begins number b = empty_before (texts number b)

pub text_replaced : (last : Option (List ℕ)) (x : List ℕ) (found : Option (List (List ℕ))) → text_after last (option_map (λ xs. x ∷ xs) found) ≡ text_after (Some x) found
text_replaced last x None = refl
text_replaced last x (Some xs) = refl

-- the last bytes, where these came before
abbrev pub bytes_after : Option (List ℕ) → Option (List (List ℕ)) → Option (Option (List ℕ))
bytes_after last found = option_map (λ xs. last_or last xs) found

none_before : (found : Option (List (List ℕ))) → bytes_after None found ≡ (found >>= λ xs. Some (last_or None xs))
none_before None = refl
none_before (Some xs) = refl

pub bytes_begin : (number : ℕ) (b : List ℕ) → bytes_after None (bytes_fields number b) ≡ optional_bytes number b
unfolding optional_bytes
bytes_begin number b = none_before (bytes_fields number b)

pub bytes_replaced : (last : Option (List ℕ)) (x : List ℕ) (found : Option (List (List ℕ))) → bytes_after last (option_map (λ xs. x ∷ xs) found) ≡ bytes_after (Some x) found
bytes_replaced last x None = refl
bytes_replaced last x (Some xs) = refl

-- the one of all, where this came before
abbrev pub one_after : Option (List ℕ) → Option (List (List ℕ)) → Option (List ℕ)
one_after only found = option_map (λ xs. option_to_list only ++ xs) found >>= the_one

nothing_before : (found : Option (List (List ℕ))) → one_after None found ≡ (found >>= the_one)
nothing_before None = refl
nothing_before (Some xs) = refl

pub one_begins : (number : ℕ) (b : List ℕ) → one_after None (bytes_fields number b) ≡ message number b
unfolding message
one_begins number b = nothing_before (bytes_fields number b)

pub one_came : (x : List ℕ) (found : Option (List (List ℕ))) → one_after None (option_map (λ xs. x ∷ xs) found) ≡ one_after (Some x) found
one_came x None = refl
one_came x (Some xs) = refl

pub two_came : (y x : List ℕ) (found : Option (List (List ℕ))) → one_after (Some y) (option_map (λ xs. x ∷ xs) found) ≡ None
two_came y x None = refl
two_came y x (Some xs) = refl
