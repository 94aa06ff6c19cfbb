-- The last varint of a number, as a loop over the fields finds it.
use Rattle.std.proofs.Common.{◌≡◌, ℕ, List, [], ◌∷◌, Option, Some, None, Result, Ok, Err, option_map, refl, sym, ap, ◌∙◌}
use Rattle.std.specs.Option.{option_or, ok_or}
use Rattle.std.proofs.lemmas.Bool.{eq-eqb, ne_eqb}
use Rattle.vortex_wire.specs.declared.error.WireError.{WireError}
use Rattle.vortex_wire.specs.declared.error.WireError.TheVariants.{Malformed}
use Rattle.vortex_wire.specs.declared.field.WireField.{WireField}
use Rattle.vortex_wire.specs.declared.field.WireValue.{WireValue}
use Rattle.vortex_wire.specs.declared.field.WireValue.TheVariants as wire
use Rattle.vortex_prelude.specs.Chain.{◌>>=◌}
use Rattle.vortex_wire.specs.Field.{Varint, Field, content_of, field_of, then_fields, fields_of}
use Rattle.vortex_wire.specs.Message.{varint_in, last_varint, singular_varint}
use Rattle.vortex_wire.proofs.FieldLaws.{no_fields_in_nothing}

-- what the fields after these say, and else what was found before
abbrev pub since : Option ℕ → Option (Option ℕ) → Option (Option ℕ)
since before found = option_map (λ later. option_or later before) found

pub since_start : (found : Option (Option ℕ)) → since None found ≡ found
since_start None = refl
since_start (Some None) = refl
since_start (Some (Some n)) = refl

pub starts : (number : ℕ) (bytes : List ℕ) → since None (fields_of bytes >>= last_varint number) ≡ singular_varint number bytes
unfolding singular_varint
starts number bytes = since_start (fields_of bytes >>= last_varint number)

passed_over : (number : ℕ) (f : Field) (fields : Option (List Field)) → (f.number ≡ number → ⊥) → (option_map (λ others. f ∷ others) fields >>= last_varint number) ≡ (fields >>= last_varint number)
unfolding last_varint
passed_over number f None ne = refl
passed_over number f (Some fields) ne = rw (ne_eqb f.number number ne) refl

-- a field of another number
pub goes_past : (number : ℕ) (f : Field) (old new : List ℕ) (before : Option ℕ) (all : Option (Option ℕ)) → (f.number ≡ number → ⊥) → fields_of old ≡ option_map (λ others. f ∷ others) (fields_of new)
    → since before (fields_of old >>= last_varint number) ≡ all → since before (fields_of new >>= last_varint number) ≡ all
goes_past number f old new before all ne e so_far =
    sym (ap (since before) (ap (λ (o : Option (List Field)). o >>= last_varint number) e ∙ passed_over number f (fields_of new) ne)) ∙ so_far

takes_over : (n : ℕ) (before : Option ℕ) (found : Option (Option ℕ)) → since before (found >>= λ later. Some (option_or later (Some n))) ≡ since (Some n) found
takes_over n before None = refl
takes_over n before (Some None) = refl
takes_over n before (Some (Some m)) = refl

taken : (number n : ℕ) (f : Field) (fields : Option (List Field)) → f.number ≡ number → f.content ≡ Varint n → (option_map (λ others. f ∷ others) fields >>= last_varint number)
    ≡ ((fields >>= last_varint number) >>= λ later. Some (option_or later (Some n)))
unfolding last_varint
taken number n f None same held = refl
taken number n f (Some fields) same held = rw (eq-eqb f.number number same) (rw held refl)

-- a varint of this number
pub goes_on : (number n : ℕ) (f : Field) (old new : List ℕ) (before : Option ℕ) (all : Option (Option ℕ)) → f.number ≡ number → f.content ≡ Varint n → fields_of old ≡ option_map (λ others. f ∷ others) (fields_of new)
    → since before (fields_of old >>= last_varint number) ≡ all → since (Some n) (fields_of new >>= last_varint number) ≡ all
goes_on number n f old new before all same held e so_far =
    sym (ap (since before) (ap (λ (o : Option (List Field)). o >>= last_varint number) e ∙ taken number n f (fields_of new) same held) ∙ takes_over n before (fields_of new >>= last_varint number)) ∙ so_far

refused_field : (number : ℕ) (f : Field) (fields : Option (List Field)) → f.number ≡ number → varint_in f.content ≡ None → (option_map (λ others. f ∷ others) fields >>= last_varint number) ≡ None
unfolding last_varint
refused_field number f None same none = refl
refused_field number f (Some fields) same none = rw (eq-eqb f.number number same) (rw none refl)

-- another content of this number
pub refused : (number : ℕ) (f : Field) (old new : List ℕ) (before : Option ℕ) (all : Option (Option ℕ)) → f.number ≡ number → varint_in f.content ≡ None → fields_of old ≡ option_map (λ others. f ∷ others) (fields_of new)
    → since before (fields_of old >>= last_varint number) ≡ all → Err Malformed ≡ ok_or all Malformed
refused number f old new before all same none e so_far =
    let nothing : since before (fields_of old >>= last_varint number) ≡ None = ap (since before) (ap (λ (o : Option (List Field)). o >>= last_varint number) e ∙ refused_field number f (fields_of new) same none) in
    ap (λ (o : Option (Option ℕ)). ok_or o Malformed) (sym nothing ∙ so_far)

-- no field stands next
pub cut_off : (number : ℕ) (old : List ℕ) (before : Option ℕ) (all : Option (Option ℕ)) → fields_of old ≡ None → since before (fields_of old >>= last_varint number) ≡ all → Err Malformed ≡ ok_or all Malformed
cut_off number old before all e so_far =
    ap (λ (o : Option (Option ℕ)). ok_or o Malformed) (sym (ap (since before) (ap (λ (o : Option (List Field)). o >>= last_varint number) e)) ∙ so_far)

-- no byte is left
pub ends : (number : ℕ) (old : List ℕ) (before : Option ℕ) (all : Option (Option ℕ)) → old ≡ [] → since before (fields_of old >>= last_varint number) ≡ all → Ok before ≡ ok_or all Malformed
unfolding last_varint
ends number old before all e so_far =
    let fields : fields_of old ≡ Some [] = ap fields_of e ∙ no_fields_in_nothing in
    ap (λ (o : Option (Option ℕ)). ok_or o Malformed) (sym (ap (λ (o : Option (List Field)). since before (o >>= last_varint number)) fields) ∙ so_far)

-- ---- what the reader says of its fields

pub field_came : (old new : List ℕ) (read : Result WireField WireError) (f : WireField) → fields_of old ≡ then_fields (Some read) (fields_of new) → read ≡ Ok f → fields_of old ≡ option_map (λ others. field_of f ∷ others) (fields_of new)
field_came old new read f e is = e ∙ ap (λ (r : Result WireField WireError). then_fields (Some r) (fields_of new)) is

pub no_varint : (value : WireValue) → ((n : ℕ) → value ≡ wire.Varint n → ⊥) → varint_in (content_of value) ≡ None
no_varint (wire.Varint n) h = absurd (h n refl)
no_varint (wire.Eight n) h = refl
no_varint (wire.Bytes bytes) h = refl
no_varint (wire.Four n) h = refl
