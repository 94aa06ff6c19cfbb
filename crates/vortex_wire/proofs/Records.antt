-- What is written of a record is read again.
use Rattle.std.proofs.Common.{◌≡◌, ℕ, ◌%◌, ◌^◌, ◌<◌, Bool, true, false, cond, eqb, List, [], ◌∷◌, ◌++◌, Option, Some, None, option_map, refl, sym, ap, ◌∙◌, append_assoc, arith, inl, inr}
use Rattle.std.specs.Prelude.{unwrap_or}
use Rattle.std.proofs.lemmas.Bool.{ne_eqb, eq-eqb, cases_eq}
use Rattle.std.proofs.lemmas.List.{append-nil}
use Rattle.vortex_wire.specs.declared.metadata.DictMetadata.{DictMetadata}
use Rattle.vortex_wire.specs.declared.metadata.DecimalMetadata.{DecimalMetadata}
use Rattle.vortex_wire.specs.declared.metadata.ListMetadata.{ListMetadata}
use Rattle.vortex_wire.specs.Field.{Varint, Field, fields_of}
use Rattle.vortex_wire.specs.Message.{last_varint, singular_varint, singular_u32, truth, optional_bool, singular_field, optional_field}
use Rattle.vortex_wire.specs.Metadata.{dict_metadata_of, dict_metadata_bytes, decimal_metadata_of, decimal_metadata_bytes, list_metadata_of, list_metadata_bytes}
use Rattle.vortex_wire.proofs.FieldLaws.{no_fields_in_nothing, varint_then}

-- the fields that are written of a number
abbrev pub written : ℕ → ℕ → List Field
written number n = cond (eqb n 0) [] (record { number = number; content = Varint n } ∷ [])

-- the fields that are written of an optional truth value
abbrev pub written_truth : ℕ → Option Bool → List Field
written_truth number None = []
written_truth number (Some true) = record { number = number; content = Varint 1 } ∷ []
written_truth number (Some false) = record { number = number; content = Varint 0 } ∷ []

pub number_then : (number n : ℕ) (rest : List ℕ) (fields : List Field) → 0 < number → number < 2 ^ 29 → n < 2 ^ 64 → fields_of rest ≡ Some fields
    → fields_of (singular_field number n ++ rest) ≡ Some (written number n ++ fields)
number_then number n rest fields some most fits e = elim (cases_eq n 0) [
  | inl none ↦ rw (eq-eqb n 0 none) e
  | inr there ↦ rw (ne_eqb n 0 there) (varint_then number n rest fields some most fits e)
]

pub truth_then : (number : ℕ) (o : Option Bool) (rest : List ℕ) (fields : List Field) → 0 < number → number < 2 ^ 29 → fields_of rest ≡ Some fields
    → fields_of (optional_field number o ++ rest) ≡ Some (written_truth number o ++ fields)
truth_then number None rest fields some most e = e
truth_then number (Some true) rest fields some most e = varint_then number 1 rest fields some most (omega arith) e
truth_then number (Some false) rest fields some most e = varint_then number 0 rest fields some most (omega arith) e

-- what is read of a number that was written
abbrev pub kept : ℕ → Option ℕ
kept n = cond (eqb n 0) None (Some n)

abbrev pub kept_truth : Option Bool → Option ℕ
kept_truth None = None
kept_truth (Some true) = Some 1
kept_truth (Some false) = Some 0

pub number_passed : (k number n : ℕ) (fields : List Field) → eqb number k ≡ false → last_varint k (written number n ++ fields) ≡ last_varint k fields
unfolding last_varint
number_passed k number n fields other = elim (cases_eq n 0) [
  | inl none ↦ rw (eq-eqb n 0 none) refl
  | inr there ↦ rw (ne_eqb n 0 there) (rw other refl)
]

pub truth_passed : (k number : ℕ) (o : Option Bool) (fields : List Field) → eqb number k ≡ false → last_varint k (written_truth number o ++ fields) ≡ last_varint k fields
unfolding last_varint
truth_passed k number None fields other = refl
truth_passed k number (Some true) fields other = rw other refl
truth_passed k number (Some false) fields other = rw other refl

pub number_found : (number n : ℕ) (fields : List Field) → last_varint number fields ≡ Some None → last_varint number (written number n ++ fields) ≡ Some (kept n)
unfolding last_varint
number_found number n fields e = elim (cases_eq n 0) [
  | inl none ↦ rw (eq-eqb n 0 none) e
  | inr there ↦ rw (ne_eqb n 0 there) (rw (eq-eqb number number refl) (rw e refl))
]

pub truth_found : (number : ℕ) (o : Option Bool) (fields : List Field) → last_varint number fields ≡ Some None → last_varint number (written_truth number o ++ fields) ≡ Some (kept_truth o)
unfolding last_varint
truth_found number None fields e = e
truth_found number (Some true) fields e = rw (eq-eqb number number refl) (rw e refl)
truth_found number (Some false) fields e = rw (eq-eqb number number refl) (rw e refl)

pub nothing_found : (number : ℕ) → last_varint number [] ≡ Some None
unfolding last_varint
nothing_found number = refl

pub u32_back : (n : ℕ) → n < 2 ^ 32 → unwrap_or (kept n) 0 % 2 ^ 32 ≡ n
u32_back n h = elim (cases_eq n 0) [
  | inl none ↦ rw (eq-eqb n 0 none) (omega arith)
  | inr there ↦ rw (ne_eqb n 0 there) (omega arith)
]

pub truth_back : (o : Option Bool) → option_map truth (kept_truth o) ≡ o
truth_back None = refl
truth_back (Some true) = refl
truth_back (Some false) = refl

-- a number is read of the fields of a message
pub u32_of : (number n : ℕ) (bytes : List ℕ) (fields : List Field) → n < 2 ^ 32 → fields_of bytes ≡ Some fields → last_varint number fields ≡ Some (kept n) → singular_u32 number bytes ≡ Some n
unfolding singular_u32 singular_varint
u32_of number n bytes fields h e last = rw e (rw last (ap (λ (k : ℕ). Some k) (u32_back n h)))

pub truth_of : (number : ℕ) (o : Option Bool) (bytes : List ℕ) (fields : List Field) → fields_of bytes ≡ Some fields → last_varint number fields ≡ Some (kept_truth o) → optional_bool number bytes ≡ Some o
unfolding singular_varint
truth_of number o bytes fields e last = rw e (rw last (ap (λ (p : Option Bool). Some p) (truth_back o)))

-- ---- the records

dict_fields : (m : DictMetadata) → m.values_len < 2 ^ 32 → m.codes_ptype < 2 ^ 32
    → fields_of (dict_metadata_bytes m) ≡ Some (written 1 m.values_len ++ (written 2 m.codes_ptype ++ (written_truth 3 m.is_nullable_codes ++ [])))
dict_fields m values codes =
    let third = truth_then 3 m.is_nullable_codes [] [] (omega arith) (omega arith) no_fields_in_nothing in
    let second = number_then 2 m.codes_ptype (optional_field 3 m.is_nullable_codes ++ []) _ (omega arith) (omega arith) (omega arith) third in
    let first = number_then 1 m.values_len (singular_field 2 m.codes_ptype ++ (optional_field 3 m.is_nullable_codes ++ [])) _ (omega arith) (omega arith) (omega arith) second in
    let whole : (singular_field 1 m.values_len ++ singular_field 2 m.codes_ptype) ++ optional_field 3 m.is_nullable_codes ≡ singular_field 1 m.values_len ++ (singular_field 2 m.codes_ptype ++ (optional_field 3 m.is_nullable_codes ++ []))
    = append_assoc (singular_field 1 m.values_len) (singular_field 2 m.codes_ptype) (optional_field 3 m.is_nullable_codes) ∙ ap (λ (t : List ℕ). singular_field 1 m.values_len ++ (singular_field 2 m.codes_ptype ++ t)) (sym (append-nil (optional_field 3 m.is_nullable_codes))) in
    ap fields_of whole ∙ first

pub dict_again : (m : DictMetadata) → m.values_len < 2 ^ 32 → m.codes_ptype < 2 ^ 32 → dict_metadata_of (dict_metadata_bytes m) ≡ Some m
unfolding dict_metadata_of
dict_again m values codes =
    let e = dict_fields m values codes in
    let third : List Field = written_truth 3 m.is_nullable_codes ++ [] in
    let second : List Field = written 2 m.codes_ptype ++ third in
    let len = u32_of 1 m.values_len (dict_metadata_bytes m) _ values e (number_found 1 m.values_len second (number_passed 1 2 m.codes_ptype third refl ∙ truth_passed 1 3 m.is_nullable_codes [] refl ∙ nothing_found 1)) in
    let ptype = u32_of 2 m.codes_ptype (dict_metadata_bytes m) _ codes e (number_passed 2 1 m.values_len second refl ∙ number_found 2 m.codes_ptype third (truth_passed 2 3 m.is_nullable_codes [] refl ∙ nothing_found 2)) in
    let nullable = truth_of 3 m.is_nullable_codes (dict_metadata_bytes m) _ e (number_passed 3 1 m.values_len second refl ∙ number_passed 3 2 m.codes_ptype third refl ∙ truth_found 3 m.is_nullable_codes [] (nothing_found 3)) in
    rw (len, ptype, nullable) refl

-- a message of one number
lone : (n : ℕ) → n < 2 ^ 32 → singular_u32 1 (singular_field 1 n) ≡ Some n
lone n h =
    let e = ap fields_of (sym (append-nil (singular_field 1 n))) ∙ number_then 1 n [] [] (omega arith) (omega arith) (omega arith) no_fields_in_nothing in
    u32_of 1 n (singular_field 1 n) _ h e (number_found 1 n [] (nothing_found 1))

pub decimal_again : (m : DecimalMetadata) → m.value_type < 2 ^ 32 → decimal_metadata_of (decimal_metadata_bytes m) ≡ Some m
unfolding decimal_metadata_of
decimal_again m h = rw (lone m.value_type h) refl

pub list_again : (m : ListMetadata) → m.elements < 2 ^ 32 → list_metadata_of (list_metadata_bytes m) ≡ Some m
unfolding list_metadata_of
list_again m h = rw (lone m.elements h) refl
