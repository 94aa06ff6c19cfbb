-- What is printed in place of a storage follows from its type and its row.
use Rattle.std.proofs.Common.{◌≡◌, ℕ, ℤ, Bool, true, false, List, Option, Some, None, refl, sym, ap, ◌∙◌}
use Rattle.std.specs.Prelude.{codes, if◌then◌else◌}
use Rattle.std.specs.Option.{option_map}
use Rattle.std.proofs.lemmas.Option.{same_Some}
use Rattle.vortex_terms.specs.Term.{Term, null, boolean, primitive, decimal, utf8, binary, structure, list, extension, fixed_size_list}
use Rattle.vortex_terms.specs.Row.{Row, null_row, truth_row, whole_row, bytes_row, list_row, Rows}
use Rattle.vortex_scalar_value.specs.Value.{ValueTerm, null_value, truth_value, whole_value, decimal_value, bytes_value, text_value, list_value}
use Rattle.vortex_value_rows.specs.RowOf.{number_of_bytes, row_of, rows_by, field_rows}
use Rattle.vortex_time.specs.Metadata.{metadata_of}
use Rattle.vortex_scalar_text.specs.TemporalText.{is_read, is_whole, number_shown, temporal_text}

-- the same of a row
abbrev pub row_shown : List ℕ → Term → Option (List ℕ) → Row → Option (List ℕ)
row_shown id t m null_row = if is_read (metadata_of id m) then Some (codes "null") else None
row_shown id t m (whole_row z) = if is_whole t then number_shown id m z else None
row_shown id t m r = None

abbrev is_null : ValueTerm → Bool
is_null null_value = true
is_null _ = false

abbrev is_null_row : Row → Bool
is_null_row null_row = true
is_null_row _ = false

whole_is : (o : Option ℤ) (r : Row) → option_map whole_row o ≡ Some r → false ≡ is_null_row r
whole_is (Some z) r e = ap is_null_row (same_Some (whole_row z) r e)
whole_is None r e = absurd (cc)

list_is : (o : Option Rows) (r : Row) → option_map list_row o ≡ Some r → false ≡ is_null_row r
list_is (Some rs) r e = ap is_null_row (same_Some (list_row rs) r e)
list_is None r e = absurd (cc)

-- a value is null where its row is
null_agrees : (t : Term) (v : ValueTerm) (r : Row) → row_of t v ≡ Some r → is_null v ≡ is_null_row r
null_agrees null null_value r e = ap is_null_row (same_Some null_row r e)
null_agrees (boolean n) null_value r e = ap is_null_row (same_Some null_row r e)
null_agrees (boolean n) (truth_value b) r e = ap is_null_row (same_Some (truth_row b) r e)
null_agrees (primitive k n) null_value r e = ap is_null_row (same_Some null_row r e)
null_agrees (primitive k n) (whole_value l z) r e = ap is_null_row (same_Some (whole_row z) r e)
null_agrees (decimal p s n) null_value r e = ap is_null_row (same_Some null_row r e)
null_agrees (decimal p s n) (decimal_value w z) r e = ap is_null_row (same_Some (whole_row z) r e)
null_agrees (decimal p s n) (bytes_value bs) r e = whole_is (number_of_bytes bs) r e
null_agrees (utf8 n) null_value r e = ap is_null_row (same_Some null_row r e)
null_agrees (utf8 n) (bytes_value bs) r e = ap is_null_row (same_Some (bytes_row bs) r e)
null_agrees (utf8 n) (text_value bs) r e = ap is_null_row (same_Some (bytes_row bs) r e)
null_agrees (binary n) null_value r e = ap is_null_row (same_Some null_row r e)
null_agrees (binary n) (bytes_value bs) r e = ap is_null_row (same_Some (bytes_row bs) r e)
null_agrees (binary n) (text_value bs) r e = ap is_null_row (same_Some (bytes_row bs) r e)
null_agrees (structure fs n) null_value r e = ap is_null_row (same_Some null_row r e)
null_agrees (structure fs n) (list_value vs) r e = list_is (field_rows fs vs) r e
null_agrees (list t n) null_value r e = ap is_null_row (same_Some null_row r e)
null_agrees (list t n) (list_value vs) r e = list_is (rows_by (row_of t) vs) r e
null_agrees (extension id t m) v r e = null_agrees t v r e
null_agrees (fixed_size_list t k n) null_value r e = ap is_null_row (same_Some null_row r e)
null_agrees (fixed_size_list t k n) (list_value vs) r e = list_is (rows_by (row_of t) vs) r e
null_agrees _ v r e = absurd (cc)

abbrev if_read : List ℕ → Option (List ℕ) → Bool → Option (List ℕ)
if_read id m b = if b then (if is_read (metadata_of id m) then Some (codes "null") else None) else None

of_value : (id : List ℕ) (t : Term) (m : Option (List ℕ)) (v : ValueTerm) → is_whole t ≡ false → temporal_text id t m v ≡ if_read id m (is_null v)
of_value id t m null_value h = refl
of_value id t m (truth_value b) h = refl
of_value id t m (whole_value l z) h = ap (λ (b : Bool). if b then number_shown id m z else None) h
of_value id t m (decimal_value w z) h = refl
of_value id t m (bytes_value bs) h = refl
of_value id t m (text_value bs) h = refl
of_value id t m (list_value vs) h = refl

of_row : (id : List ℕ) (t : Term) (m : Option (List ℕ)) (r : Row) → is_whole t ≡ false → row_shown id t m r ≡ if_read id m (is_null_row r)
of_row id t m null_row h = refl
of_row id t m (truth_row b) h = refl
of_row id t m (whole_row z) h = ap (λ (b : Bool). if b then number_shown id m z else None) h
of_row id t m (bytes_row bs) h = refl
of_row id t m (list_row rs) h = refl

-- under a type that is none of whole numbers, null alone has a text
other : (id : List ℕ) (t : Term) (m : Option (List ℕ)) (v : ValueTerm) (r : Row) → is_whole t ≡ false → row_of t v ≡ Some r → temporal_text id t m v ≡ row_shown id t m r
other id t m v r h e = of_value id t m v h ∙ ap (if_read id m) (null_agrees t v r e) ∙ sym (of_row id t m r h)

pub shown_agrees : (id : List ℕ) (t : Term) (m : Option (List ℕ)) (v : ValueTerm) (r : Row) → row_of t v ≡ Some r → temporal_text id t m v ≡ row_shown id t m r
shown_agrees id (primitive k n) m null_value r e = ap (row_shown id (primitive k n) m) (same_Some null_row r e)
shown_agrees id (primitive k n) m (whole_value l z) r e = ap (row_shown id (primitive k n) m) (same_Some (whole_row z) r e)
shown_agrees id (primitive k n) m (truth_value b) r e = absurd (cc)
shown_agrees id (primitive k n) m (decimal_value w z) r e = absurd (cc)
shown_agrees id (primitive k n) m (bytes_value bs) r e = absurd (cc)
shown_agrees id (primitive k n) m (text_value bs) r e = absurd (cc)
shown_agrees id (primitive k n) m (list_value vs) r e = absurd (cc)
shown_agrees id null m v r e = other id null m v r refl e
shown_agrees id (boolean n) m v r e = other id (boolean n) m v r refl e
shown_agrees id (decimal p s n) m v r e = other id (decimal p s n) m v r refl e
shown_agrees id (utf8 n) m v r e = other id (utf8 n) m v r refl e
shown_agrees id (binary n) m v r e = other id (binary n) m v r refl e
shown_agrees id (structure fs n) m v r e = other id (structure fs n) m v r refl e
shown_agrees id (list t n) m v r e = other id (list t n) m v r refl e
shown_agrees id (extension x t k) m v r e = other id (extension x t k) m v r refl e
shown_agrees id (fixed_size_list t k n) m v r e = other id (fixed_size_list t k n) m v r refl e
