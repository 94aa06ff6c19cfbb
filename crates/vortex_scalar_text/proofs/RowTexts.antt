-- What is printed of a value follows from its type and its row, where the type holds no decimals.
use Rattle.std.proofs.Common.{◌≡◌, ℕ, Bool, true, false, List, [], ◌∷◌, ◌++◌, map, Option, Some, None, refl, sym, ap, ◌∙◌}
use Rattle.std.specs.Prelude.{◌&&◌, ◌||◌, nat_eq, codes, if◌then◌else◌}
use Rattle.std.specs.Option.{option_map, option_map_or}
use Rattle.std.specs.Str.{is_utf8}
use Rattle.std.specs.Fmt as numbers
use Rattle.std.specs.Fmt.{signed_decimal}
use Rattle.std.proofs.lemmas.Option.{same_Some}
use Rattle.vortex_number.specs.PType.{ptype_text}
use Rattle.vortex_number.specs.WholeKind.{ptype_of}
use Rattle.vortex_terms.specs.Term.{Term, null, boolean, primitive, decimal, utf8, binary, structure, list, extension, fixed_size_list, Fields, no_fields, field}
use Rattle.vortex_terms.specs.Row.{Row, null_row, truth_row, whole_row, bytes_row, list_row, Rows, no_rows, row, row_list, row_count}
use Rattle.vortex_terms.specs.Fits.{Fits}
use Rattle.vortex_terms.specs.Tests.{is_fitting, are_fitting, rows_all}
use Rattle.vortex_terms.specs.TestLaws.{is_fitting-Decides}
use Rattle.vortex_scalar_value.specs.Joined.{joined}
use Rattle.vortex_scalar_value.specs.Value.{ValueTerm, null_value, truth_value, whole_value, bytes_value, text_value, list_value, ValueTerms, no_values, value, value_list}
use Rattle.vortex_value_rows.specs.RowOf.{row_of, rows_by, field_rows, row_before}
use Rattle.vortex_scalar_text.specs.Size.{inner_rows}
use Rattle.vortex_scalar_text.specs.ScalarText.{null_text, quoted, hex_text, scalar_text, field_texts}
use Rattle.vortex_scalar_text.specs.Widths.{holds_decimals, any_decimals}
use Rattle.vortex_scalar_text.proofs.SizeOfRow.{rows_of}
use Rattle.vortex_scalar_text.proofs.TemporalRows.{row_shown, shown_agrees}

-- the text of a row; that of a decimal is not said
abbrev mutual
  row_text : Term → Row → List ℕ
  row_text (boolean n) (truth_row b) = if b then codes "true" else codes "false"
  row_text (primitive k n) (whole_row z) = signed_decimal z ++ ptype_text (ptype_of k)
  row_text (utf8 n) (bytes_row bs) = quoted bs
  row_text (binary n) (bytes_row bs) = quoted (hex_text bs)
  row_text (structure fs n) (list_row rs) = codes "{" ++ joined (codes ", ") (rows_texts fs rs) ++ codes "}"
  row_text (list t n) (list_row rs) = codes "[" ++ joined (codes ", ") (map (row_text t) (row_list rs)) ++ codes "]"
  row_text (extension id t m) r =
      option_map_or (λ text. text) (row_shown id t m r) (id ++ codes "(" ++ row_text t r ++ codes ")")
  row_text (fixed_size_list t k n) (list_row rs) =
      codes "fixed_size<" ++ numbers.decimal k ++ codes ">[" ++ joined (codes ", ") (map (row_text t) (row_list rs)) ++ codes "]"
  row_text _ _ = null_text

  rows_texts : Fields → Rows → List (List ℕ)
  rows_texts (field x t fs) (row r rs) = (x ++ codes ": " ++ row_text t r) ∷ rows_texts fs rs
  rows_texts _ _ = []

both : (a b : Bool) → (a && b) ≡ true → (a ≡ true) × (b ≡ true)
both true b e = (refl, e)
both false b e = absurd (cc)

neither : (a b : Bool) → (a || b) ≡ false → (a ≡ false) × (b ≡ false)
neither false b e = (refl, e)
neither true b e = absurd (cc)

-- the row of a list is a list
rows_are : (o : Option Rows) (r : Row) → option_map list_row o ≡ Some r → list_row (inner_rows r) ≡ r
rows_are (Some rs) r e = ap (λ q. list_row (inner_rows q)) (sym (same_Some (list_row rs) r e)) ∙ same_Some (list_row rs) r e
rows_are None r e = absurd (cc)

-- bytes that are a text
text_shown : (n : Bool) (bs : List ℕ) (r : Row) → bytes_row bs ≡ r → is_fitting (utf8 n) r ≡ true
    → option_map_or quoted (if is_utf8 bs then Some bs else None) null_text ≡ row_text (utf8 n) r
text_shown n bs r e fits =
    ap (λ (b : Bool). option_map_or quoted (if b then Some bs else None) null_text) (ap (is_fitting (utf8 n)) e ∙ fits) ∙ ap (row_text (utf8 n)) e

-- a row and the rows behind it
list_step : (t : Term) (a : List ℕ) (ts : List (List ℕ)) (o : Option Row) (os : Option Rows) (rows : Rows)
    → ((r : Row) → is_fitting t r ≡ true → o ≡ Some r → a ≡ row_text t r)
    → ((rs : Rows) → rows_all (is_fitting t) rs ≡ true → os ≡ Some rs → ts ≡ map (row_text t) (row_list rs))
    → rows_all (is_fitting t) rows ≡ true → row_before o os ≡ Some rows → (a ∷ ts) ≡ map (row_text t) (row_list rows)
list_step t a ts (Some r) (Some rs) rows first rest fits e =
    let f = both (is_fitting t r) (rows_all (is_fitting t) rs) (ap (rows_all (is_fitting t)) (same_Some (row r rs) rows e) ∙ fits) in
    (λ i. first r f.0 refl i ∷ rest rs f.1 refl i) ∙ ap (λ q. map (row_text t) (row_list q)) (same_Some (row r rs) rows e)
list_step t a ts (Some r) None rows first rest fits e = absurd (cc)
list_step t a ts None os rows first rest fits e = absurd (cc)

fields_step : (x : List ℕ) (t : Term) (fs : Fields) (a : List ℕ) (ts : List (List ℕ)) (o : Option Row) (os : Option Rows) (rows : Rows)
    → ((r : Row) → is_fitting t r ≡ true → o ≡ Some r → a ≡ row_text t r)
    → ((rs : Rows) → are_fitting fs rs ≡ true → os ≡ Some rs → ts ≡ rows_texts fs rs)
    → are_fitting (field x t fs) rows ≡ true → row_before o os ≡ Some rows → ((x ++ codes ": " ++ a) ∷ ts) ≡ rows_texts (field x t fs) rows
fields_step x t fs a ts (Some r) (Some rs) rows first rest fits e =
    let f = both (is_fitting t r) (are_fitting fs rs) (ap (are_fitting (field x t fs)) (same_Some (row r rs) rows e) ∙ fits) in
    (λ i. (x ++ codes ": " ++ first r f.0 refl i) ∷ rest rs f.1 refl i) ∙ ap (rows_texts (field x t fs)) (same_Some (row r rs) rows e)
fields_step x t fs a ts (Some r) None rows first rest fits e = absurd (cc)
fields_step x t fs a ts None os rows first rest fits e = absurd (cc)

mutual
  text_of_row : (t : Term) (v : ValueTerm) (r : Row) → holds_decimals t ≡ false → is_fitting t r ≡ true → row_of t v ≡ Some r → scalar_text t v ≡ row_text t r
  text_of_row null v r d f e = refl
  text_of_row (boolean n) null_value r d f e = ap (row_text (boolean n)) (same_Some null_row r e)
  text_of_row (boolean n) (truth_value b) r d f e = ap (row_text (boolean n)) (same_Some (truth_row b) r e)
  text_of_row (primitive k n) null_value r d f e = ap (row_text (primitive k n)) (same_Some null_row r e)
  text_of_row (primitive k n) (whole_value l z) r d f e = ap (row_text (primitive k n)) (same_Some (whole_row z) r e)
  text_of_row (decimal p s n) v r d f e = absurd (cc)
  text_of_row (utf8 n) null_value r d f e = ap (row_text (utf8 n)) (same_Some null_row r e)
  text_of_row (utf8 n) (bytes_value bs) r d f e = text_shown n bs r (same_Some (bytes_row bs) r e) f
  text_of_row (utf8 n) (text_value bs) r d f e = ap (row_text (utf8 n)) (same_Some (bytes_row bs) r e)
  text_of_row (binary n) null_value r d f e = ap (row_text (binary n)) (same_Some null_row r e)
  text_of_row (binary n) (bytes_value bs) r d f e = ap (row_text (binary n)) (same_Some (bytes_row bs) r e)
  text_of_row (binary n) (text_value bs) r d f e = ap (row_text (binary n)) (same_Some (bytes_row bs) r e)
  text_of_row (structure fs n) null_value r d f e = ap (row_text (structure fs n)) (same_Some null_row r e)
  text_of_row (structure fs n) (list_value vs) r d f e =
      let is = rows_are (field_rows fs vs) r e in
      ap (λ ts. codes "{" ++ joined (codes ", ") ts ++ codes "}") (fields_shown fs vs (inner_rows r) d (ap (is_fitting (structure fs n)) is ∙ f) (rows_of (field_rows fs vs) r e))
      ∙ ap (row_text (structure fs n)) is
  text_of_row (list t n) null_value r d f e = ap (row_text (list t n)) (same_Some null_row r e)
  text_of_row (list t n) (list_value vs) r d f e =
      let is = rows_are (rows_by (row_of t) vs) r e in
      ap (λ ts. codes "[" ++ joined (codes ", ") ts ++ codes "]") (list_shown t vs (inner_rows r) d (ap (is_fitting (list t n)) is ∙ f) (rows_of (rows_by (row_of t) vs) r e))
      ∙ ap (row_text (list t n)) is
  text_of_row (extension id t m) v r d f e =
      (λ i. option_map_or (λ text. text) (shown_agrees id t m v r e i) (id ++ codes "(" ++ text_of_row t v r d f e i ++ codes ")"))
  text_of_row (fixed_size_list t k n) null_value r d f e = ap (row_text (fixed_size_list t k n)) (same_Some null_row r e)
  text_of_row (fixed_size_list t k n) (list_value vs) r d f e =
      let is = rows_are (rows_by (row_of t) vs) r e in
      ap (λ ts. codes "fixed_size<" ++ numbers.decimal k ++ codes ">[" ++ joined (codes ", ") ts ++ codes "]")
      (list_shown t vs (inner_rows r) d (both (nat_eq (row_count (inner_rows r)) k) (rows_all (is_fitting t) (inner_rows r)) (ap (is_fitting (fixed_size_list t k n)) is ∙ f)).1 (rows_of (rows_by (row_of t) vs) r e))
      ∙ ap (row_text (fixed_size_list t k n)) is
  text_of_row _ v r d f e = absurd (cc)

  fields_shown : (fs : Fields) (vs : ValueTerms) (rs : Rows) → any_decimals fs ≡ false → are_fitting fs rs ≡ true → field_rows fs vs ≡ Some rs
      → field_texts fs (value_list vs) ≡ rows_texts fs rs
  fields_shown no_fields no_values rs d f e = refl
  fields_shown (field x t fs) (value v vs) rs d f e =
      let none = neither (holds_decimals t) (any_decimals fs) d in
      fields_step x t fs _ _ (row_of t v) (field_rows fs vs) rs (λ r g h. text_of_row t v r none.0 g h) (λ qs g h. fields_shown fs vs qs none.1 g h) f e
  fields_shown no_fields (value v vs) rs d f e = absurd (cc)
  fields_shown (field x t fs) no_values rs d f e = absurd (cc)

  list_shown : (t : Term) (vs : ValueTerms) (rs : Rows) → holds_decimals t ≡ false → rows_all (is_fitting t) rs ≡ true → rows_by (row_of t) vs ≡ Some rs
      → map (scalar_text t) (value_list vs) ≡ map (row_text t) (row_list rs)
  list_shown t no_values rs d f e = ap (λ q. map (row_text t) (row_list q)) (same_Some no_rows rs e)
  list_shown t (value v vs) rs d f e =
      list_step t _ _ (row_of t v) (rows_by (row_of t) vs) rs (λ r g h. text_of_row t v r d g h) (λ qs g h. list_shown t vs qs d g h) f e

-- two values of one row print the same
pub texts_agree : (t : Term) (v w : ValueTerm) (r : Row) → holds_decimals t ≡ false → Fits t r → row_of t v ≡ Some r → row_of t w ≡ Some r
    → scalar_text t v ≡ scalar_text t w
texts_agree t v w r d fits e g =
    let f = (is_fitting-Decides t r).1 fits in
    text_of_row t v r d f e ∙ sym (text_of_row t w r d f g)
