-- Rows do not look at nullability.
--     row_of-bare       the row of a value is that under the type without its nullability
--     row_of-same       and the same under types that are the same apart from nullability
use Rattle.std.specs.Prelude.{◌≡◌, refl}
use Rattle.std.proofs.Common.{sym, ap, ◌∙◌}
use Rattle.std.specs.Option.{option_map, unwrap_or}
use Rattle.vortex_terms.specs.Term.{Term, structure, list, extension, fixed_size_list, Fields, no_fields, field}
use Rattle.vortex_terms.specs.Types.{bare, bare_fields, Same}
use Rattle.vortex_terms.specs.Row.{null_row, list_row}
use Rattle.vortex_scalar_value.specs.Value.{ValueTerm, list_value, ValueTerms, no_values, value}
use Rattle.vortex_value_rows.specs.RowOf.{row_of, rows_by, field_rows, row_before, row_under}

mutual
  pub row_of-bare : (t : Term) (v : ValueTerm) → row_of (bare t) v ≡ row_of t v
  row_of-bare (extension id t m) v = row_of-bare t v
  row_of-bare (structure fs n) (list_value vs) = ap (option_map list_row) (field_rows-bare fs vs)
  row_of-bare (list t n) (list_value vs) = ap (option_map list_row) (rows_by-bare t vs)
  row_of-bare (fixed_size_list t k n) (list_value vs) = ap (option_map list_row) (rows_by-bare t vs)
  row_of-bare _ _ = refl

  rows_by-bare : (t : Term) (vs : ValueTerms) → rows_by (row_of (bare t)) vs ≡ rows_by (row_of t) vs
  rows_by-bare t no_values = refl
  rows_by-bare t (value v vs) = λ i. row_before (row_of-bare t v i) (rows_by-bare t vs i)

  field_rows-bare : (fs : Fields) (vs : ValueTerms) → field_rows (bare_fields fs) vs ≡ field_rows fs vs
  field_rows-bare (field x t fs) (value v vs) = λ i. row_before (row_of-bare t v i) (field_rows-bare fs vs i)
  field_rows-bare no_fields no_values = refl
  field_rows-bare no_fields (value v vs) = refl
  field_rows-bare (field x t fs) no_values = refl

pub row_of-same : (t u : Term) (v : ValueTerm) → Same t u → row_of t v ≡ row_of u v
row_of-same t u v same = sym (row_of-bare t v) ∙ ap (λ s. row_of s v) same ∙ row_of-bare u v

pub row_under-same : (t u : Term) (v : ValueTerm) → Same t u → row_under t v ≡ row_under u v
row_under-same t u v same = ap (λ o. unwrap_or o null_row) (row_of-same t u v same)
