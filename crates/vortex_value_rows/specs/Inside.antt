-- The types of the values inside a list or a struct.
--     InTerm                 one type for every value, or a type for each field
--     inside_term            of what the code holds
--     in_of                  those inside a type, an extension being its storage
--     in_at, in_drop         the type at a place, and the types from a place on
--     in_takes               whether there may be so many values
--     in_rows, in_fitting    the rows of the values, and whether they fit
--     in_weight              a measure
use Rattle.std.specs.Prelude.{ℕ, zero, suc, ◌+◌, Bool, true, nat_eq, Option, Some, None}
use Rattle.vortex_terms.specs.Term.{Term, structure, list, extension, fixed_size_list, Fields, no_fields, field}
use Rattle.vortex_terms.specs.Types.{field_at, field_count}
use Rattle.vortex_terms.specs.Weight.{weight, fields_weight}
use Rattle.vortex_terms.specs.Row.{Rows}
use Rattle.vortex_terms.specs.Tests.{is_fitting, are_fitting, rows_all}
use Rattle.vortex_types.specs.TypeRefs.{ref_term, fields_term}
use Rattle.vortex_scalar_value.specs.Value.{ValueTerms}
use Rattle.vortex_value_rows.specs.RowOf.{row_of, rows_by, field_rows}
use Rattle.vortex_value_rows.specs.declared.part_types.Inside.{Inside}
use Rattle.vortex_value_rows.specs.declared.part_types.Inside.TheVariants as inside

pub data InTerm : Type 0 where
  every : Term → InTerm
  each : Fields → InTerm

abbrev pub inside_term : Inside → InTerm
inside_term (inside.Every t) = every (ref_term t)
inside_term (inside.Fields fs) = each (fields_term fs)

abbrev pub in_of : Term → Option InTerm
in_of (structure fs n) = Some (each fs)
in_of (list t n) = Some (every t)
in_of (extension id t m) = in_of t
in_of (fixed_size_list t k n) = Some (every t)
in_of _ = None

abbrev pub in_at : InTerm → ℕ → Option Term
in_at (every t) i = Some t
in_at (each fs) i = field_at fs i

-- the fields from a place on
abbrev pub fields_drop : ℕ → Fields → Fields
fields_drop zero fs = fs
fields_drop (suc i) no_fields = no_fields
fields_drop (suc i) (field x t fs) = fields_drop i fs

abbrev pub in_drop : ℕ → InTerm → InTerm
in_drop i (every t) = every t
in_drop i (each fs) = each (fields_drop i fs)

abbrev pub in_takes : InTerm → ℕ → Bool
in_takes (every t) n = true
in_takes (each fs) n = nat_eq (field_count fs) n

abbrev pub in_rows : InTerm → ValueTerms → Option Rows
in_rows (every t) vs = rows_by (row_of t) vs
in_rows (each fs) vs = field_rows fs vs

abbrev pub in_fitting : InTerm → Rows → Bool
in_fitting (every t) rs = rows_all (is_fitting t) rs
in_fitting (each fs) rs = are_fitting fs rs

abbrev pub in_weight : InTerm → ℕ
in_weight (every t) = 1 + weight t
in_weight (each fs) = fields_weight fs
