-- Values as the rows of arrays without constants.
--     truth_in, number_in, ..     what a value holds
--     FitsValue                   the value has a row that fits the type
--     takes_mask                  rows of the type are null where a mask is false
--     IsPlain                     an array of values
--     IsPlainContent, IsPlainHeld the same of how its rows are held
--     ArePlain                    the columns of structs of values
--     IsDefault                   a value of the default row
--     RefusesRows, RefusesPlain, RefusesSizes, RefusesFields      why there is none
use Rattle.std.specs.Prelude.{◌≡◌, ◌<◌, ◌⊎◌, ℕ, ℤ, pos, List, [], ◌∷◌, drop, not, Bool, true, false, Some, map, length, slice_index_or}
use Rattle.std.specs.Option.{IsSome, unwrap_or}
use Rattle.std.specs.List.{AllByRecursion, sum}
use Rattle.vortex_terms.specs.Term.{Term, null, extension, Fields, no_fields, field}
use Rattle.vortex_terms.specs.Types.{nullable}
use Rattle.vortex_terms.specs.Default.{default_row}
use Rattle.vortex_terms.specs.Row.{Row}
use Rattle.vortex_scalar_value.specs.Value.{ValueTerm, null_value, truth_value, whole_value, decimal_value, bytes_value, text_value, list_value, value_list, is_null_value}
use Rattle.vortex_value_rows.specs.RowOf.{row_under, fitting_row, number_of_bytes}
use Rattle.vortex_node_rows.specs.RowsOf.{most_rows}
use Rattle.vortex_array_data.specs.Constants.{is_canonical}
use Rattle.vortex_array_data.specs.Column.{Column}
use Rattle.vortex_array_data.specs.Content.{content_rows, held_rows, is_maskable, IsMask, IsShaped}
use Rattle.vortex_array_data.specs.Taken.{FieldsHoldMuch, HoldsMuch}
use Rattle.vortex_array_data.specs.declared.error.ArrayError.{ArrayError}
use Rattle.vortex_array_data.specs.declared.error.ArrayError.TheVariants.{OutOfMemory, TooLarge}
use Rattle.vortex_array_data.specs.declared.held.Content.{Content}
use Rattle.vortex_array_data.specs.declared.held.Held.{Held}
use Rattle.vortex_array_data.specs.inner.Picked.{is_plain_content}

-- ---- what a value holds

abbrev pub truth_in : ValueTerm → Bool
truth_in (truth_value b) = b
truth_in _ = false

abbrev pub number_in : ValueTerm → ℤ
number_in (whole_value k z) = z
number_in _ = pos 0

abbrev pub decimal_in : ValueTerm → ℤ
decimal_in (decimal_value w z) = z
decimal_in (bytes_value bs) = unwrap_or (number_of_bytes bs) (pos 0)
decimal_in _ = pos 0

abbrev pub bytes_in : ValueTerm → List ℕ
bytes_in (bytes_value bs) = bs
bytes_in (text_value bs) = bs
bytes_in _ = []

abbrev pub values_in : ValueTerm → List ValueTerm
values_in (list_value vs) = value_list vs
values_in _ = []

-- the value at a place of a list, and null where there is none
abbrev pub part_in : ℕ → ValueTerm → ValueTerm
part_in i v = slice_index_or (values_in v) i null_value

-- the value, and d in place of null
abbrev pub filled : ValueTerm → ValueTerm → ValueTerm
filled d null_value = d
filled d v = v

abbrev pub is_valued : ValueTerm → Bool
is_valued v = not (is_null_value v)

-- ---- arrays of values

abbrev pub FitsValue : Term → ValueTerm → Type 0
FitsValue t v = IsSome (fitting_row t v)

abbrev pub AllFit : Term → List ValueTerm → Type 0
AllFit t vs = AllByRecursion (FitsValue t) vs

-- rows of the type may be null, and a mask says which are
abbrev pub takes_mask : Term → Bool
takes_mask null = false
takes_mask (extension id t m) = false
takes_mask t = nullable t

pub record IsPlain (t : Term) (vs : List ValueTerm) (a : Column) : Type 0 where
  pub dtype : a.dtype ≡ t
  pub rows : a.rows ≡ map (row_under t) vs
  pub canonical : is_canonical a.node ≡ true

pub record IsPlainContent (t : Term) (vs : List ValueTerm) (c : Content) : Type 0 where
  pub shape : IsShaped c t (length vs)
  pub rows : content_rows c t (length vs) ≡ map (row_under t) vs
  pub canonical : is_plain_content c ≡ true

pub record IsPlainHeld (t : Term) (vs : List ValueTerm) (h : Held) : Type 0 where
  pub shape : IsShaped h.content t (length vs)
  pub mask : IsMask (length vs) (is_maskable t) h.validity
  pub rows : held_rows t (length vs) h ≡ map (row_under t) vs
  pub canonical : is_plain_content h.content ≡ true

-- a value of the type's default row
abbrev pub IsDefault : Term → ValueTerm → Type 0
IsDefault t v = fitting_row t v ≡ Some (default_row t)

-- memory lacks, or the rows are too much
abbrev pub RefusesRows : Term → List Row → ArrayError → Type 0
RefusesRows t rs e = (e ≡ OutOfMemory) ⊎ ((e ≡ TooLarge) × HoldsMuch t rs)

-- the same of the rows of values
abbrev pub RefusesPlain : Term → List ValueTerm → ArrayError → Type 0
RefusesPlain t vs e = RefusesRows t (map (row_under t) vs) e

-- memory lacks, or these sizes are too much together
abbrev pub RefusesSizes : List ℕ → ArrayError → Type 0
RefusesSizes ks e = (e ≡ OutOfMemory) ⊎ ((e ≡ TooLarge) × (most_rows < sum ks))

-- of lists of values, those at each place are the rows of the field's column
abbrev pub first_in : List ValueTerm → ValueTerm
first_in vs = slice_index_or vs 0 null_value

abbrev pub ArePlain : Fields → List (List ValueTerm) → List Column → Type 0
ArePlain no_fields ls [] = Unit {0}
ArePlain (field x t fs) ls (c ∷ cs) = IsPlain t (map first_in ls) c × ArePlain fs (map (drop 1) ls) cs
ArePlain _ ls _ = ⊥

-- of lists of values, the rows at each place, under the types of the fields
abbrev pub value_columns : Fields → List (List ValueTerm) → List (List Row)
value_columns no_fields ls = []
value_columns (field x t fs) ls = map (row_under t) (map first_in ls) ∷ value_columns fs (map (drop 1) ls)

-- memory lacks, or those of a field are too much
abbrev pub RefusesFields : Fields → List (List ValueTerm) → ArrayError → Type 0
RefusesFields fs ls e = (e ≡ OutOfMemory) ⊎ ((e ≡ TooLarge) × FieldsHoldMuch (length ls) fs (value_columns fs ls))
