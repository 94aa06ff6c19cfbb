-- What a scalar of a list, a struct, an extension, a text or bytes holds.
--     holds_bytes                     whether a type is that of texts or of bytes
--     is_any_list                     whether a type is that of lists, of any length or of one
--     kept_if                         a scalar, where its type is of a kind
--     rows_within, count_within       the rows inside a row, where it is a list
--     part_type, part_scalar          what stands at a place inside a list or a struct
--     part_scalars                    all that stands in it, in order
--     field_scalar                    the first field of a name
--     projected_scalar                the first field of each of given names, in their order
--     storage_scalar                  the row of an extension under the type of its storage
use Rattle.std.specs.Prelude.{ℕ, Bool, true, false, List, [], ◌∷◌, map, Option, Some, None, if◌then◌else◌, Result, ok_or, unwrap_or}
use Rattle.std.specs.Option.{option_map}
use Rattle.vortex_prelude.specs.Chain.{◌>>=◌}
use Rattle.vortex_terms.specs.Term.{Term, utf8, binary, structure, list, fixed_size_list, Fields, field}
use Rattle.vortex_terms.specs.Types.{nullable, storage_of, place_of, field_at}
use Rattle.vortex_terms.specs.StructFields.{projected}
use Rattle.vortex_terms.specs.Row.{Row, null_row, list_row, Rows, row, row_list, rows_from, row_count, row_at}
use Rattle.vortex_types.specs.Accessors.{fields_of}
use Rattle.vortex_scalar_value.specs.declared.error.ScalarError.{ScalarError}
use Rattle.vortex_scalar_value.specs.declared.error.ScalarError.TheVariants as error
use Rattle.vortex_scalar.specs.ScalarTerm.{ScalarTerm}
use Rattle.vortex_scalar.specs.Made.{typed}

abbrev pub holds_bytes : Term → Bool
holds_bytes (utf8 n) = true
holds_bytes (binary n) = true
holds_bytes _ = false

abbrev pub is_any_list : Term → Bool
is_any_list (list t n) = true
is_any_list (fixed_size_list t k n) = true
is_any_list _ = false

-- the scalar, where its type passes the test
abbrev pub kept_if : (Term → Bool) → ScalarTerm → Option ScalarTerm
kept_if p s = if p s.dtype then Some s else None

-- the rows inside a row, and nothing of null
abbrev pub rows_within : Row → Option Rows
rows_within (list_row rs) = Some rs
rows_within _ = None

-- how many there are, 0 of null
abbrev pub count_within : Row → ℕ
count_within (list_row rs) = row_count rs
count_within _ = 0

-- the type of what stands at a place inside a list or a struct; in a list each place has one
abbrev pub part_type : Term → ℕ → Option Term
part_type (structure fs n) i = field_at fs i
part_type (list t n) i = Some t
part_type (fixed_size_list t k n) i = Some t
part_type _ i = None

-- what stands at a place inside a list or a struct
abbrev pub part_scalar : ScalarTerm → ℕ → Option ScalarTerm
part_scalar s i = do
  rs ← rows_within s.row
  t ← part_type s.dtype i
  r ← row_at rs i
  Some (typed t r)

-- the rows of a struct under the types of their fields
abbrev pub field_scalars : Fields → Rows → List ScalarTerm
field_scalars (field x t fs) (row r rs) = typed t r ∷ field_scalars fs rs
field_scalars _ _ = []

-- the rows of a list or a struct under their types
abbrev pub typed_rows : Term → Rows → List ScalarTerm
typed_rows (structure fs n) rs = field_scalars fs rs
typed_rows (list t n) rs = map (typed t) (row_list rs)
typed_rows (fixed_size_list t k n) rs = map (typed t) (row_list rs)
typed_rows _ rs = []

-- all that stands in a list or a struct, and nothing of null
abbrev pub part_scalars : ScalarTerm → Option (List ScalarTerm)
part_scalars s = option_map (typed_rows s.dtype) (rows_within s.row)

-- the first field of a name
abbrev pub field_scalar : ScalarTerm → List ℕ → Option ScalarTerm
field_scalar s x = place_of (fields_of s.dtype) x >>= part_scalar s

-- the row of the first field of a name
abbrev pub named_row : Fields → Rows → List ℕ → Row
named_row fs rs x = unwrap_or (place_of fs x >>= row_at rs) null_row

-- the rows of the first fields of these names; null stays
abbrev pub projected_row : Fields → List (List ℕ) → Row → Row
projected_row fs xs (list_row rs) = list_row (rows_from (map (named_row fs rs) xs))
projected_row fs xs r = r

-- the fields of these names, where each has one; whether it may be null stays
abbrev pub projected_scalar : ScalarTerm → List (List ℕ) → Result ScalarTerm ScalarError
projected_scalar s xs =
    let fs = fields_of s.dtype in
    ok_or (option_map (λ gs. typed (structure gs (nullable s.dtype)) (projected_row fs xs s.row)) (projected fs xs)) error.FieldNotFound

-- the row under the type of the storage
abbrev pub storage_scalar : ScalarTerm → ScalarTerm
storage_scalar s = typed (storage_of s.dtype) s.row
