-- The terms that the plain types and rows stand for, and the relations.
use Rattle.std.specs.Prelude.{Bool, Option, Some, None}
use Rattle.std.specs.Borrow.{Bor}
use Rattle.std.specs.Option.{option_map}
use Rattle.std.specs.declared.cmp.Ordering.{Ordering}
use Rattle.std.specs.Ordering.{is_eq, is_ne, is_lt, is_le, is_gt, is_ge}
use Rattle.vortex_terms_check.specs.declared.plain.WholeKind.{WholeKind}
use Rattle.vortex_terms_check.specs.declared.plain.WholeKind.TheVariants as kinds
use Rattle.vortex_terms_check.specs.declared.plain.PlainType.{PlainType}
use Rattle.vortex_terms_check.specs.declared.plain.PlainType as types
use Rattle.vortex_terms_check.specs.declared.plain.PlainFields.{PlainFields}
use Rattle.vortex_terms_check.specs.declared.plain.PlainFields as fields
use Rattle.vortex_terms_check.specs.declared.plain.PlainRow.{PlainRow}
use Rattle.vortex_terms_check.specs.declared.plain.PlainRow as rows
use Rattle.vortex_terms_check.specs.declared.plain.PlainRows.{PlainRows}
use Rattle.vortex_terms_check.specs.declared.plain.PlainRows as inner
use Rattle.vortex_terms_check.specs.declared.plain.PlainRelation.{PlainRelation}
use Rattle.vortex_terms_check.specs.declared.plain.PlainRelation.TheVariants as relations
use Rattle.vortex_terms.specs.Term as term
use Rattle.vortex_terms.specs.Row as row

abbrev pub kind_of : WholeKind → term.WholeKind
kind_of kinds.U8 = term.unsigned_8
kind_of kinds.U16 = term.unsigned_16
kind_of kinds.U32 = term.unsigned_32
kind_of kinds.U64 = term.unsigned_64
kind_of kinds.I8 = term.signed_8
kind_of kinds.I16 = term.signed_16
kind_of kinds.I32 = term.signed_32
kind_of kinds.I64 = term.signed_64

abbrev mutual
  pub term_of : PlainType → term.Term
  term_of types.Null = term.null
  term_of (types.Bool n) = term.boolean n
  term_of (types.Primitive k n) = term.primitive (kind_of k) n
  term_of (types.Decimal p s n) = term.decimal p s n
  term_of (types.Utf8 n) = term.utf8 n
  term_of (types.Binary n) = term.binary n
  term_of (types.Struct fs n) = term.structure (fields_of fs) n
  term_of (types.ListOf' p t n) = term.list (term_of t) n
  term_of (types.Extension' id p t m) = term.extension id.items (term_of t) (option_map (λ v. v.items) m)
  term_of (types.FixedSizeList' p t k n) = term.fixed_size_list (term_of t) k n

  pub fields_of : PlainFields → term.Fields
  fields_of fields.End = term.no_fields
  fields_of (fields.Field' x p t q fs) = term.field x.items (term_of t) (fields_of fs)

abbrev mutual
  pub row_of : PlainRow → row.Row
  row_of rows.Null = row.null_row
  row_of (rows.Truth b) = row.truth_row b
  row_of (rows.Whole z) = row.whole_row z
  row_of (rows.Bytes bs) = row.bytes_row bs.items
  row_of (rows.Items rs) = row.list_row (rows_of rs)

  pub rows_of : PlainRows → row.Rows
  rows_of inner.End = row.no_rows
  rows_of (inner.Row' p r q rs) = row.row (row_of r) (rows_of rs)

-- what is found, and null where nothing is
abbrev pub found : Option (Bor PlainRow) → row.Row
found None = row.null_row
found (Some r) = row_of r.now

-- whether the relation holds where a row compares so to the constant
abbrev pub holds : PlainRelation → Ordering → Bool
holds relations.Equal o = is_eq o
holds relations.NotEqual o = is_ne o
holds relations.Less o = is_lt o
holds relations.AtMost o = is_le o
holds relations.Greater o = is_gt o
holds relations.AtLeast o = is_ge o
