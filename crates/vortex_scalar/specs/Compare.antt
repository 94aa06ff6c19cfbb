-- How scalars compare: apart from nullability.
--     scalar_eq      whether the types are the same and the rows equal
--     scalar_cmp     how the rows compare, where the types are the same
use Rattle.std.specs.Prelude.{Bool, Option, Some, None, if◌then◌else◌, ◌&&◌}
use Rattle.std.specs.declared.cmp.Ordering.{Ordering}
use Rattle.vortex_terms.specs.Equality.{is_same}
use Rattle.vortex_terms.specs.Order.{row_cmp, row_eq}
use Rattle.vortex_scalar.specs.ScalarTerm.{ScalarTerm}

abbrev pub scalar_eq : ScalarTerm → ScalarTerm → Bool
scalar_eq s t = is_same s.dtype t.dtype && row_eq s.row t.row

abbrev pub scalar_cmp : ScalarTerm → ScalarTerm → Option Ordering
scalar_cmp s t = if is_same s.dtype t.dtype then Some (row_cmp s.row t.row) else None
