-- The result of an operator on two scalars of whole numbers of one kind.
--     nullable_one      of two types the first where it is nullable, and else the second
--     operated_row      the row: null where one is null, and else the exact result, where the kind has it
--     AreOfOneKind      their types are of one kind of whole numbers
--     combined          the scalar
--     CanCombine        they are of one kind, and there is a result
use Rattle.std.specs.Prelude.{◌≡◌, Option, Some, if◌then◌else◌}
use Rattle.std.specs.Option.{IsSome, option_map}
use Rattle.vortex_prelude.specs.Chain.{◌>>=◌}
use Rattle.vortex_number.specs.WholeKind.{ptype_of}
use Rattle.vortex_number.specs.declared.ptype.PType.{PType}
use Rattle.vortex_value.specs.declared.numeric_operator.NumericOperator.{NumericOperator}
use Rattle.vortex_arithmetic.specs.Operated.{operated_within}
use Rattle.vortex_terms.specs.Term.{Term}
use Rattle.vortex_terms.specs.Types.{nullable}
use Rattle.vortex_terms.specs.Row.{Row, null_row, whole_row}
use Rattle.vortex_types.specs.Accessors.{whole_kind_of}
use Rattle.vortex_scalar.specs.ScalarTerm.{ScalarTerm}
use Rattle.vortex_scalar.specs.Made.{typed}

abbrev pub nullable_one : Term → Term → Term
nullable_one t u = if nullable t then t else u

abbrev pub operated_row : PType → NumericOperator → Row → Row → Option Row
operated_row k op (whole_row a) (whole_row b) = option_map whole_row (operated_within k op a b)
operated_row k op _ _ = Some null_row

abbrev pub AreOfOneKind : ScalarTerm → ScalarTerm → Type 0
AreOfOneKind s t = whole_kind_of s.dtype ≡ whole_kind_of t.dtype

abbrev pub combined : NumericOperator → ScalarTerm → ScalarTerm → Option ScalarTerm
combined op s t = do
  k ← whole_kind_of s.dtype
  r ← operated_row (ptype_of k) op s.row t.row
  Some (typed (nullable_one s.dtype t.dtype) r)

abbrev pub CanCombine : NumericOperator → ScalarTerm → ScalarTerm → Type 0
CanCombine op s t = AreOfOneKind s t × IsSome (combined op s t)
