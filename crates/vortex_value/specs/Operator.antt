-- The relations between two values: `bears`.
use Rattle.std.specs.Prelude.{Bool}
use Rattle.std.specs.declared.cmp.Ordering.{Ordering}
use Rattle.std.specs.Ordering.{is_eq, is_ne, is_lt, is_le, is_gt, is_ge}
use Rattle.vortex_value.specs.declared.operator.Operator.{Operator}
use Rattle.vortex_value.specs.declared.operator.Operator.TheVariants.{Eq, NotEq, Lt, Lte, Gt, Gte}

-- whether two values in this order stand in the relation
abbrev pub bears : Operator → Ordering → Bool
bears Eq o = is_eq o
bears NotEq o = is_ne o
bears Lt o = is_lt o
bears Lte o = is_le o
bears Gt o = is_gt o
bears Gte o = is_ge o
