-- Values of the eight kinds as their numbers: `kind_of`, `number_of`, `value_of`, `pvalue_text`.
use Rattle.std.specs.Prelude.{ℕ, ℤ, pos, List, ◌++◌, Option, Some, None, if◌then◌else◌}
use Rattle.std.specs.Prelude.{unsigned_abs}
use Rattle.std.specs.Fmt.{signed_decimal}
use Rattle.vortex_number.specs.Format.{bits_of, number_with_bits}
use Rattle.vortex_number.specs.PType.{format_of, in_range, ptype_text}
use Rattle.vortex_number.specs.declared.ptype.PType.{PType}
use Rattle.vortex_number.specs.declared.ptype.PType.TheVariants as kind
use Rattle.vortex_value.specs.declared.pvalue.PValue.{PValue}
use Rattle.vortex_value.specs.declared.pvalue.PValue.TheVariants.{U8, U16, U32, U64, I8, I16, I32}
use Rattle.vortex_value.specs.declared.pvalue.PValue.TheVariants.{I64}

-- the kind of a value
abbrev pub kind_of : PValue → PType
kind_of (U8 _) = kind.U8
kind_of (U16 _) = kind.U16
kind_of (U32 _) = kind.U32
kind_of (U64 _) = kind.U64
kind_of (I8 _) = kind.I8
kind_of (I16 _) = kind.I16
kind_of (I32 _) = kind.I32
kind_of (I64 _) = kind.I64

-- the number that a value is
abbrev pub number_of : PValue → ℤ
number_of (U8 n) = pos n
number_of (U16 n) = pos n
number_of (U32 n) = pos n
number_of (U64 n) = pos n
number_of (I8 z) = z
number_of (I16 z) = z
number_of (I32 z) = z
number_of (I64 z) = z

-- the value of a kind that is this number of the kind
abbrev pub value_of : PType → ℤ → PValue
value_of kind.U8 z = U8 (unsigned_abs z)
value_of kind.U16 z = U16 (unsigned_abs z)
value_of kind.U32 z = U32 (unsigned_abs z)
value_of kind.U64 z = U64 (unsigned_abs z)
value_of kind.I8 z = I8 z
value_of kind.I16 z = I16 z
value_of kind.I32 z = I32 z
value_of kind.I64 z = I64 z

-- the bits of a value, as a number without a sign
abbrev pub value_bits : PValue → ℕ
value_bits v = bits_of (format_of (kind_of v)) (number_of v)

-- the value of a kind that has these bits
abbrev pub value_with_bits : PType → ℕ → PValue
value_with_bits k n = value_of k (number_with_bits (format_of k) n)

-- a number as one of a kind without a sign, where it is in the kind's range
abbrev pub as_unsigned : PType → ℤ → Option ℕ
as_unsigned k z = if in_range k z then Some (unsigned_abs z) else None

-- a number as one of a kind with a sign, where it is in the kind's range
abbrev pub as_signed : PType → ℤ → Option ℤ
as_signed k z = if in_range k z then Some z else None

-- the digits of a value, and then its kind
abbrev pub pvalue_text : PValue → List ℕ
pvalue_text v = signed_decimal (number_of v) ++ ptype_text (kind_of v)
