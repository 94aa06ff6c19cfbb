-- Values of decimals as their numbers: `width_of`, `decimal_number`, `decimal_text`.
use Rattle.std.specs.Prelude.{ℕ, ℤ, List, ◌++◌, codes}
use Rattle.std.specs.Int.{w8, w16, w32, w64, w128}
use Rattle.std.specs.Fmt.{signed_decimal}
use Rattle.vortex_number.specs.Format.{Format, signed}
use Rattle.vortex_value.specs.declared.decimal.DecimalValue.{DecimalValue}
use Rattle.vortex_value.specs.declared.decimal.DecimalValue.TheVariants.{I8, I16, I32, I64, I128}
use Rattle.vortex_value.specs.declared.decimal.DecimalValueType.{DecimalValueType}
use Rattle.vortex_value.specs.declared.decimal.DecimalValueType.TheVariants as width

-- the number of a width where it is written
abbrev pub width_number : DecimalValueType → ℕ
width_number width.I8 = 0
width_number width.I16 = 1
width_number width.I32 = 2
width_number width.I64 = 3
width_number width.I128 = 4

-- how the numbers of a width are held
abbrev pub decimal_format : DecimalValueType → Format
decimal_format width.I8 = signed w8
decimal_format width.I16 = signed w16
decimal_format width.I32 = signed w32
decimal_format width.I64 = signed w64
decimal_format width.I128 = signed w128

-- the width of a value
abbrev pub width_of : DecimalValue → DecimalValueType
width_of (I8 _) = width.I8
width_of (I16 _) = width.I16
width_of (I32 _) = width.I32
width_of (I64 _) = width.I64
width_of (I128 _) = width.I128

-- the number that a value is
abbrev pub decimal_number : DecimalValue → ℤ
decimal_number (I8 z) = z
decimal_number (I16 z) = z
decimal_number (I32 z) = z
decimal_number (I64 z) = z
decimal_number (I128 z) = z

-- `decimal`, the bits of the width, and the number in parentheses
abbrev pub decimal_text : DecimalValue → List ℕ
decimal_text (I8 z) = codes "decimal8(" ++ signed_decimal z ++ codes ")"
decimal_text (I16 z) = codes "decimal16(" ++ signed_decimal z ++ codes ")"
decimal_text (I32 z) = codes "decimal32(" ++ signed_decimal z ++ codes ")"
decimal_text (I64 z) = codes "decimal64(" ++ signed_decimal z ++ codes ")"
decimal_text (I128 z) = codes "decimal128(" ++ signed_decimal z ++ codes ")"
