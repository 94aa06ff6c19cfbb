-- The precision and the scale of decimals: `Decimal`, `decimal_of`, `IsBitLength`.
use Rattle.std.specs.Prelude.{ℕ, ℤ, pos, ◌*◌, ◌^◌, ◌<◌, ◌≤◌, ◌&&◌, ◌==◌, List, ◌++◌, codes}
use Rattle.std.specs.Prelude.{Result, Ok, Err, nat_lt, int_lt, if◌then◌else◌}
use Rattle.std.specs.Fmt.{decimal, signed_decimal}
use Rattle.vortex_names.specs.declared.error.DTypeError.{DTypeError}
use Rattle.vortex_names.specs.declared.error.DTypeError.TheVariants as error

-- how many digits a decimal has, and how many of them stand behind the point
pub record Decimal : Type 0 where
  pub precision : ℕ
  pub scale : ℤ

-- the decimal, or the first of its faults
abbrev pub decimal_of : ℕ → ℤ → Result Decimal DTypeError
decimal_of precision scale =
    if precision == 0 then Err error.PrecisionZero
    else if nat_lt 76 precision then Err error.PrecisionTooLarge
    else if int_lt (pos 76) scale then Err error.ScaleTooLarge
    else if int_lt (pos 0) scale && int_lt (pos precision) scale then Err error.ScaleAbovePrecision
    else Ok (record { precision = precision; scale = scale })

-- a positive number has so many binary digits: the first of them is 1
pub record IsBitLength (n bits : ℕ) : Type 0 where
  pub enough : n < 2 ^ bits
  pub needed : 2 ^ bits ≤ 2 * n

-- as decimal(10,2)
abbrev pub decimal_text : Decimal → List ℕ
decimal_text d =
    codes "decimal(" ++ decimal d.precision ++ codes "," ++ signed_decimal d.scale ++ codes ")"
