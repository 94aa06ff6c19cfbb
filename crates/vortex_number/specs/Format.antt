-- How a type holds whole numbers, with a sign or without: `Format`, `fits`, `bytes_of`.
use Rattle.std.specs.Prelude.{ℕ, ◌^◌, ℤ, pos, negsuc, Bool, true, false, ◌&&◌, if◌then◌else◌}
use Rattle.std.specs.Prelude.{nat_lt, List}
use Rattle.std.specs.Int.{Width, cast_unsigned, cast_signed, to_le_bytes, from_le_bytes}
use mir.Val.{bits, hbits}

-- a width, and whether there is a sign: in two's complement
pub record Format : Type 0 where
  pub width : Width
  pub signed : Bool

-- the numbers without a sign in this width, and those with one
abbrev pub unsigned : Width → Format
unsigned w = record { width = w; signed = false }

abbrev pub signed : Width → Format
signed w = record { width = w; signed = true }

-- how many bits there are beside the sign
abbrev pub magnitude_bits : Format → ℕ
magnitude_bits f = if f.signed then hbits f.width else bits f.width

-- whether a number has a place in the format: it is below 2 to the power of the bits, and not below
-- 0, or not below -2 to that power where there is a sign
abbrev pub fits : Format → ℤ → Bool
fits f (pos n) = nat_lt n (2 ^ magnitude_bits f)
fits f (negsuc n) = f.signed && nat_lt n (2 ^ magnitude_bits f)

-- the bits of a number that fits, as a number without a sign
abbrev pub bits_of : Format → ℤ → ℕ
bits_of f z = cast_unsigned f.width z

-- the number that has these bits
abbrev pub number_with_bits : Format → ℕ → ℤ
number_with_bits f n = if f.signed then cast_signed f.width n else pos n

-- the bytes of a number without a sign, the lowest first
unfoldable pub le_bytes : Width → ℕ → List ℕ
le_bytes w n = to_le_bytes w n

-- the number without a sign that has these bytes, the lowest first
unfoldable pub number_of_le_bytes : Width → List ℕ → ℕ
number_of_le_bytes w bs = from_le_bytes w bs

-- the bytes of a number that fits, the lowest first
abbrev pub bytes_of : Format → ℤ → List ℕ
bytes_of f z = le_bytes f.width (bits_of f z)

-- the number that has these bytes, the lowest first
abbrev pub number_with_bytes : Format → List ℕ → ℤ
number_with_bytes f bs = number_with_bits f (number_of_le_bytes f.width bs)
