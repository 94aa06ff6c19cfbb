-- Numbers in a buffer, the lowest byte first (FlatBuffers binary format).
use Rattle.std.specs.Prelude.{ℕ, ◌+◌, ◌*◌, List, [], ◌∷◌, length, take, drop, Option, Some, None, ℤ, pos, negsuc, nat_le, if◌then◌else◌}
use Rattle.std.specs.Int.{w32, w8, cast_signed}
use Rattle.std.specs.Option.{option_map}

-- the value of bytes, the lowest first
abbrev pub little_endian : List ℕ → ℕ
little_endian [] = 0
little_endian (b ∷ bs) = b + 256 * little_endian bs

-- the w bytes from place i on, where they lie in the buffer
unfoldable pub piece_at : List ℕ → ℕ → ℕ → Option (List ℕ)
piece_at b i w = if nat_le (i + w) (length b) then Some (take w (drop i b)) else None

-- the value of the w bytes from place i on, where they lie in the buffer
unfoldable pub number : List ℕ → ℕ → ℕ → Option ℕ
number b i w = if nat_le (i + w) (length b) then Some (little_endian (take w (drop i b))) else None

-- the two's complement reading of the byte at place i
abbrev pub signed_8 : List ℕ → ℕ → Option ℤ
signed_8 b i = option_map (cast_signed w8) (number b i 1)

-- the two's complement reading of the four bytes from place i on
abbrev pub signed_32 : List ℕ → ℕ → Option ℤ
signed_32 b i = option_map (cast_signed w32) (number b i 4)

-- a whole number that is not negative
abbrev pub natural : ℤ → Option ℕ
natural (pos n) = Some n
natural (negsuc n) = None
