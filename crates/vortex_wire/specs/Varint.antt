-- Numbers as groups of seven bits, one in a byte, the lowest first: `varint_at`, `varint`.
-- Protocol Buffers calls them base 128 varints.
use Rattle.std.specs.Prelude.{ℕ, zero, suc, ◌+◌, ◌-◌, ◌*◌, ◌/◌, ◌%◌, ◌^◌, List, [], ◌∷◌, Option}
use Rattle.std.specs.Prelude.{Some, None, nat_lt, if◌then◌else◌}
use Rattle.vortex_prelude.specs.Chain.{◌>>=◌}

-- The number that at most so many bytes at the start spell, and the bytes after it. A byte below
-- 128 is the last group. One from 128 on has the low seven bits, and the bytes after it the higher
-- ones.
unfoldable pub groups_at : ℕ → List ℕ → Option (ℕ × List ℕ)
groups_at zero bytes = None
groups_at (suc most) [] = None
groups_at (suc most) (b ∷ rest) =
    if nat_lt b 128 then Some (b, rest)
    else (groups_at most rest >>= λ high. Some (b - 128 + 128 * high.0, high.1))

-- The varint with which the bytes begin, of at most ten bytes and below 2 ^ 64, and the bytes after
-- it.
unfoldable pub varint_at : List ℕ → Option (ℕ × List ℕ)
varint_at bytes = do
  found ← groups_at 10 bytes
  if nat_lt found.0 (2 ^ 64) then Some found else None

-- The groups of a number, of which there are at most `most` and one. None but a lone one ends in
-- zeros, so no other spelling is shorter.
unfoldable pub groups_of : ℕ → ℕ → List ℕ
groups_of zero n = n ∷ []
groups_of (suc most) n = if nat_lt n 128 then n ∷ [] else (128 + n % 128) ∷ groups_of most (n / 128)

-- The shortest varint of a number below 2 ^ 64.
unfoldable pub varint : ℕ → List ℕ
varint n = groups_of 9 n
