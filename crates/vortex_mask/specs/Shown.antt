-- What the fields of a mask stand for: `shown`, `IsHeld`.
use Rattle.std.specs.Prelude.{ℕ, ◌+◌, ◌*◌, ◌^◌, ◌<◌, ◌≤◌, List, Bool, length, take, drop, replicate}
use Rattle.std.specs.List.{flat_map}
use Rattle.vortex_mask.specs.Bits.{bits_of_byte}
use Rattle.vortex_mask.specs.declared.mask.Content.{Content}
use Rattle.vortex_mask.specs.declared.mask.Content.TheVariants.{All, Bits}

-- n truth values
abbrev pub shown : Content → ℕ → List Bool
shown (All b) n = replicate n b
shown (Bits bytes from) n = take n (drop from (flat_map bits_of_byte bytes))

-- the bytes reach as far, and places are numbers of 64 bits
abbrev pub IsHeld : Content → ℕ → Type 0
IsHeld (All b) n = Unit {0}
IsHeld (Bits bytes from) n = (from + n ≤ 8 * length bytes) × (from + n < 2 ^ 64)
