-- Truth values in bytes: `bits_of_byte`, `truths_in`.
use Rattle.std.specs.Prelude.{ℕ, ◌/◌, ◌%◌, ◌==◌, List, [], ◌∷◌, Bool, map, take}
use Rattle.std.specs.List.{flat_map}

-- eight truth values, the lowest bit first
abbrev pub bits_of_byte : ℕ → List Bool
bits_of_byte b =
    map (λ power. b / power % 2 == 1) (1 ∷ 2 ∷ 4 ∷ 8 ∷ 16 ∷ 32 ∷ 64 ∷ 128 ∷ [])

-- n truth values, eight in each byte
abbrev pub truths_in : ℕ → List ℕ → List Bool
truths_in n bytes = take n (flat_map bits_of_byte bytes)
