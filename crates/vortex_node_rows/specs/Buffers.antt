-- How many buffers a node has, and offsets in one.
--     one_buffer, two_buffers
--     offsets_in      offsets that never fall, up to an end
use Rattle.std.specs.Prelude.{ℕ, suc, ◌*◌, ◌&&◌, ◌==◌, List, [], ◌∷◌, Bool, true, if◌then◌else◌, nat_le, Option, Some, None, map, length}
use Rattle.std.specs.Simd.{first_chunks}
use Rattle.std.specs.Int.{w32}
use Rattle.vortex_number.specs.Format.{number_of_le_bytes}
use Rattle.vortex_terms.specs.FromColumns.{last_from}

unfoldable pub one_buffer : List (List ℕ) → Option (List ℕ)
one_buffer [] = None
one_buffer (b ∷ []) = Some b
one_buffer (b ∷ (c ∷ bs)) = None

unfoldable pub two_buffers : List (List ℕ) → Option (List ℕ × List ℕ)
two_buffers [] = None
two_buffers (a ∷ []) = None
two_buffers (a ∷ (b ∷ [])) = Some (a, b)
two_buffers (a ∷ (b ∷ (c ∷ bs))) = None

-- each is at least the one before, and the first at least a
abbrev pub rises_from : ℕ → List ℕ → Bool
rises_from a [] = true
rises_from a (b ∷ os) = nat_le a b && rises_from b os

abbrev pub never_fall : List ℕ → Bool
never_fall os = rises_from 0 os

-- n numbers of 4 bytes each, the lowest first
abbrev pub numbers_32 : ℕ → List ℕ → List ℕ
numbers_32 n bytes = map (number_of_le_bytes w32) (first_chunks 4 n bytes)

-- n and one offsets of 4 bytes each, which never fall, and of which the last is at most the end
unfoldable pub offsets_in : ℕ → ℕ → List ℕ → Option (List ℕ)
offsets_in n end b =
    let os : List ℕ = numbers_32 (suc n) b in
    if length b == suc n * 4 && never_fall os && nat_le (last_from 0 os) end then Some os else None
