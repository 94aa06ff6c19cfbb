-- Operations on lists of truth values.
--     packed             as bytes
--     places_of          the places of true
--     both               place by place
--     kept, picked       of any list
use Rattle.std.specs.Prelude.{ℕ, ◌+◌, ◌*◌, ◌/◌, List, [], ◌∷◌, Bool, false, ◌&&◌, if◌then◌else◌, map, length, slice_index_or}
use Rattle.std.specs.Simd.{first_chunks}

-- as few bytes as hold n truth values
abbrev pub byte_count : ℕ → ℕ
byte_count n = (n + 7) / 8

-- a number with these bits, the lowest first
abbrev pub number_of : List Bool → ℕ
number_of [] = 0
number_of (b ∷ m) = (if b then 1 else 0) + 2 * number_of m

-- eight truth values a byte, the lowest bit first; the bits that are left of the last byte are 0
unfoldable pub packed : List Bool → List ℕ
packed m = map number_of (first_chunks 8 (byte_count (length m)) m)

-- the places of true, where the first place has this number
abbrev pub places_from : ℕ → List Bool → List ℕ
places_from i [] = []
places_from i (b ∷ m) = if b then i ∷ places_from (i + 1) m else places_from (i + 1) m

-- the places of true, in order
abbrev pub places_of : List Bool → List ℕ
places_of m = places_from 0 m

-- true where both are
abbrev pub both : List Bool → List Bool → List Bool
both [] n = []
both (a ∷ m) [] = []
both (a ∷ m) (b ∷ n) = (a && b) ∷ both m n

-- the elements where the mask is true
abbrev pub kept : {A : Type 0} → List Bool → List A → List A
kept [] xs = []
kept (b ∷ m) [] = []
kept (b ∷ m) (x ∷ xs) = if b then x ∷ kept m xs else kept m xs

-- the truth values at these places
abbrev pub picked : List ℕ → List Bool → List Bool
picked places m = map (λ place. slice_index_or m place false) places
