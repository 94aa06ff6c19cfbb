-- What is selected of leaves.
--     AreNumbersOf       numbers in a format that are these rows
--     taken_rows         the rows at places
--     is_shown           no mask hides a row
--     taken_pieces       the pieces at places, and nothing where a row is hidden
--     size_at            how long a piece is, by its offsets
--     shown_size         the same, and 0 where a row is hidden
--     joined_offsets     the offsets of pieces of these sizes, one behind the other
--     AreJoinedOffsets   these offsets, or none where the last of them would not have a place in 32 bits
--     AreJoinedPieces    the same of pieces
use Rattle.std.specs.Prelude.{◌≡◌, ◌≤◌, ◌+◌, ◌-◌, ◌^◌, if◌then◌else◌, ℕ, suc, Bool, true, false, List, [], ◌∷◌, Option, Some, None, map, length, slice_index_or}
use Rattle.std.specs.List.{flat_map, sum}
use Rattle.vortex_number.specs.Format.{Format}
use Rattle.vortex_terms.specs.Row.{Row, null_row}
use Rattle.vortex_leaves.specs.Numbers.{NumberBytes, number_rows}
use Rattle.vortex_leaves.specs.Texts.{TextBytes, text_pieces}

-- numbers in this format, which are these rows
pub record AreNumbersOf (f : Format) (rs : List Row) (a : NumberBytes) : Type 0 where
  pub format : a.format ≡ f
  pub count : a.count ≡ length rs
  pub rows : number_rows a ≡ rs

-- the rows at these places, in their order
abbrev pub taken_rows : List ℕ → List Row → List Row
taken_rows places rows = map (λ place. slice_index_or rows place null_row) places

-- no mask hides row i: it is true there, or there is none
abbrev pub is_shown : Option (List Bool) → ℕ → Bool
is_shown None i = true
is_shown (Some m) i = slice_index_or m i false

-- the piece at a place, and nothing where it is hidden
abbrev pub shown_piece : {A : Type 0} → Option (List Bool) → List (List A) → ℕ → List A
shown_piece valid pieces i = if is_shown valid i then slice_index_or pieces i [] else []

-- the pieces at these places, in their order, and nothing in place of those that are hidden
abbrev pub taken_pieces : {A : Type 0} → Option (List Bool) → List ℕ → List (List A) → List (List A)
taken_pieces valid places pieces = map (shown_piece valid pieces) places

-- how long the piece at a place is
abbrev pub size_at : List ℕ → ℕ → ℕ
size_at offsets i = slice_index_or offsets (suc i) 0 - slice_index_or offsets i 0

-- the same, and 0 where the piece is hidden
abbrev pub shown_size : Option (List Bool) → List ℕ → ℕ → ℕ
shown_size valid offsets i = if is_shown valid i then size_at offsets i else 0

-- where pieces of these sizes end, of which the first starts at a
abbrev pub ends : ℕ → List ℕ → List ℕ
ends a [] = []
ends a (size ∷ sizes) = (a + size) ∷ ends (a + size) sizes

-- the offsets of pieces of these sizes, of which the first starts at 0
abbrev pub joined_offsets : List ℕ → List ℕ
joined_offsets sizes = 0 ∷ ends 0 sizes

-- these offsets, or none where the last would not have a place in 32 bits
abbrev pub AreJoinedOffsets : List ℕ → Option (List ℕ) → Type 0
AreJoinedOffsets sizes (Some offsets) = offsets ≡ joined_offsets sizes
AreJoinedOffsets sizes None = 2 ^ 32 ≤ sum sizes

-- texts of these pieces, or none where they are longer together than 32 bits tell
abbrev pub AreJoinedPieces : List (List ℕ) → Option TextBytes → Type 0
AreJoinedPieces ps (Some a) = text_pieces a ≡ ps
AreJoinedPieces ps None = 2 ^ 32 ≤ length (flat_map (λ p. p) ps)
