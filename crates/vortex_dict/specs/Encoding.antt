-- Rows as values and codes, up to the first new value over a limit.
--     stops_at              whether the row at a place is new and over a limit
--     Encodes               what values and codes are made of rows, beside values that are held
--     EncodesPart           what values a refusal leaves
--     IsFull                that the values would have more bytes than they may
--     code_number           the number that a code is
-- `over` tells whether a value is over a limit beside the values so far.
use Rattle.std.specs.Prelude.{◌≡◌, ℕ, ◌^◌, ◌<◌, ◌≤◌, Bool, true, false, not, ◌&&◌, List}
use Rattle.std.specs.Prelude.{◌++◌, length, take, get_or, ℤ}
use Rattle.std.specs.Prelude.{unsigned_abs}
use Rattle.std.specs.List.{list_any, sum_by}
use Rattle.vortex_terms.specs.Row.{Row, null_row}
use Rattle.vortex_terms.specs.Order.{row_eq}
use Rattle.vortex_terms.specs.Distinct.{distinct, codes_of}

-- whether the row stands among these
abbrev pub stands : Row → List Row → Bool
stands r rows = list_any (row_eq r) rows

module _ (over : List Row → Row → Bool) where
  -- whether the row is new, and over a limit
  abbrev pub is_stop : List Row → Row → Bool
  is_stop before r = not (stands r before) && over (distinct before) r

  -- whether the i-th of the rows is so, after those that are held and those before it
  abbrev pub stops_at : List Row → List Row → ℕ → Bool
  stops_at held rows i = is_stop (held ++ take i rows) (get_or rows i null_row)

  -- the values are the distinct rows, held and encoded, in the order in which they come first, the
  -- codes are their places there, and the rows encoded are those before the first new value over a
  -- limit
  pub record Encodes (held rows values : List Row) (codes : List ℕ) : Type 0 where
    pub count : length codes ≤ length rows
    pub within : (i : ℕ) → i < length codes → stops_at held rows i ≡ false
    pub stops : length codes < length rows → stops_at held rows (length codes) ≡ true
    pub values_are : values ≡ distinct (held ++ take (length codes) rows)
    pub codes_are : codes_of held ++ codes ≡ codes_of (held ++ take (length codes) rows)

  -- the values are those of some of these first rows
  pub record EncodesPart (held rows values : List Row) : Type 0 where
    pub rows_in : ℕ
    pub count : rows_in ≤ length rows
    pub within : (i : ℕ) → i < rows_in → stops_at held rows i ≡ false
    pub values_are : values ≡ distinct (held ++ take rows_in rows)

  -- the rows before the first new value over a limit have values of 2^32 bytes or more
  pub record IsFull (size : Row → ℕ) (held rows : List Row) : Type 0 where
    pub rows_in : ℕ
    pub count : rows_in ≤ length rows
    pub within : (i : ℕ) → i < rows_in → stops_at held rows i ≡ false
    pub stops : rows_in < length rows → stops_at held rows rows_in ≡ true
    pub bytes : 2 ^ 32 ≤ sum_by size (distinct (held ++ take rows_in rows))

-- the number that a code is
abbrev pub code_number : {T : Type 0} → (T → ℤ) → T → ℕ
code_number number code = unsigned_abs (number code)
