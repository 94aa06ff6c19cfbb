-- What a run wrote: all of it after status 0, a part of it after a failed write.
use Rattle.std.specs.Prelude.{◌≡◌, ℕ, suc, ◌<◌, ◌≤◌, List, Option, ◌++◌, length, take, ℤ, ◌⊎◌}
use Rattle.std.specs.Io.KnownBytes.{Appends}
use Rattle.vortex_stream.specs.Stream.{IsStream}
use Rattle.vortex_select.specs.Column.{ColumnType, IsColumnType, IsPrimitiveArray}
use Rattle.vortex_select.specs.Layout.{IsLaidOut}
use Rattle.vortex_select.specs.Selection.{selected, counts_of}
use Rattle.vortex_select.specs.declared.words.Query.{Query}
use Rattle.vortex_select.specs.declared.report.RowCounts.{RowCounts}

-- the bytes are a stream standing for a column type and arrays of rows
abbrev pub IsColumnStream : List ℕ → ColumnType → List (List ℤ) → Type 0
IsColumnStream = IsStream IsColumnType IsPrimitiveArray

-- the bytes are a stream of some type and arrays
abbrev pub IsSomeStream : List ℕ → Type 0
IsSomeStream bytes =
    (column : ColumnType) × (arrays : List (List ℤ)) × IsColumnStream bytes column arrays

-- The input is a stream, the output a stream of the same type and, array for array, exactly the
-- selected rows, in the one spelling that is written, and the counts are theirs.
pub record Selects (query : Query) (input output : List ℕ) (counts : RowCounts) : Type 0 where
  pub column : ColumnType
  pub arrays : List (List ℤ)
  pub read : IsColumnStream input column arrays
  pub written : IsColumnStream output column (selected query arrays)
  pub laid_out : IsLaidOut output (selected query arrays)
  pub counts_are : counts ≡ counts_of arrays (selected query arrays)

-- the bytes begin with a stream of these arrays, of so many bytes
pub record BeginsWith (bytes : List ℕ) (column : ColumnType) (arrays : List (List ℤ)) (len : ℕ)
    : Type 0 where
  pub within : len ≤ length bytes
  pub stands : IsColumnStream (take len bytes) column arrays

-- A part of the output of a selection, when a write failed: a prefix of it, in which the first
-- `whole` arrays lie whole and no more, and the counts are theirs.
pub record SelectsPart (query : Query) (input part : List ℕ) (counts : RowCounts) : Type 0 where
  pub column : ColumnType
  pub arrays : List (List ℤ)
  pub output : List ℕ
  pub more : List ℕ
  pub whole : ℕ
  pub read : IsColumnStream input column arrays
  pub written : IsColumnStream output column (selected query arrays)
  pub laid_out : IsLaidOut output (selected query arrays)
  pub parts : output ≡ part ++ more
  pub reached : (whole ≡ 0)
      ⊎ ((len : ℕ) × (len ≤ length part)
      × BeginsWith output column (take whole (selected query arrays)) len)
  pub no_more : (whole ≡ length arrays)
      ⊎ ((len : ℕ) × (length part < len)
      × BeginsWith output column (take (suc whole) (selected query arrays)) len)
  pub counts_are : counts ≡ counts_of (take whole arrays) (take whole (selected query arrays))

-- the selection of the input, with these counts, was appended to what was written
pub record WroteAll (query : Query) (written now : Option (List ℕ)) (counts : RowCounts)
    (input : List ℕ) : Type 0 where
  pub output : List ℕ
  pub selects : Selects query input output counts
  pub appended : Appends written now output

-- a part of the selection, with the counts of what lies whole in it, was appended to what was
-- written
pub record WrotePart (query : Query) (written now : Option (List ℕ)) (counts : RowCounts)
    (input : List ℕ) : Type 0 where
  pub part : List ℕ
  pub selects : SelectsPart query input part counts
  pub appended : Appends written now part
