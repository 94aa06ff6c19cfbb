-- The prefixes of an output, one for each number of arrays.
use Rattle.std.specs.Prelude.{◌≡◌, ℕ, zero, suc, ◌<◌, ◌≤◌, List, [], ◌∷◌, length, take, Some, slice_get, ℤ, ◌⊎◌}
use Rattle.vortex_select.specs.Column.{ColumnType}
use Rattle.vortex_select.specs.Layout.{IsLaidOut}
use Rattle.vortex_select.specs.Selection.{selected, counts_of}
use Rattle.vortex_select.specs.Report.{no_counts}
use Rattle.vortex_select.specs.Theorem.{IsColumnStream}
use Rattle.vortex_select.specs.declared.report.RowCounts.{RowCounts}
use Rattle.vortex_select.specs.declared.whole_output.Prefix.{Prefix}
use Rattle.vortex_select.specs.declared.words.Query.{Query}

-- the output up to the end stands for the first n arrays, and the counts are theirs
pub record IsPrefix (query : Query) (column : ColumnType) (arrays : List (List ℤ))
    (output : List ℕ) (n : ℕ) (prefix : Prefix) : Type 0 where
  pub within : prefix.end ≤ length output
  pub stands : IsColumnStream (take prefix.end output) column (take n (selected query arrays))
  pub counts_are : prefix.counts ≡ counts_of (take n arrays) (take n (selected query arrays))

-- the prefixes of the output, one for each number of arrays from n on
abbrev pub ArePrefixes : Query → ColumnType → List (List ℤ) → List ℕ → ℕ → List Prefix → Type 0
ArePrefixes query column arrays output n [] = Unit {0}
ArePrefixes query column arrays output n (prefix ∷ prefixes) =
    IsPrefix query column arrays output n prefix
    × ArePrefixes query column arrays output (suc n) prefixes

-- The input is a stream, the output that of its selected rows, and its prefixes are told.
pub record IsMade (query : Query) (input output : List ℕ) (counts : RowCounts)
    (prefixes : List Prefix) : Type 0 where
  pub column : ColumnType
  pub arrays : List (List ℤ)
  pub read : IsColumnStream input column arrays
  pub written : IsColumnStream output column (selected query arrays)
  pub laid_out : IsLaidOut output (selected query arrays)
  pub counts_are : counts ≡ counts_of arrays (selected query arrays)
  pub prefixes_are : ArePrefixes query column arrays output 1 prefixes
  pub all : length prefixes ≡ length arrays

-- the last prefix that ends within so many bytes is that of so many arrays, and its counts are told
abbrev pub IsLastWithin : List Prefix → ℕ → ℕ → RowCounts → Type 0
IsLastWithin prefixes bytes zero counts = counts ≡ no_counts
IsLastWithin prefixes bytes (suc i) counts =
    (prefix : Prefix) × (slice_get prefixes i ≡ Some prefix) × (prefix.end ≤ bytes)
    × (counts ≡ prefix.counts)

-- the counts are those of the last prefix that ends within so many bytes
pub record Reaches (prefixes : List Prefix) (bytes : ℕ) (counts : RowCounts) : Type 0 where
  pub whole : ℕ
  pub last : IsLastWithin prefixes bytes whole counts
  pub next : (whole ≡ length prefixes)
      ⊎ ((prefix : Prefix) × (slice_get prefixes whole ≡ Some prefix) × (bytes < prefix.end))
