-- Which rows are kept, and how many rows there are.
use Rattle.std.specs.Prelude.{List, length, map, filter, sum_by, ℤ, FitsSigned}
use Rattle.std.specs.Int.{w64}
use Rattle.std.specs.Ordering.{int_cmp}
use Rattle.vortex_value.specs.Operator.{bears}
use Rattle.vortex_select.specs.declared.words.Query.{Query}
use Rattle.vortex_select.specs.declared.report.RowCounts.{RowCounts}

-- a number that 64 signed bits hold
abbrev pub FitsI64 : ℤ → Type 0
FitsI64 n = FitsSigned w64 n

-- the rows of each array that bear the operator to the constant, in order
abbrev pub selected : Query → List (List ℤ) → List (List ℤ)
selected query arrays =
    map (filter (λ row. bears query.operator (int_cmp row query.constant))) arrays

-- the number of arrays, of their rows, and of the rows that are kept of them
abbrev pub counts_of : List (List ℤ) → List (List ℤ) → RowCounts
counts_of arrays kept =
    record { arrays = length arrays; read = sum_by length arrays; kept = sum_by length kept }
