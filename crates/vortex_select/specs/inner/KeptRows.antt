-- The rows that are kept, as bytes.
use Rattle.std.specs.Prelude.{ℕ, ◌/◌, Bool, List, length, filter}
use Rattle.std.specs.Ordering.{int_cmp}
use Rattle.std.specs.Simd.{first_chunks}
use Rattle.std.specs.List.{flat_map}
use Rattle.vortex_value.specs.Operator.{bears}
use Rattle.vortex_select.specs.Column.{i64_value}
use Rattle.vortex_select.specs.declared.words.Query.{Query}

-- whether a row of 8 bytes is kept
abbrev pub keeps : Query → List ℕ → Bool
keeps query row = bears query.operator (int_cmp (i64_value row) query.constant)

-- the rows of 8 bytes that are kept, one after another
abbrev pub kept_region : Query → List ℕ → List ℕ
kept_region query rows =
    flat_map (λ row. row) (filter (keeps query) (first_chunks 8 (length rows / 8) rows))
