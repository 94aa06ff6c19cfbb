-- Rows that are fed one after the other.
use Rattle.std.proofs.Common.{◌≡◌, ℕ, ◌+◌, ◌≤◌, List, length, refl, sym, ap, ◌∙◌, arith}
use Rattle.std.specs.Prelude.{fold, drop}
use Rattle.std.specs.Hash.{fed_then}
use Rattle.std.proofs.lemmas.List.{length-drop}
use Rattle.vortex_terms.specs.Term.{Term}
use Rattle.vortex_terms.specs.Row.{Rows, no_rows, row, row_count}
use Rattle.vortex_scalar_value.specs.Value.{ValueTerm}
use Rattle.vortex_value_rows.specs.HashInput.{row_writes, rows_writes}
use Rattle.vortex_value_rows.specs.RowOf.{row_under}
use Rattle.vortex_value_rows.specs.Inside.{InTerm, in_drop}
use Rattle.vortex_value_rows.proofs.Walks.{Step, rows_from, HasRows, count}

-- what is left to feed is the first row that is left, and the rest
pub fed_step : {S : Type 0} (write : S → List ℕ → S) (c : InTerm) (xs : List ValueTerm) (i : ℕ) (t : Term) (v : ValueTerm) (all old new : S) → Step c xs i t v
    → new ≡ fold write old (row_writes (row_under t v)) → fold write old (rows_writes (rows_from c xs i)) ≡ all
    → fold write new (rows_writes (rows_from c xs (i + 1))) ≡ all
fed_step write c xs i t v all old new one fed so_far =
    let rest = rows_writes (rows_from c xs (i + 1)) in
    fed_then write old new (fold write new rest) (row_writes (row_under t v)) rest fed refl
    ∙ ap (λ rs. fold write old (rows_writes rs)) (sym one.is) ∙ so_far

none_left : (rs : Rows) → row_count rs ≡ 0 → rs ≡ no_rows
none_left no_rows e = refl
none_left (row r rs) e = absurd (omega arith)

-- behind the last value nothing is left
pub rows_end : (c : InTerm) (xs : List ValueTerm) (i : ℕ) → HasRows c xs i → length xs ≤ i → rows_from c xs i ≡ no_rows
rows_end c xs i has h =
    none_left (rows_from c xs i) (count (in_drop i c) (drop i xs) has ∙ length-drop i xs ∙ (omega (arith, h)))
