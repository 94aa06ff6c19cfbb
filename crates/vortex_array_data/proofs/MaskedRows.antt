-- Rows under a mask that is kept.
use Rattle.std.proofs.Common.{◌≡◌, ◌∙◌, ℕ, List, [], ◌∷◌, Bool, IsTrue, map, length, sym, ap, subst}
use Rattle.std.specs.List.{AllByRecursion}
use Rattle.vortex_terms.specs.Term.{Term, boolean}
use Rattle.vortex_terms.specs.Row.{Row, null_row, truth_row}
use Rattle.vortex_terms.specs.FromColumns.{masked}
use Rattle.vortex_terms.specs.Fits.{Fits}
use Rattle.vortex_node_rows.specs.RowsOf.{Validity}
use Rattle.vortex_node_rows.proofs.Masks.{length-masked, masked_fit}
use Rattle.vortex_array_data.specs.Content.{IsMask}
use Rattle.vortex_array_data.proofs.MadeMasks.{mask_again}

pub rows_many : (n : ℕ) (nl : Bool) (v : Validity) (held rs : List Row) → IsMask n nl v → held ≡ rs → length rs ≡ n
    → n ≡ length (masked v held)
rows_many n nl v held rs h e l =
    sym (length-masked n nl v held (mask_again n nl v h) (ap length e ∙ l))

pub rows_fit : (t : Term) (n : ℕ) (nl : Bool) (v : Validity) (held rs : List Row) → (IsTrue nl → Fits t null_row)
    → IsMask n nl v → held ≡ rs → AllByRecursion (Fits t) rs → AllByRecursion (Fits t) (masked v held)
rows_fit t n nl v held rs z h e k =
    masked_fit (Fits t) n nl v held z (mask_again n nl v h) (subst (AllByRecursion (Fits t)) (sym e) k)

pub truths_fit : (nl : Bool) (bs : List Bool) → AllByRecursion (Fits (boolean nl)) (map truth_row bs)
truths_fit nl [] = tt
truths_fit nl (b ∷ bs) = (tt, truths_fit nl bs)
