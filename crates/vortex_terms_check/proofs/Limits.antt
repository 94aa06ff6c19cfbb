-- A null row over a list of k whole numbers.
use Rattle.std.proofs.Common.{◌≡◌, ℕ, ◌*◌, ◌<◌, ◌++◌, nat_lt, [], ◌∷◌, length, true, false, ap, sym, ◌∙◌, ◌↔◌, IsTrue, append-nil, refl}
use Rattle.std.proofs.lemmas.List.{length-replicate}
use borrow.Author.Tests.{ltb-true, lt-ltb}
use Rattle.std.specs.Bool.{IsTrue}
use Rattle.vortex_terms.specs.Term.{WholeKind, primitive, fixed_size_list}
use Rattle.vortex_terms.specs.Row.{Row, null_row, copies}
use Rattle.vortex_terms.specs.Default.{default_row}
use Rattle.vortex_terms.specs.RowLaws.{copies-are}
use Rattle.vortex_terms.specs.Parts.{passes}

-- the test of the elements alone, since the list itself is small
elements : (k : ℕ) (w : WholeKind) → passes (fixed_size_list (primitive w false) k true) (null_row ∷ []) ≡ nat_lt 4294967295 (16 * length (copies k (default_row (primitive w false)) ++ []))
elements k w = refl

counted : (k : ℕ) (r : Row) → length (copies k r ++ []) ≡ k
counted k r = ap length (append-nil (copies k r)) ∙ ap length (copies-are k r) ∙ length-replicate k r

pub limit : (k : ℕ) (w : WholeKind) → IsTrue (passes (fixed_size_list (primitive w false) k true) (null_row ∷ [])) ↔ (4294967295 < 16 * k)
limit k w =
    let here = elements k w ∙ ap (λ n. nat_lt 4294967295 (16 * n)) (counted k (default_row (primitive w false))) in
    (λ h. ltb-true 4294967295 (16 * k) (sym here ∙ h), λ h. here ∙ lt-ltb 4294967295 (16 * k) h)
