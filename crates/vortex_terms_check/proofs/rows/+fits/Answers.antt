use Rattle.std.proofs.Common.{◌≡◌, ℕ, ◌↔◌, IsTrue, Bool}
use Rattle.vortex_terms.specs.Term.{Term, list, fixed_size_list}
use Rattle.vortex_terms.specs.Row.{Rows, list_row, AllRows, row_count}
use Rattle.vortex_terms.specs.Fits.{Fits}
use Rattle.vortex_terms_check.specs.Plain.{term_of, rows_of}
use Rattle.vortex_terms_check.proofs.rows.+fits.Goals as goal

lists : (b : Bool) (t : Term) (n : Bool) (rs : Rows) → IsTrue b ↔ AllRows (Fits t) rs → IsTrue b ↔ Fits (list t n) (list_row rs)
lists b t n rs h = h

fixed_lists : (a b : Bool) (t : Term) (k : ℕ) (n : Bool) (rs : Rows) → IsTrue a ↔ (row_count rs ≡ k) → IsTrue a → IsTrue b ↔ AllRows (Fits t) rs → IsTrue b ↔ Fits (fixed_size_list t k n) (list_row rs)
fixed_lists a b t k n rs counted h all = (λ e. (counted.0 h, all.0 e), λ f. all.1 f.1)

pub fits-returns-in-ListOf-Items : goal.fits-returns-in-ListOf-Items
fits-returns-in-ListOf-Items t c =
    let here = c.in-ListOf-Items in
    rw (here.is-0, here.is-1) (lists c.fits_all.result (term_of here.t.value) here.field-1-0 (rows_of here.rs) (rw c.deref-in-ListOf-Items.ensures at c.fits_all.ensures))

pub fits-returns-then-has_count : goal.fits-returns-then-has_count
fits-returns-then-has_count t c =
    let here = c.in-FixedSizeList-Items in
    rw (here.is-0, here.is-1) (fixed_lists c.has_count.result c.fits_all-then-has_count.result (term_of here.t.value) here.k here.field-2-0 (rows_of here.rs) c.has_count.ensures c.if-has_count.true (rw c.deref-then-has_count.ensures at c.fits_all-then-has_count.ensures))
