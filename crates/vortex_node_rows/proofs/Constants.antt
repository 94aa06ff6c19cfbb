-- Rows that are alike: as many as asked for, and they fit where the one does.
use Rattle.std.proofs.Common.{◌≡◌, ℕ, zero, suc, List, [], ◌∷◌, Bool, true, false, Some, None, length, refl, sym, ap, ◌∙◌, subst}
use Rattle.std.specs.Prelude.{if◌then◌else◌, option_and_then}
use Rattle.std.specs.List.{AllByRecursion}
use Rattle.vortex_terms.specs.Term.{Term, null}
use Rattle.vortex_terms.specs.Row.{Row, null_row, copies}
use Rattle.vortex_terms.specs.Fits.{Fits}
use Rattle.vortex_terms.specs.Tests.{is_fitting}
use Rattle.vortex_terms.specs.TestLaws.{is_fitting-Decides}
use Rattle.vortex_scalar_value.specs.Reading.{value_in}
use Rattle.vortex_value_rows.specs.RowOf.{row_of, fitting_row}
use Rattle.vortex_node_rows.specs.Buffers.{one_buffer}
use Rattle.vortex_node_rows.specs.Leaves.{constant_rows}
use Rattle.vortex_node_rows.specs.RowsOf.{null_rows}
use Rattle.vortex_node_rows.proofs.Options.{some_same, none_some, bind_some, guarded}

pub length-copies : (n : ℕ) (r : Row) → length (copies n r) ≡ n
unfolding copies
length-copies zero r = refl
length-copies (suc n) r = ap suc (length-copies n r)

copies_all : (P : Row → Type 0) (n : ℕ) (r : Row) → P r → AllByRecursion P (copies n r)
unfolding copies
copies_all P zero r h = tt
copies_all P (suc n) r h = (h, copies_all P n r h)

-- ---- constants

fits_as : (t : Term) (q r : Row) → q ≡ r → Fits t q → Fits t r
fits_as t q r e h = subst (Fits t) e h

constant_found : (t : Term) (n : ℕ) (bs : List (List ℕ)) (rs : List Row) → constant_rows t n bs ≡ Some rs
    → (r : Row) × Fits t r × (copies n r ≡ rs)
unfolding constant_rows
constant_found t n bs rs e =
    let b = bind_some (one_buffer bs)
    (λ b. option_and_then (λ v. option_and_then (λ r. Some (copies n r)) (fitting_row t v)) (value_in 128 b)) rs e in
    let v = bind_some (value_in 128 b.0) (λ v. option_and_then (λ r. Some (copies n r)) (fitting_row t v)) rs b.2 in
    let r = bind_some (fitting_row t v.0) (λ r. Some (copies n r)) rs v.2 in
    let q = bind_some (row_of t v.0) (λ q. if is_fitting t q then Some q else None) r.0 r.1 in
    let g = guarded (is_fitting t q.0) q.0 r.0 q.2 in
    (r.0, fits_as t q.0 r.0 g.1 ((is_fitting-Decides t q.0).0 g.0), some_same _ rs r.2)

pub constant_count : (t : Term) (n : ℕ) (bs : List (List ℕ)) (rs : List Row) → constant_rows t n bs ≡ Some rs
    → length rs ≡ n
constant_count t n bs rs e =
    let f = constant_found t n bs rs e in
    ap length (sym f.2) ∙ length-copies n f.0

pub constant_fit : (t : Term) (n : ℕ) (bs : List (List ℕ)) (rs : List Row) → constant_rows t n bs ≡ Some rs
    → AllByRecursion (Fits t) rs
constant_fit t n bs rs e =
    let f = constant_found t n bs rs e in
    subst (AllByRecursion (Fits t)) f.2 (copies_all (Fits t) n f.0 f.1)

-- ---- nulls

nulls_found : (n : ℕ) (bs : List (List ℕ)) (alone : Bool) (rs : List Row) → null_rows n bs alone ≡ Some rs
    → copies n null_row ≡ rs
unfolding null_rows
nulls_found n [] true rs e = some_same _ rs e
nulls_found n [] false rs e = absurd (none_some rs e)
nulls_found n (b ∷ bs) alone rs e = absurd (none_some rs e)

pub nulls_count : (n : ℕ) (bs : List (List ℕ)) (alone : Bool) (rs : List Row) → null_rows n bs alone ≡ Some rs
    → length rs ≡ n
nulls_count n bs alone rs e = ap length (sym (nulls_found n bs alone rs e)) ∙ length-copies n null_row

pub nulls_fit : (n : ℕ) (bs : List (List ℕ)) (alone : Bool) (rs : List Row) → null_rows n bs alone ≡ Some rs
    → AllByRecursion (Fits null) rs
nulls_fit n bs alone rs e =
    subst (AllByRecursion (Fits null)) (nulls_found n bs alone rs e) (copies_all (Fits null) n null_row tt)
