-- A scalar under another type.
use Rattle.std.proofs.Common.{◌≡◌, Some, Result, Ok, Err, refl, sym, ap, subst, ◌∙◌}
use Rattle.std.specs.Option.{IsSome, unwrap_or}
use Rattle.vortex_terms.specs.Term.{Term}
use Rattle.vortex_terms.specs.Row.{Row, null_row}
use Rattle.vortex_terms.specs.Fits.{Fits}
use Rattle.vortex_scalar_value.specs.Value.{ValueTerm}
use Rattle.vortex_scalar_value.specs.declared.error.ScalarError.{ScalarError}
use Rattle.vortex_value_rows.specs.RowOf.{row_of, row_under, fitting_row}
use Rattle.vortex_cast.specs.Cast.{cast_of}
use Rattle.vortex_cast.specs.Answers.{IsCast}
use Rattle.vortex_cast.proofs.CastFits.{fits}
use Rattle.vortex_scalar.specs.ScalarTerm.{ScalarTerm}
use Rattle.vortex_scalar.specs.Made.{typed, scalar_of}
use Rattle.vortex_scalar.specs.Cast.{typed_result, cast_scalar}
use Rattle.vortex_scalar.proofs.Rows.{is_made, makes}

-- what was cast, for the scalar and the target themselves
same_cast : (s : ScalarTerm) (d t u w : Term) (v : ValueTerm) (x : Result ValueTerm ScalarError) → d ≡ s.dtype → t ≡ d → row_of s.dtype v ≡ Some s.row → w ≡ u
    → IsCast (row_of w) x (cast_of t (row_under t v) w) → IsCast (row_of u) x (cast_of s.dtype s.row u)
same_cast s d t u w v x e f h g c =
    let same = f ∙ e in
    let row : row_under t v ≡ s.row = (λ i. unwrap_or (row_of (same i) v) null_row) ∙ ap (λ o. unwrap_or o null_row) h in
    subst (IsCast (row_of u) x) (λ i. cast_of (same i) (row i) u)
    (subst (λ q. IsCast (row_of q) x (cast_of t (row_under t v) q)) g c)

pub record Made (s : ScalarTerm) (u : Term) (v : ValueTerm) : Type 0 where
  pub row : Row
  pub is : cast_of s.dtype s.row u ≡ Ok row
  pub stands : row_of u v ≡ Some row
  pub fits : Fits u row

made : (s : ScalarTerm) (u : Term) (v : ValueTerm) (wanted : Result Row ScalarError) → cast_of s.dtype s.row u ≡ wanted → Fits s.dtype s.row → IsCast (row_of u) (Ok v) wanted → Made s u v
made s u v (Ok r) e f c = record { row = r; is = e; stands = c; fits = fits s.dtype u s.row r f e }
made s u v (Err x) e f c = absurd c

pub cast_made : (s : ScalarTerm) (d t u w : Term) (v y : ValueTerm) → d ≡ s.dtype → t ≡ d → row_of s.dtype v ≡ Some s.row → Fits s.dtype s.row → w ≡ u
    → IsCast (row_of w) (Ok y) (cast_of t (row_under t v) w) → Made s u y
cast_made s d t u w v y e f h fit g c = made s u y (cast_of s.dtype s.row u) refl fit (same_cast s d t u w v (Ok y) e f h g c)

pub made_fits : (s : ScalarTerm) (u d : Term) (v : ValueTerm) → d ≡ u → Made s u v → IsSome (fitting_row d v)
made_fits s u d v e m = subst (λ t. IsSome (fitting_row t v)) (sym e) (is_made u v m.row m.stands m.fits)

pub made_is : (s : ScalarTerm) (u d : Term) (v : ValueTerm) → d ≡ u → Made s u v → cast_scalar s u ≡ Ok (scalar_of d v)
made_is s u d v e m =
    ap (typed_result u) m.is ∙ ap (λ (q : ScalarTerm). Ok q) (sym (ap (λ t. scalar_of t v) e ∙ makes u v m.row m.stands m.fits))

-- what a scalar is cast to is of the target, and fits it
typed_fits : (u : Term) (r : ScalarTerm) (found : Result Row ScalarError) → ((q : Row) → found ≡ Ok q → Fits u q) → typed_result u found ≡ Ok r
    → (r.dtype ≡ u) × Fits r.dtype r.row
typed_fits u r (Ok q) h e = subst (λ (z : ScalarTerm). (z.dtype ≡ u) × Fits z.dtype z.row) (same (typed u q) r e) (refl, h q refl)
  where
    same : (a b : ScalarTerm) → ◌≡◌ {A = Result ScalarTerm ScalarError} (Ok a) (Ok b) → a ≡ b
    same a b e = cc
typed_fits u r (Err x) h e = absurd cc

pub cast_fits : (s r : ScalarTerm) (u : Term) → Fits s.dtype s.row → cast_scalar s u ≡ Ok r → (r.dtype ≡ u) × Fits r.dtype r.row
cast_fits s r u f e = typed_fits u r (cast_of s.dtype s.row u) (λ q h. fits s.dtype u s.row q f h) e
