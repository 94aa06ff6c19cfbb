-- What a view of a scalar shows.
use Rattle.std.proofs.Common.{◌≡◌, Bool, true, false, Some, None, Result, Ok, Err, refl, sym, ap, ◌∙◌}
use Rattle.std.specs.Prelude.{if◌then◌else◌, ok_or}
use Rattle.std.specs.Option.{option_map}
use Rattle.std.specs.Result.{result_ok}
use Rattle.vortex_terms.specs.Term.{Term}
use Rattle.vortex_terms.specs.Fits.{Fits}
use Rattle.vortex_scalar_value.specs.Value.{ValueTerm}
use Rattle.vortex_scalar_value.specs.declared.error.ScalarError.{ScalarError}
use Rattle.vortex_scalar_value.specs.declared.error.ScalarError.TheVariants as error
use Rattle.vortex_value_rows.specs.RowOf.{row_of}
use Rattle.vortex_scalar.specs.ScalarTerm.{ScalarTerm}
use Rattle.vortex_scalar.specs.Made.{typed}
use Rattle.vortex_scalar.specs.ViewRows.{view_of, Shows}
use Rattle.vortex_scalar.proofs.Rows.{fitting}

shown : {X : Type 0} (view : X → ScalarTerm) (r : Result X ScalarError) (wanted : Result ScalarTerm ScalarError)
    → Shows view r wanted → option_map view (result_ok r) ≡ result_ok wanted
shown view (Ok x) wanted h = sym (ap result_ok h)
shown view (Err e) wanted h = sym (ap result_ok h)

by_kind : (b : Bool) (s : ScalarTerm)
    → result_ok (if◌then◌else◌ {A = Result ScalarTerm ScalarError} b (Ok s) (Err error.WrongType)) ≡ (if b then Some s else None)
by_kind true s = refl
by_kind false s = refl

-- the view of a scalar shows it, where its type is of the kind
pub viewed : {X : Type 0} (view : X → ScalarTerm) (is_kind : Term → Bool) (t : Term) (v : ValueTerm) (s : ScalarTerm)
    (r : Result X ScalarError) → t ≡ s.dtype → row_of s.dtype v ≡ Some s.row → Fits s.dtype s.row
    → Shows view r (view_of is_kind t v) → option_map view (result_ok r) ≡ (if is_kind s.dtype then Some s else None)
viewed view is_kind t v s r e g f h =
    shown view r (view_of is_kind t v) h
    ∙ ap (λ u. result_ok (view_of is_kind u v)) e
    ∙ ap (λ o. result_ok (if is_kind s.dtype then ok_or (option_map (typed s.dtype) o) error.DoesNotFit else Err error.WrongType)) (fitting s.dtype v s.row g f)
    ∙ by_kind (is_kind s.dtype) s
