use Rattle.std.proofs.Common.{◌≡◌, Ok, ap, sym, ◌∙◌}
use Rattle.vortex_types.specs.DTypes.{term_of}
use Rattle.vortex_types.specs.TypeRefs.{ref_term}
use Rattle.vortex_scalar.specs.ScalarTerm.{ScalarTerm}
use Rattle.vortex_scalar.specs.Made.{scalar_of}
use Rattle.vortex_scalar.specs.Cast.{cast_scalar}
use Rattle.vortex_scalar.proofs.Casting.{Made, cast_made, made_fits, made_is}
use Rattle.vortex_scalar.proofs.views.fitting.Fitting.cast.Goals as goal

pub new-requires : goal.new-requires
new-requires c =
    made_fits c.args.self.now (term_of c.args.target.now) (term_of c.in_ok-dtype.dtype) c.in-Ok.value c.in_ok-dtype.ensures.term
    (cast_made c.args.self.now (term_of c.dtype.result.now) (ref_term c.type_ref.result) (term_of c.args.target.now) (ref_term c.type_ref-2.result) c.value.result.now c.in-Ok.value
    c.dtype.ensures c.type_ref.ensures c.value.ensures c.law.ensures.fits c.type_ref-2.ensures c.in-Ok.ensures)

pub returns : goal.returns
returns c =
    let made : Made c.args.self.now (term_of c.args.target.now) c.in-Ok.value =
    cast_made c.args.self.now (term_of c.dtype.result.now) (ref_term c.type_ref.result) (term_of c.args.target.now) (ref_term c.type_ref-2.result) c.value.result.now c.in-Ok.value
    c.dtype.ensures c.type_ref.ensures c.value.ensures c.law.ensures.fits c.type_ref-2.ensures c.in-Ok.ensures in
    let is : cast_scalar c.args.self.now (term_of c.args.target.now) ≡ Ok (scalar_of (term_of c.in_ok-dtype.dtype) c.in-Ok.value) =
    made_is c.args.self.now (term_of c.args.target.now) (term_of c.in_ok-dtype.dtype) c.in-Ok.value c.in_ok-dtype.ensures.term made in
    record { cast = is ∙ ap (λ (s : ScalarTerm). Ok s) (sym c.new.ensures) }
