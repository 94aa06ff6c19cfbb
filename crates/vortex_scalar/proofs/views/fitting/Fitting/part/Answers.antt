use Rattle.std.proofs.Common.{Some, refl, sym, ap, ◌∙◌}
use Rattle.std.specs.Option.{option_map}
use Rattle.vortex_types.specs.DTypes.{term_of}
use Rattle.vortex_scalar.proofs.PartLemmas.{no_value, part_fits, part_stands}
use Rattle.vortex_scalar.proofs.views.fitting.Fitting.part.Goals as goal

pub returns-in-None-clause-part : goal.returns-in-None-clause-part
returns-in-None-clause-part c =
    no_value (term_of c.self.inside.dtype.now) c.self.inside.value.now c.args.self.now c.args.index c.self.invariant c.self.view_is c.in-None.ensures

pub new-requires : goal.new-requires
new-requires c =
    part_fits (term_of c.self.inside.dtype.now) c.self.inside.value.now c.args.index c.in-Some.value.now c.in_ok-try_clone-in-Some-2.field-0
    (term_of c.in-Some-2.dtype) (term_of c.in-Some-2.dtype) c.self.invariant c.in-Some.ensures
    (ap (option_map term_of) (sym c.in-Some-2.is) ∙ c.in_ok-dtype.ensures.part) c.in_ok-try_clone-in-Some-2.ensures.value refl

pub returns-in_ok-try_clone-in-Some-2-clause-part :
    goal.returns-in_ok-try_clone-in-Some-2-clause-part
returns-in_ok-try_clone-in-Some-2-clause-part c =
    ap Some c.new.ensures ∙
    part_stands (term_of c.self.inside.dtype.now) c.self.inside.value.now c.args.self.now c.args.index c.in-Some.value.now c.in_ok-try_clone-in-Some-2.field-0
    (term_of c.in-Some-2.dtype) (term_of c.in-Some-2.dtype) c.self.invariant c.self.view_is c.in-Some.ensures
    (ap (option_map term_of) (sym c.in-Some-2.is) ∙ c.in_ok-dtype.ensures.part) c.in_ok-try_clone-in-Some-2.ensures.value refl
