use Rattle.std.proofs.Common.{Some, None, sym, subst, List, Option}
use Rattle.vortex_scalar_value.specs.Value.{ValueTerm}
use Rattle.vortex_types.specs.DTypes.{term_of}
use Rattle.vortex_scalar.specs.LargeViews.{rows_within}
use Rattle.vortex_scalar.proofs.PartLemmas.{SameCount, same_count, same_length}
use Rattle.vortex_scalar.proofs.views.fitting.Fitting.len.Goals as goal

pub returns-in-Some : goal.returns-in-Some
returns-in-Some c =
    same_length (Some c.in-Some.values.now) c.args.self.now.row
    (subst (λ (o : Option (List ValueTerm)). SameCount o (rows_within c.args.self.now.row)) (sym c.in-Some.ensures)
    (same_count (term_of c.self.inside.dtype.now) c.self.inside.value.now c.args.self.now c.self.invariant c.self.view_is))

pub returns-in-None : goal.returns-in-None
returns-in-None c =
    same_length None c.args.self.now.row
    (subst (λ (o : Option (List ValueTerm)). SameCount o (rows_within c.args.self.now.row)) (sym c.in-None.ensures)
    (same_count (term_of c.self.inside.dtype.now) c.self.inside.value.now c.args.self.now c.self.invariant c.self.view_is))
