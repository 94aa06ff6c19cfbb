use Rattle.std.proofs.Common.{sym, ◌∙◌}
use Rattle.vortex_types.specs.DTypes.{term_of}
use Rattle.vortex_scalar.proofs.PartLemmas.{part_more, part_smaller, part_all, part_none, no_more}
use Rattle.vortex_scalar.proofs.views.fitting.Fitting.parts.Goals as goal

pub returns-in-None-clause-parts : goal.returns-in-None-clause-parts
returns-in-None-clause-parts c =
    part_none (term_of c.self.inside.dtype.now) c.self.inside.value.now c.args.self.now c.self.invariant c.self.view_is c.in-None.ensures

pub loop-parts-smaller : goal.loop-parts-smaller
loop-parts-smaller c =
    rw c.in_ok-push.ensures.items
    (part_smaller c.args.self.now c.loop-parts.parts.items c.in-Some-2.part c.len.result (c.len.ensures ∙ c.loop-parts.parts.ok.0) c.loop-parts.invariant (sym c.in-Some-2.is ∙ c.in_ok-part.ensures.part))

pub loop-parts-preserved : goal.loop-parts-preserved
loop-parts-preserved c =
    rw c.in_ok-push.ensures.items
    (part_more c.args.self.now c.loop-parts.parts.items c.in-Some-2.part c.len.result (c.len.ensures ∙ c.loop-parts.parts.ok.0) c.loop-parts.invariant (sym c.in-Some-2.is ∙ c.in_ok-part.ensures.part))

pub returns-clause-parts : goal.returns-clause-parts
returns-clause-parts c =
    part_all (term_of c.self.inside.dtype.now) c.self.inside.value.now c.args.self.now c.in-Some.field-0.now c.loop-parts.parts.items c.len.result c.self.invariant c.self.view_is
    c.in-Some.ensures (c.len.ensures ∙ c.loop-parts.parts.ok.0) c.loop-parts.invariant (no_more c.in_ok-part.field-0 c.in_default.not-Some ∙ c.in_ok-part.ensures.part)
