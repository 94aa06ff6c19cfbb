use Rattle.std.proofs.Common.{◌≡◌, ◌^◌, ap, sym, ◌∙◌, Some, pos, ◌*ℤ◌}
use Rattle.std.specs.Int.{w8, w128, int_gap}
use Rattle.std.proofs.lemmas.Int.{to_z-of_z}
use Rattle.vortex_number.specs.Format.{signed}
use Rattle.vortex_arithmetic.specs.Operated.{within}
use Rattle.vortex_arithmetic.specs.Scaled.{whole}
use Rattle.vortex_arithmetic.proofs.Ranges.{fits_within}
use Rattle.vortex_arithmetic.proofs.Fractions.{rescaled_none, rescaled_some}
use Rattle.vortex_arithmetic.proofs.decimal.rescale.Goals as goal

pub returns-in_err-raised : goal.returns-in_err-raised
returns-in_err-raised c =
    let found = rw (to_z-of_z w8 c.args.old c.ranges.old) at (rw (to_z-of_z w8 c.args.new c.ranges.new) at (rw (to_z-of_z w128 c.args.number c.ranges.number) at (rw c.steps.ensures at c.raised.ensures))) in
    c.from_residual.ensures ∙ sym (rescaled_none c.args.number c.args.old c.args.new c.ranges.number (sym found ∙ c.in_err-raised.was))

pub returns : goal.returns
returns c =
    let t = c.in_ok-raised.field-0 in
    let found = rw (to_z-of_z w8 c.args.old c.ranges.old) at (rw (to_z-of_z w8 c.args.new c.ranges.new) at (rw (to_z-of_z w128 c.args.number c.ranges.number) at (rw c.steps.ensures at c.raised.ensures))) in
    let some : within (signed w128) (Some (c.args.number *ℤ pos (10 ^ int_gap c.args.old c.args.new))) ≡ Some t = sym found ∙ c.in_ok-raised.was in
    c.whole_quotient.ensures
    ∙ ap (λ x. whole x (10 ^ c.steps-2.result)) (to_z-of_z w128 t (fits_within (Some (c.args.number *ℤ pos (10 ^ int_gap c.args.old c.args.new))) t some))
    ∙ ap (λ n. whole t (10 ^ n)) (rw (to_z-of_z w8 c.args.old c.ranges.old) at (rw (to_z-of_z w8 c.args.new c.ranges.new) at c.steps-2.ensures))
    ∙ rescaled_some c.args.number c.args.old c.args.new t some
