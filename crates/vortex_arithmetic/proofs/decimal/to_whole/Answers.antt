use Rattle.std.proofs.Common.{◌≡◌, ◌^◌, ap, sym, ◌∙◌, Some, pos, ◌*ℤ◌}
use Rattle.std.specs.Int.{w8, w128, int_gap}
use Rattle.std.specs.Option.{option_map}
use Rattle.std.proofs.lemmas.Int.{to_z-of_z}
use Rattle.vortex_number.specs.Format.{signed}
use Rattle.vortex_value.specs.PValue.{value_of}
use Rattle.vortex_arithmetic.specs.Operated.{within}
use Rattle.vortex_arithmetic.specs.Scaled.{rounded}
use Rattle.vortex_arithmetic.proofs.Ranges.{fits_within}
use Rattle.vortex_arithmetic.proofs.Fractions.{whole_none, whole_some}
use Rattle.vortex_arithmetic.proofs.decimal.to_whole.Goals as goal

pub returns-in_err-raised : goal.returns-in_err-raised
returns-in_err-raised c =
    let found = rw (to_z-of_z w8 c.args.scale c.ranges.scale) at (rw (to_z-of_z w128 c.args.number c.ranges.number) at (rw c.steps.ensures at c.raised.ensures)) in
    c.from_residual.ensures ∙ ap (option_map (value_of c.args.ptype)) (sym (whole_none c.args.ptype c.args.number c.args.scale c.ranges.number (sym found ∙ c.in_err-raised.was)))

pub returns : goal.returns
returns c =
    let t = c.in_ok-raised.field-0 in
    let found = rw (to_z-of_z w8 c.args.scale c.ranges.scale) at (rw (to_z-of_z w128 c.args.number c.ranges.number) at (rw c.steps.ensures at c.raised.ensures)) in
    let some : within (signed w128) (Some (c.args.number *ℤ pos (10 ^ int_gap c.args.scale (pos 0)))) ≡ Some t = sym found ∙ c.in_ok-raised.was in
    c.rounded_quotient.ensures
    ∙ ap (λ x. option_map (value_of c.args.ptype) (rounded c.args.ptype x (10 ^ c.steps-2.result))) (to_z-of_z w128 t (fits_within (Some (c.args.number *ℤ pos (10 ^ int_gap c.args.scale (pos 0)))) t some))
    ∙ ap (λ n. option_map (value_of c.args.ptype) (rounded c.args.ptype t (10 ^ n))) (rw (to_z-of_z w8 c.args.scale c.ranges.scale) at c.steps-2.ensures)
    ∙ ap (option_map (value_of c.args.ptype)) (whole_some c.args.ptype c.args.number c.args.scale t some)
