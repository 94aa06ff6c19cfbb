use Rattle.std.proofs.Common.{◌≡◌, ap, sym, ◌∙◌, Some, None}
use Rattle.std.specs.Int.{w128}
use Rattle.std.proofs.lemmas.Int.{to_z-of_z}
use Rattle.std.specs.Option.{option_map}
use Rattle.vortex_number.specs.Format.{signed}
use Rattle.vortex_number.specs.PType.{format_of}
use Rattle.vortex_value.specs.PValue.{value_of}
use Rattle.vortex_arithmetic.specs.Operated.{operated, within}
use Rattle.vortex_arithmetic.proofs.Ranges.{within_narrow, within_wide, fits_within}
use Rattle.vortex_arithmetic.proofs.number.binary.Goals as goal

pub returns-in_err-exact : goal.returns-in_err-exact
returns-in_err-exact c =
    let found = rw (to_z-of_z w128 c.args.a c.ranges.a) at (rw (to_z-of_z w128 c.args.b c.ranges.b) at c.exact.ensures) in
    let none : within (signed w128) (operated c.args.op c.args.a c.args.b) ≡ None = sym found ∙ c.in_err-exact.was in
    c.from_residual.ensures ∙ ap (option_map (value_of c.args.ptype)) (sym (within_narrow c.args.ptype (operated c.args.op c.args.a c.args.b) none))

pub returns : goal.returns
returns c =
    let t = c.in_ok-exact.field-0 in
    let found = rw (to_z-of_z w128 c.args.a c.ranges.a) at (rw (to_z-of_z w128 c.args.b c.ranges.b) at c.exact.ensures) in
    let some : within (signed w128) (operated c.args.op c.args.a c.args.b) ≡ Some t = sym found ∙ c.in_ok-exact.was in
    c.value_in.ensures
    ∙ ap (λ x. option_map (value_of c.args.ptype) (within (format_of c.args.ptype) (Some x))) (to_z-of_z w128 t (fits_within (operated c.args.op c.args.a c.args.b) t some))
    ∙ ap (option_map (value_of c.args.ptype)) (within_wide c.args.ptype (operated c.args.op c.args.a c.args.b) t some)
