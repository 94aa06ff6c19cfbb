use Rattle.std.proofs.Common.{◌∙◌}
use Rattle.std.specs.Int.{w128}
use Rattle.std.proofs.lemmas.Int.{to_z-of_z}
use Rattle.vortex_arithmetic.proofs.Powers.{can_divide, small_quotient, small_rest}
use Rattle.vortex_arithmetic.proofs.decimal.divided.Goals as goal

pub nonzero_div-result : goal.nonzero_div-result
nonzero_div-result c = can_divide c.args.number c.in-Some.power c.args.places c.ranges.number c.in-Some.ensures

pub nonzero_rem-result : goal.nonzero_rem-result
nonzero_rem-result c = can_divide c.args.number c.in-Some.power c.args.places c.ranges.number c.in-Some.ensures

pub returns-in-None-clause-quotient : goal.returns-in-None-clause-quotient
returns-in-None-clause-quotient c = small_quotient c.args.number c.args.places c.in-None.ensures c.ranges.number

pub returns-in-None-clause-rest : goal.returns-in-None-clause-rest
returns-in-None-clause-rest c = to_z-of_z w128 c.args.number c.ranges.number ∙ small_rest c.args.number c.args.places c.in-None.ensures c.ranges.number
