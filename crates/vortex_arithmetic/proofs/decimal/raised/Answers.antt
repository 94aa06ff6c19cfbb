use Rattle.std.proofs.Common.{ap, sym, of_z}
use Rattle.std.specs.Int.{w128}
use Rattle.vortex_arithmetic.proofs.Powers.{too_large}
use Rattle.vortex_arithmetic.proofs.decimal.raised.Goals as goal

pub returns-in-None-2 : goal.returns-in-None-2
returns-in-None-2 c = sym (too_large c.args.number c.args.places c.in-None.ensures (λ e. c.if-number-eq0.false (ap (of_z w128) e)))
