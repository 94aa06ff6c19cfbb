use Rattle.vortex_scalar.proofs.Combined.{result_number}
use Rattle.vortex_scalar.proofs.views.arithmetic.result_of.Goals as goal

pub returns-clause-number : goal.returns-clause-number
returns-clause-number c = result_number c.args.ptype c.args.op c.args.a c.args.b c.checked_binary.result c.requires.left c.checked_binary.ensures
