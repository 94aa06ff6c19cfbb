use Rattle.vortex_scalar.proofs.PartLemmas.{listed}
use Rattle.vortex_scalar.proofs.views.fitting.inside.Goals as goal

pub returns-in-List : goal.returns-in-List
returns-in-List c = listed c.in-List.values.now c.args.value.now c.in-List.ensures
