use Rattle.std.proofs.Common.{sym, ap, ◌∙◌}
use Rattle.vortex_scalar_text.specs.inner.Sizes.{values_in}
use Rattle.vortex_scalar_text.proofs.Sized.{list_there}
use Rattle.vortex_scalar_text.proofs.sizes.inside.Goals as goal

pub returns-in-List : goal.returns-in-List
returns-in-List c = sym (list_there c.in-List.values.now) ∙ ap values_in c.in-List.ensures
