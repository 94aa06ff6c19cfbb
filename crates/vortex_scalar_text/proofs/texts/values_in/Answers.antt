use Rattle.std.proofs.Common.{Some, sym, ap, ◌∙◌}
use Rattle.vortex_scalar_text.specs.ScalarText.{values_of}
use Rattle.vortex_scalar_text.proofs.Sized.{list_there}
use Rattle.vortex_scalar_text.proofs.texts.values_in.Goals as goal

pub returns-in-List : goal.returns-in-List
returns-in-List c = ap Some (sym (list_there c.in-List.values.now)) ∙ ap values_of c.in-List.ensures
