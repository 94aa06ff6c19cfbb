use Rattle.vortex_dtype.proofs.Selected.{Names}
use Rattle.vortex_dtype.proofs.viewed_fields.selected_names.Given as goal

abbrev pub invariant-loop-selector : goal.invariant-loop-selector
invariant-loop-selector l = Names l.selectors l.selector-index l.names.items
