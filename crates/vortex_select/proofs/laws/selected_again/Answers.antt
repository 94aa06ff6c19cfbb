use Rattle.vortex_select.proofs.SelectedAgain.{again}
use Rattle.vortex_select.proofs.laws.selected_again.Goals as goal

pub returns : goal.returns
returns c = λ query input output more first second h k ba bb. again query input output more first second h k ba bb
