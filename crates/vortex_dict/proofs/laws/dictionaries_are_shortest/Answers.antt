use Rattle.vortex_dict.proofs.LawLemmas.{no_fewer}
use Rattle.vortex_dict.proofs.laws.dictionaries_are_shortest.Goals as goal

pub returns : goal.returns
returns c = λ over rows values others codes spelling e h. no_fewer over rows values codes e others spelling h
