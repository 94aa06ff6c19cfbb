use Rattle.vortex_dict.proofs.LawLemmas.{all_encoded, values_distinct, codes_distinct}
use Rattle.vortex_dict.proofs.laws.encodings_are_distinct.Goals as goal

pub returns-clause-all : goal.returns-clause-all
returns-clause-all c = λ over rows values codes h e. all_encoded over rows values codes e h

pub returns-clause-values : goal.returns-clause-values
returns-clause-values c = λ over rows values codes h e. values_distinct over rows values codes e h

pub returns-clause-codes : goal.returns-clause-codes
returns-clause-codes c = λ over rows values codes h e. codes_distinct over rows values codes e h
