use Rattle.vortex_dict.proofs.WidthLemmas.{places_fit, numbers_places_fit}
use Rattle.vortex_dict.proofs.laws.code_types_suffice.Goals as goal

pub returns-clause-bytes : goal.returns-clause-bytes
returns-clause-bytes c = places_fit

pub returns-clause-numbers : goal.returns-clause-numbers
returns-clause-numbers c = numbers_places_fit
