use Rattle.vortex_term_laws.proofs.KeptLemmas.{elements-kept}
use Rattle.vortex_term_laws.proofs.columns.elements_of_kept_rows.Goals as goal

pub returns : goal.returns
returns c = elements-kept
