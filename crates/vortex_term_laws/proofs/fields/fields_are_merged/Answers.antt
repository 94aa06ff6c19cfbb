use Rattle.vortex_term_laws.proofs.MadeLemmas.{merged-Decides}
use Rattle.vortex_term_laws.proofs.fields.fields_are_merged.Goals as goal

pub returns : goal.returns
returns c = merged-Decides
