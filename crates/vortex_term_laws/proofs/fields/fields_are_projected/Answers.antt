use Rattle.vortex_term_laws.proofs.MadeLemmas.{projected-found, found-projected}
use Rattle.vortex_term_laws.proofs.fields.fields_are_projected.Goals as goal

pub returns : goal.returns
returns c = λ fs gs xs. (projected-found fs gs xs, found-projected fs gs xs)
