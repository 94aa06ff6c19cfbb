use Rattle.vortex_schema.proofs.InPlace.{bounded_in}
use Rattle.vortex_schema.proofs.Laid.{bounded_laid, laid_in}
use Rattle.vortex_schema.proofs.laws.laid_out_types_stand.Goals as goal

pub returns-clause-laid : goal.returns-clause-laid
returns-clause-laid c = bounded_laid

pub returns-clause-stands : goal.returns-clause-stands
returns-clause-stands c = laid_in

pub returns-clause-found : goal.returns-clause-found
returns-clause-found c = λ t b bounded e. bounded_in t b (laid_in t b bounded e)
