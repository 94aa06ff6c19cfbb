use Rattle.vortex_cast.proofs.CastFits.{fits}
use Rattle.vortex_cast.proofs.laws.casts_fit.Goals as goal

pub returns : goal.returns
returns c = fits
