use Rattle.vortex_scalar_text.proofs.MomentTexts.{text_is}
use Rattle.vortex_scalar_text.proofs.laws.texts_are_those_of_jiff.Goals as goal

pub returns : goal.returns
returns c = text_is
