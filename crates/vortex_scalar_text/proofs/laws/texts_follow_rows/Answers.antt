use Rattle.vortex_scalar_text.proofs.RowTexts.{texts_agree}
use Rattle.vortex_scalar_text.proofs.laws.texts_follow_rows.Goals as goal

pub returns : goal.returns
returns c = texts_agree
