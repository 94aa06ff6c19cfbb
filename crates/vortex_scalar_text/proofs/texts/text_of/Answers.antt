use Rattle.vortex_scalar_text.proofs.TextLemmas.{is_text, is_no_text}
use Rattle.vortex_scalar_text.proofs.texts.text_of.Goals as goal

pub returns-in-Ok : goal.returns-in-Ok
returns-in-Ok c = is_text _ _ c.in-Ok.ensures.cases.0 c.in-Ok.ensures.cases.1

pub returns-in-Err : goal.returns-in-Err
returns-in-Err c = is_no_text _ c.in-Err.ensures.cases.0
