use Rattle.vortex_time.proofs.Texts.{found, refused}
use Rattle.vortex_time.proofs.borrowed.text_in.Goals as goal

pub returns-in-Ok : goal.returns-in-Ok
returns-in-Ok c = found _ _ c.in-Ok.ensures.cases.0 c.in-Ok.ensures.cases.1

pub returns-in-Err : goal.returns-in-Err
returns-in-Err c = refused _ c.in-Err.ensures.cases.0
