use Rattle.std.proofs.Common.{refl, sym, true≢false}
use Rattle.vortex_time.proofs.Ranges.{start_is, datetime_found, datetime_lost}
use Rattle.vortex_time.proofs.moments.datetime_after.Goals as goal

pub returns-in-Ok : goal.returns-in-Ok
returns-in-Ok c =
    let start = start_is c.epoch.result c.at.result c.epoch.ensures c.at.ensures.date c.at.ensures.time in
    datetime_found _ _ _ start c.in-Ok.ensures.value (c.in-Ok.ensures.succeeds.0 refl)

pub returns-in-Err : goal.returns-in-Err
returns-in-Err c =
    let start = start_is c.epoch.result c.at.result c.epoch.ensures c.at.ensures.date c.at.ensures.time in
    datetime_lost _ _ start (λ can. true≢false (sym (c.in-Err.ensures.succeeds.1 can)))
