use Rattle.std.proofs.Common.{refl, sym, true≢false, FitsSigned, w64}
use Rattle.std.proofs.lemmas.Int.{to_z-of_z}
use Rattle.vortex_time.proofs.Ranges.{date_found, date_lost}
use Rattle.vortex_time.proofs.moments.date_after.Goals as goal

pub returns-in-Ok : goal.returns-in-Ok
returns-in-Ok c =
    let fits : FitsSigned w64 c.args.days = c.ranges.days in
    let only = simp to_z-of_z at c.in_ok-span.ensures.value in
    date_found c.epoch.result c.in-Ok.date c.args.days c.in_ok-span.span c.epoch.ensures only
    c.in-Ok.ensures.value (c.in-Ok.ensures.succeeds.0 refl)

pub returns-in-Err : goal.returns-in-Err
returns-in-Err c =
    let fits : FitsSigned w64 c.args.days = c.ranges.days in
    let only = simp to_z-of_z at c.in_ok-span.ensures.value in
    date_lost c.epoch.result c.args.days c.in_ok-span.span c.epoch.ensures only
    (λ can. true≢false (sym (c.in-Err.ensures.succeeds.1 can)))
