use Rattle.std.proofs.Common.{FitsSigned, w64}
use Rattle.std.proofs.lemmas.Int.{to_z-of_z}
use Rattle.vortex_time.proofs.Units.{instant_by}
use Rattle.vortex_time.proofs.moments.zoned_of.Goals as goal

pub returns-in-Some : goal.returns-in-Some
returns-in-Some c =
    let fits : FitsSigned w64 c.args.v = c.ranges.v in
    let length = simp to_z-of_z at c.in_ok-length.ensures in
    rw c.in-Some.is (instant_by c.args.unit c.args.v _ _ _ length c.instant_after.ensures)
