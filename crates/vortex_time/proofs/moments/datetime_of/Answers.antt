use Rattle.std.proofs.Common.{FitsSigned, w64}
use Rattle.std.proofs.lemmas.Int.{to_z-of_z}
use Rattle.vortex_time.proofs.Units.{civil_by}
use Rattle.vortex_time.proofs.moments.datetime_of.Goals as goal

pub returns : goal.returns
returns c =
    let fits : FitsSigned w64 c.args.v = c.ranges.v in
    let length = simp to_z-of_z at c.in_ok-duration.ensures in
    civil_by c.args.unit c.args.v _ _ length c.datetime_after.ensures
