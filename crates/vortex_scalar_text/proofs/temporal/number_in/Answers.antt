use Rattle.std.proofs.Common.{FitsSigned, sym, w64, ◌∙◌, rules}
use Rattle.std.specs.Int.{w128}
use Rattle.std.specs.Option.{option_copied}
use Rattle.std.proofs.lemmas.Int.{to_z-of_z}
use Rattle.vortex_scalar_text.proofs.Ranged.{ranged}
use Rattle.vortex_scalar_text.proofs.temporal.number_in.Goals as goal

pub returns-in-Ok : goal.returns-in-Ok
returns-in-Ok c =
    let fits : FitsSigned w128 c.args.number = c.ranges.number in
    let small : FitsSigned w64 c.in_ok-number.number = search rules in
    let found = simp to_z-of_z at c.in_i64.ensures in
    let moment = simp to_z-of_z at c.in-Ok.ensures in
    ranged c.args.id.now (option_copied c.args.metadata) c.args.number c.in_ok-number.number c.in-Ok.moment (sym c.in_ok-number.was ∙ found) moment
