use Rattle.std.proofs.Common.{◌≡◌, ap, ◌∙◌, of_z, to_z, rules, FitsSigned}
use Rattle.std.proofs.lemmas.Int.{to_z-of_z}
use Rattle.std.specs.Int.{w128}
use Rattle.vortex_number.specs.Format.{le_bytes}
use Rattle.vortex_number.proofs.little_endian.I128ToBytes.push_le.Goals as goal

pub returns : goal.returns
unfolding le_bytes
returns c =
    let inside : FitsSigned w128 c.args.self.now = search rules in
    let passed : c.to_le_bytes.result ≡ le_bytes w128 (of_z w128 (to_z w128 (of_z w128 c.args.self.now))) =
    c.to_le_bytes.ensures in
    let written : c.to_le_bytes.result ≡ le_bytes w128 (of_z w128 c.args.self.now) =
    passed ∙ ap (λ z. le_bytes w128 (of_z w128 z)) (to_z-of_z w128 _ inside) in
    rw (← written) c.append.ensures
