use Rattle.std.proofs.Common.{◌≤◌, ◌*◌, length, arith}
use Rattle.vortex_array_data.proofs.PickedRows.{even_many}
use Rattle.vortex_array_data.proofs.pick_parts.are_too_many.Goals as goal

pub returns-in-Even : goal.returns-in-Even
returns-in-Even c =
    let few : c.saturating_mul.result ≤ length c.args.places.now * c.in-Even.size = omega (arith, c.saturating_mul.ensures) in
    λ h. even_many c.args.parts.now c.in-Even.size c.args.places.now c.saturating_mul.result c.in-Even.is few h
