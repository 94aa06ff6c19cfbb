use Rattle.std.proofs.Common.{◌≡◌, ◌+◌, ◌-◌, arith}
use Rattle.vortex_names.proofs.Widths.{width_at}
use Rattle.vortex_names.proofs.decimal.bit_width.Goals as goal

pub returns : goal.returns
returns c =
    let place : 1 + (c.args.digits - 1) ≡ c.args.digits = omega arith in
    let width = rw place at (width_at 1 (c.args.digits - 1) c.args.widths.now c.requires.table (omega arith)) in
    rw c.from.ensures width
