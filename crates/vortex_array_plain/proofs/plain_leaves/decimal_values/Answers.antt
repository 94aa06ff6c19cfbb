use Rattle.std.specs.Int.{w128}
use Rattle.vortex_number.specs.Format.{signed}
use Rattle.vortex_array_plain.specs.PlainValues.{decimal_in}
use Rattle.vortex_array_plain.proofs.PlainLeaves.{decimals_again}
use Rattle.vortex_array_plain.proofs.plain_leaves.decimal_values.Goals as goal

pub returns : goal.returns
returns c =
    decimals_again (signed w128) decimal_in c.deref.result.now c.in_ok-numbers.numbers.items c.args.values.now
    c.in_ok-from_values.field-0 c.deref.ensures.value c.in_ok-numbers.ensures c.in_ok-from_values.ensures.numbers
