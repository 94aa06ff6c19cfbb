use Rattle.vortex_number.specs.PType.{format_of}
use Rattle.vortex_array_plain.specs.PlainValues.{number_in}
use Rattle.vortex_array_plain.proofs.PlainLeaves.{numbers_again}
use Rattle.vortex_array_plain.proofs.plain_leaves.native_numbers.Goals as goal

pub returns : goal.returns
returns g c =
    numbers_again (format_of g.T.NativePType.PTYPE) g.T.WholeNumber.number number_in c.deref.result.now c.in_ok-natives.natives.items
    c.args.values.now c.in_ok-from_values.field-0 c.deref.ensures.value c.in_ok-natives.ensures c.in_ok-from_values.ensures.numbers
