use Rattle.vortex_number.specs.PType.{format_of}
use Rattle.vortex_value.specs.PValue.{number_of}
use Rattle.vortex_array_plain.specs.PlainValues.{number_in}
use Rattle.vortex_array_plain.proofs.PlainLeaves.{fits_there}
use Rattle.vortex_array_plain.proofs.plain_leaves.native.Goals as goal

pub as_primitive-requires : goal.as_primitive-requires
as_primitive-requires g c =
    fits_there g.T.WholeNumber.format (format_of g.T.NativePType.PTYPE) (number_of c.primitive_in.result) (number_in c.args.value.now)
    g.met.T.NativePType.format_law c.primitive_in.ensures c.requires
