use Rattle.std.proofs.Common.{◌++◌, rules}
use Rattle.std.specs.Int.{w128}
use Rattle.std.proofs.lemmas.Int.{to_z-of_z}
use Rattle.std.proofs.Output.{has_written_append, has_written_of_eq}
use Rattle.vortex_scalar_text.specs.ScalarText.{decimal_start, decimal_end}
use Rattle.vortex_scalar_text.proofs.texts.write_decimal_number.Goals as goal

pub returns : goal.returns
returns g c = λ plain ok.
    let start = c.write_decimal_start.ensures plain (search rules) in
    let rest = c.write_decimal_end.ensures start.plain ok in
    has_written_of_eq _ _ _ _ _ (λ i. decimal_start (c.args.bits, to_z-of_z w128 c.args.number c.ranges.number i) ++ decimal_end c.args.dtype.precision c.args.dtype.scale)
    (has_written_append _ _ _ _ _ _ start rest)
