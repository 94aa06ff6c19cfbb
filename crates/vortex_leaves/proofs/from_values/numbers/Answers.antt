use Rattle.std.proofs.Common.{length, refl}
use Rattle.vortex_leaves.specs.Numbers.{number_format}
use Rattle.vortex_leaves.proofs.FromValues.{numbers_made}
use Rattle.vortex_leaves.proofs.from_values.numbers.Goals as goal

pub invariant_of-result : goal.invariant_of-result
invariant_of-result g c =
    (numbers_made g.T.WholeNumber.format (number_format c.args.format) g.T.WholeNumber.number c.args.values.now
    c.in_ok-bytes.bytes.items c.in_ok-bytes-2.bytes c.as_slice.result.now (length c.args.values.now) c.requires
    c.in_ok-bytes.ensures.bytes c.in_ok-bytes-2.ensures.ok refl c.as_slice.ensures c.are_bytes.ensures
    c.in_ok-bytes.ensures.fit).0

pub returns-clause-numbers : goal.returns-clause-numbers
returns-clause-numbers g c =
    (numbers_made g.T.WholeNumber.format (number_format c.args.format) g.T.WholeNumber.number c.args.values.now
    c.in_ok-bytes.bytes.items c.in_ok-bytes-2.bytes c.as_slice.result.now (length c.args.values.now) c.requires
    c.in_ok-bytes.ensures.bytes c.in_ok-bytes-2.ensures.ok refl c.as_slice.ensures c.are_bytes.ensures
    c.in_ok-bytes.ensures.fit).1
