use Rattle.vortex_leaves.specs.Numbers.{number_format}
use Rattle.vortex_leaves.proofs.SelectedNumbers.{taken_held}
use Rattle.vortex_leaves.proofs.numbers.Numbers.take.Goals as goal

pub invariant_of-result : goal.invariant_of-result
invariant_of-result c =
    (taken_held (number_format c.self.inside.format) c.self.inside.len c.self.inside.bytes c.as_slice-bytes.result.now
    c.in_ok-bytes.bytes.items c.in_ok-bytes-2.bytes c.as_slice.result.now c.args.places.now c.args.self.now
    c.self.view_is c.self.invariant c.requires.in_range c.as_slice-bytes.ensures c.in_ok-bytes.ensures
    c.in_ok-bytes-2.ensures.ok c.as_slice.ensures c.are_bytes.ensures).0

pub returns : goal.returns
returns c =
    (taken_held (number_format c.self.inside.format) c.self.inside.len c.self.inside.bytes c.as_slice-bytes.result.now
    c.in_ok-bytes.bytes.items c.in_ok-bytes-2.bytes c.as_slice.result.now c.args.places.now c.args.self.now
    c.self.view_is c.self.invariant c.requires.in_range c.as_slice-bytes.ensures c.in_ok-bytes.ensures
    c.in_ok-bytes-2.ensures.ok c.as_slice.ensures c.are_bytes.ensures).1
