use Rattle.vortex_leaves.specs.Numbers.{number_format}
use Rattle.vortex_leaves.proofs.SelectedNumbers.{kept_held}
use Rattle.vortex_leaves.proofs.numbers.Numbers.filter.Goals as goal

pub invariant_of-result : goal.invariant_of-result
invariant_of-result c =
    (kept_held (number_format c.self.inside.format) c.self.inside.len c.true_count.result c.self.inside.bytes
    c.as_slice.result.now c.in_ok-bytes.bytes.items c.in_ok-bytes-2.bytes c.as_slice-2.result.now c.args.mask.now
    c.args.self.now c.self.view_is c.self.invariant c.requires.same_len c.as_slice.ensures c.in_ok-bytes.ensures
    c.in_ok-bytes-2.ensures.ok c.true_count.ensures c.as_slice-2.ensures c.are_bytes.ensures).0

pub returns : goal.returns
returns c =
    (kept_held (number_format c.self.inside.format) c.self.inside.len c.true_count.result c.self.inside.bytes
    c.as_slice.result.now c.in_ok-bytes.bytes.items c.in_ok-bytes-2.bytes c.as_slice-2.result.now c.args.mask.now
    c.args.self.now c.self.view_is c.self.invariant c.requires.same_len c.as_slice.ensures c.in_ok-bytes.ensures
    c.in_ok-bytes-2.ensures.ok c.true_count.ensures c.as_slice-2.ensures c.are_bytes.ensures).1
