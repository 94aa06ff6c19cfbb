use Rattle.vortex_leaves.specs.Numbers.{number_format}
use Rattle.vortex_leaves.proofs.SelectedNumbers.{range_held}
use Rattle.vortex_leaves.proofs.numbers.Numbers.slice.Goals as goal

pub returns : goal.returns
returns c =
    (range_held (number_format c.self.inside.format) c.self.inside.len c.args.from c.args.to c.width-width.result
    c.self.inside.bytes c.in_ok-bytes.bytes c.as_slice.result.now c.args.self.now c.self.view_is c.self.invariant
    c.requires.start_le_end c.requires.in_bounds c.width-width.ensures c.in_ok-bytes.ensures.ok c.as_slice.ensures
    c.are_bytes.ensures).1
