use Rattle.std.proofs.Common.{◌∙◌}
use Rattle.vortex_array_data.proofs.PickLaws.{picked_range}
use Rattle.vortex_array_data.proofs.held.Array.slice.Goals as goal

pub returns : goal.returns
returns c = (
  c.in_ok-array.ensures.dtype,
  c.in_ok-array.ensures.rows
      ∙ picked_range c.args.from c.args.to c.args.self.now.rows c.requires.start_le_end c.requires.in_bounds,
)
