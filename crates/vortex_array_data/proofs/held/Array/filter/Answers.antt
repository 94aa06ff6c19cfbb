use Rattle.std.proofs.Common.{◌∙◌}
use Rattle.vortex_array_data.proofs.KeptAll.{all_sliced, none_sliced}
use Rattle.vortex_array_data.proofs.PickPlaces.{picked-mask}
use Rattle.vortex_array_data.proofs.held.Array.filter.Goals as goal

pub returns-then-all_true : goal.returns-then-all_true
returns-then-all_true c =
    all_sliced c.slice.result c.args.self.now c.args.mask.now c.len.result c.all_true.result c.all_true.ensures
    c.if-all_true.true c.len.ensures c.requires c.slice.ensures

pub returns-then-all_false : goal.returns-then-all_false
returns-then-all_false c =
    none_sliced c.slice-then-all_false.result c.args.self.now c.args.mask.now c.all_false.result c.all_false.ensures
    c.if-all_false.true c.slice-then-all_false.ensures

pub returns : goal.returns
returns c = (
  c.in_ok-array.ensures.dtype,
  c.in_ok-array.ensures.rows ∙ picked-mask c.args.mask.now c.args.self.now.rows c.requires,
)
