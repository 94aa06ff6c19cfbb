use Rattle.vortex_flat.specs.Item.{tree_of}
use Rattle.vortex_ipc.proofs.Heads.{has_layout}
use Rattle.vortex_ipc.proofs.encoder.head.Goals as goal

pub behind_length-requires-clause-fits : goal.behind_length-requires-clause-fits
behind_length-requires-clause-fits c = has_layout c.args.message c.args.size (tree_of c.in_ok-item.item) c.in_ok-item.ensures
