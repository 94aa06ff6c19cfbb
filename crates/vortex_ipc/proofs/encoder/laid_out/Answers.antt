use Rattle.vortex_flat.specs.Item.{tree_of}
use Rattle.vortex_ipc.proofs.Heads.{laid_short}
use Rattle.vortex_ipc.proofs.encoder.laid_out.Goals as goal

pub returns-in-Ok-clause-short : goal.returns-in-Ok-clause-short
returns-in-Ok-clause-short c = laid_short (tree_of c.args.root.now) c.in-Ok.bytes.items c.in-Ok.ensures.laid
