use Rattle.vortex_body.proofs.Runs.{looked_up}
use Rattle.vortex_body.proofs.places.Places.names_all.Goals as goal

pub returns : goal.returns
returns c = looked_up c.self.inside.flat c.self.inside.buffers.value.items c.self.inside.runs.items c.args.self.now c.args.first c.args.count c.index.result.now c.len.result c.self.invariant c.self.view_is c.requires c.len.ensures.value c.index.ensures
