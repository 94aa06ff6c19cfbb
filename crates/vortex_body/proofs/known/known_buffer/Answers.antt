use Rattle.std.proofs.Common.{arith}
use Rattle.vortex_body.specs.inner.Walked.{known_own}
use Rattle.vortex_body.proofs.Named.{named_count_is, named_within}
use Rattle.vortex_body.proofs.known.known_buffer.Goals as goal

pub u32-requires-clause-index : goal.u32-requires-clause-index
u32-requires-clause-index c =
    let own = known_own c.args.flat.now c.args.buffers.now c.args.place in
    omega (arith, c.requires.index, named_count_is c.args.flat.now c.args.buffers.now own.buffers c.known_places-places.result.shape c.known_places-places.ensures.named)

pub bounds-buffers-u32 : goal.bounds-buffers-u32
bounds-buffers-u32 c =
    let own = known_own c.args.flat.now c.args.buffers.now c.args.place in
    named_within c.args.flat.now c.args.buffers.now own.buffers c.known_places-places.result c.args.i c.u32.result c.known_places-places.ensures.buffer c.known_places-places.ensures.named c.requires.index c.u32.ensures
