use Rattle.std.proofs.Common.{◌≡◌, ◌/◌, length, []}
use Rattle.vortex_leaves.proofs.Chunks.{chunk_count, chunk_there}
use Rattle.vortex_leaves.proofs.chunk.chunk_at.Goals as goal

pub returns : goal.returns
returns g c =
    let many : length c.args.bytes.now / g.row.N ≡ c.args.n = chunk_count (length c.args.bytes.now) c.args.n g.row.N c.requires.exact c.requires.some in
    chunk_there g.row.N c.args.n (length c.args.bytes.now / g.row.N) c.args.bytes.now c.as_chunks.result.0.now c.args.i [] many c.as_chunks.ensures.front c.as_chunks.ensures.front_len c.requires.index
