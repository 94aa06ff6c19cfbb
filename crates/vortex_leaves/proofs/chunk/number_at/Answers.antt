use Rattle.std.proofs.Common.{rules}
use mir.Val.{SFits}
use Rattle.std.specs.Int.{w128}
use Rattle.vortex_leaves.proofs.Chunks.{number_128}
use Rattle.vortex_leaves.proofs.chunk.number_at.Goals as goal

pub returns-in-I128 : goal.returns-in-I128
returns-in-I128 c =
    let fits : SFits w128 c.from_le_bytes-in-I128.result = search rules in
    rw c.in-I128.is (number_128 c.args.n c.args.bytes.now _ c.args.i _ c.chunk_at-in-I128.ensures c.from_le_bytes-in-I128.ensures fits)
