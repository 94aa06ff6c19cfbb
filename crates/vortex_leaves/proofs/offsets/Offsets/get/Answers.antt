use Rattle.std.proofs.Common.{◌≡◌, suc, length, arith}
use Rattle.vortex_leaves.proofs.Rising.{held_count}
use Rattle.vortex_leaves.proofs.offsets.Offsets.get.Goals as goal

pub chunk_at-requires : goal.chunk_at-requires
chunk_at-requires c =
    let many : length c.args.self.now ≡ suc c.self.inside.len = held_count c.self.inside.len c.self.inside.bytes c.args.self.now c.self.view_is in
    grind (arith, many, c.requires, c.self.invariant.exact, c.as_slice.ensures)
