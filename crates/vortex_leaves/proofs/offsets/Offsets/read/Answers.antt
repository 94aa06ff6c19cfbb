use Rattle.std.proofs.Common.{◌≡◌, true, rules}
use Rattle.vortex_leaves.proofs.Rising.{offsets_found}
use Rattle.vortex_leaves.proofs.offsets.Offsets.read.Goals as goal

pub returns-clause-shape : goal.returns-clause-shape
returns-clause-shape c =
    let found : c.are_offsets.result ≡ true = search rules in
    offsets_found c.args.n c.args.end c.args.bytes.now c.in_ok-clone.field-0 c.are_offsets.result (search rules) (search rules) found
