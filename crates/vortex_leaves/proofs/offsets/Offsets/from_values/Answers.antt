use Rattle.std.proofs.Common.{◌≡◌, ◌-◌, suc, length, arith}
use Rattle.vortex_leaves.proofs.FromValues.{offsets_made}
use Rattle.vortex_leaves.proofs.offsets.Offsets.from_values.Goals as goal

pub invariant_of-result : goal.invariant_of-result
invariant_of-result c =
    let long : suc (length c.args.offsets.now - 1) ≡ length c.args.offsets.now = omega (arith, c.requires.some) in
    (offsets_made c.args.offsets.now c.in_ok-bytes.bytes.items c.in_ok-bytes-2.bytes c.as_slice.result.now
    (length c.args.offsets.now - 1) c.in_ok-bytes.ensures.bytes c.in_ok-bytes-2.ensures.ok long c.as_slice.ensures
    c.are_bytes.ensures c.in_ok-bytes.ensures.fit c.requires.rise).0

pub returns : goal.returns
returns c =
    let long : suc (length c.args.offsets.now - 1) ≡ length c.args.offsets.now = omega (arith, c.requires.some) in
    (offsets_made c.args.offsets.now c.in_ok-bytes.bytes.items c.in_ok-bytes-2.bytes c.as_slice.result.now
    (length c.args.offsets.now - 1) c.in_ok-bytes.ensures.bytes c.in_ok-bytes-2.ensures.ok long c.as_slice.ensures
    c.are_bytes.ensures c.in_ok-bytes.ensures.fit c.requires.rise).1
