use Rattle.std.proofs.Common.{rules, ◌≡◌, ◌*◌, Some, None, length}
use Rattle.std.specs.Prelude.{if◌then◌else◌, nat_le}
use Rattle.vortex_mask.specs.Bits.{truths_in}
use Rattle.vortex_array_decode.proofs.Childless.{bits_count}
use Rattle.vortex_array_decode.proofs.decode.truths.Goals as goal

pub returns-in-Some-from_bits-clause-count : goal.returns-in-Some-from_bits-clause-count
returns-in-Some-from_bits-clause-count c =
    let found : (if nat_le c.args.n (8 * length c.in_ok-bytes.bytes) then Some
    (truths_in c.args.n c.in_ok-bytes.bytes) else None) ≡ Some c.in-Some-from_bits.mask = search rules in
    bits_count c.args.n c.in_ok-bytes.bytes c.in-Some-from_bits.mask found
