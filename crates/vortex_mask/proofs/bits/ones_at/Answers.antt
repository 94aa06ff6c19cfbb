use Rattle.std.proofs.Common.{◌≡◌, ◌+◌, ◌*◌, take, drop, arith, refl}
use Rattle.std.specs.List.{flat_map, count_by}
use Rattle.vortex_mask.specs.Bits.{bits_of_byte}
use Rattle.vortex_mask.proofs.Eights.{counted, few_counted}
use Rattle.vortex_mask.proofs.bits.ones_at.Goals as goal

pub overflow_add-ones : goal.overflow_add-ones
overflow_add-ones c =
    let e : c.loop-index.ones + _ ≡ count_by (λ b. b) (take (8 * (c.loop-index.index + 1)) (take c.args.count (drop c.args.place (flat_map bits_of_byte c.args.bytes.now)))) = counted c.args.bytes.now c.args.place c.args.count c.loop-index.index (8 * c.loop-index.index) c.min-width.result c.byte_at.result c.loop-index.ones refl (omega arith) c.min-width.ensures c.byte_at.ensures c.loop-index.invariant in
    record { fits = omega (arith, e, few_counted (drop c.args.place (flat_map bits_of_byte c.args.bytes.now)) (8 * (c.loop-index.index + 1)) c.args.count) }

pub loop-index-preserved : goal.loop-index-preserved
loop-index-preserved c = counted c.args.bytes.now c.args.place c.args.count c.loop-index.index (8 * c.loop-index.index) c.min-width.result c.byte_at.result c.loop-index.ones refl (omega arith) c.min-width.ensures c.byte_at.ensures c.loop-index.invariant
