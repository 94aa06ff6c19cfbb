use Rattle.std.proofs.Common.{◌<◌, length, arith}
use Rattle.vortex_flat.proofs.HangingLemmas.{slot_lighter, item_lighter, targets-now, item-now}
use Rattle.vortex_flat.proofs.tree.+put.Goals as goal

pub put_targets-put_target-requires : goal.put_targets-put_target-requires
put_targets-put_target-requires t c =
    let within : c.loop-slot.slot-index < length c.args.slots.now = omega arith in
    let lighter = slot_lighter c.args.slots.now c.loop-slot.slot-index c.slot-item.result within c.slot-item.is in
    let now = targets-now c.loop-slot.out.items c.args.out.now.items c.args.slots.now c.loop-slot.slot-index c.slot-item.result within c.slot-item.is c.loop-slot.invariant in
    (omega (arith, lighter), (now.short, now.fits))

pub put_trees-put_item-requires : goal.put_trees-put_item-requires
put_trees-put_item-requires t c =
    let within : c.loop-item.item-index < length c.args.items.now = omega arith in
    let lighter = item_lighter c.args.items.now c.loop-item.item-index c.item-item.result within c.item-item.is in
    let now = item-now c.loop-item.out.items c.args.out.now.items c.args.items.now c.loop-item.item-index c.item-item.result within c.item-item.is c.loop-item.invariant in
    (omega (arith, lighter), (now.short, now.fits))
