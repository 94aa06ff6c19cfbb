use Rattle.std.proofs.Common.{◌<◌, arith, length}
use Rattle.vortex_mask.proofs.Filters.{places_yes, places_no}
use Rattle.vortex_mask.proofs.mask.Mask.indices.Goals as goal
use Rattle.vortex_mask.proofs.mask.Mask.indices.Goals.{then-value+in_ok-push, else-value}

pub loop-place-preserved : goal.loop-place-preserved
loop-place-preserved c =
    let l : c.loop-place.place < length c.args.self.now = omega (arith, c.len-place-end.ensures) in
    elim c.if-value.branch [
      | then-value+in_ok-push w ↦ (rw w.places-is (places_yes c.args.self.now c.loop-place.place c.value.result c.loop-place.places.items w.push.new.self.items l c.value.ensures w.if-value.true c.loop-place.invariant w.in_ok-push.ensures.items))
      | else-value w ↦ (rw w.places-is (places_no c.args.self.now c.loop-place.place c.value.result c.loop-place.places.items l c.value.ensures w.if-value.false c.loop-place.invariant))
    ]
