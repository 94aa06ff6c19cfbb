use Rattle.std.proofs.Common.{◌∙◌, sym}
use Rattle.vortex_array_data.proofs.ShownRows.{marked_left, marked_put}
use Rattle.vortex_array_data.proofs.pick_parts.marked_places.Goals as goal
use Rattle.vortex_array_data.proofs.pick_parts.marked_places.Goals.{then-value+in_ok-push, else-value}

pub loop-place-preserved : goal.loop-place-preserved
loop-place-preserved c =
    elim c.if-value.branch [
      | then-value+in_ok-push w ↦ rw w.out-is (marked_put c.args.mask.now c.args.places.now c.loop-place.out.items w.push.new.self.items c.loop-place.place-index c.loop-place-test.true (sym c.value.ensures ∙ w.if-value.true) c.loop-place.invariant w.in_ok-push.ensures.items)
      | else-value w ↦ rw w.out-is (marked_left c.args.mask.now c.args.places.now c.loop-place.out.items c.loop-place.place-index c.loop-place-test.true (sym c.value.ensures ∙ w.if-value.false) c.loop-place.invariant)
    ]
