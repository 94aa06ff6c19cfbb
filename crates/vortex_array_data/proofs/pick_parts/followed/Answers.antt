use Rattle.vortex_array_data.proofs.PickedRows.{followed_more}
use Rattle.vortex_array_data.proofs.pick_parts.followed.Goals as goal

pub loop-place-preserved : goal.loop-place-preserved
loop-place-preserved c =
    followed_more c.args.given.items c.loop-place.out.items c.push.new.self.items c.args.from c.loop-place.place
    c.loop-place.auto.place c.loop-place.invariant c.in_ok-push.ensures.items
