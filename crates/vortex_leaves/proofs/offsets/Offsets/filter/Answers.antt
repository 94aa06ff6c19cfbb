use Rattle.std.proofs.Common.{◌<◌, ◌+◌, ◌-◌, ◌∙◌, Fits, w32, length, take, rules, sym, refl, arith}
use Rattle.vortex_mask.specs.Truths.{places_of}
use Rattle.vortex_leaves.specs.Selected.{size_at}
use Rattle.vortex_leaves.proofs.Joined.{joined_last, filtered_fits, filtered_no, filtered_yes}
use Rattle.vortex_leaves.proofs.offsets.Offsets.filter.Goals as goal
use Rattle.vortex_leaves.proofs.offsets.Offsets.filter.Goals.{then-value+in_ok-push, else-value}

pub overflow_sub-end : goal.overflow_sub-end
overflow_sub-end c =
    (filtered_fits c.args.self.now c.args.mask.now c.loop-i.i c.loop-i.offsets c.loop-i.end c.bounds-from.result.0
    c.bounds-from.result.1 c.loop-i.invariant c.law.ensures.rise c.bounds-from.ensures.from c.bounds-from.ensures.to).0

pub overflow_add-end : goal.overflow_add-end
overflow_add-end c =
    let room = filtered_fits c.args.self.now c.args.mask.now c.loop-i.i c.loop-i.offsets c.loop-i.end c.bounds-from.result.0 c.bounds-from.result.1 c.loop-i.invariant c.law.ensures.rise c.bounds-from.ensures.from c.bounds-from.ensures.to in
    let most : Fits w32 c.bounds-from.result.1 = search rules in
    omega (arith, room.1, most)

pub push-requires : goal.push-requires
push-requires c = record {
  rise = omega (arith, joined_last (size_at c.args.self.now) (places_of (take c.loop-i.i c.args.mask.now)) c.loop-i.offsets c.loop-i.end c.loop-i.invariant.joined);
}

pub loop-i-preserved : goal.loop-i-preserved
loop-i-preserved c =
    let l : c.loop-i.i < length c.args.mask.now = omega (arith, c.len-i-end.ensures, c.loop-i-test.true) in
    elim c.if-value.branch [
      | then-value+in_ok-push w ↦ rw (w.offsets-is, w.end-is) (filtered_yes c.args.self.now c.args.mask.now c.loop-i.i c.loop-i.offsets w.push.new.self c.loop-i.end c.bounds-from.result.0 c.bounds-from.result.1 (c.loop-i.end + (c.bounds-from.result.1 - c.bounds-from.result.0)) c.loop-i.invariant c.law.ensures.rise l c.requires.as_many (sym c.value.ensures ∙ w.if-value.true) c.bounds-from.ensures.from c.bounds-from.ensures.to refl w.in_ok-push.ensures.pushed)
      | else-value w ↦ rw (w.offsets-is, w.end-is) (filtered_no c.args.self.now c.args.mask.now c.loop-i.i c.loop-i.offsets c.loop-i.end c.loop-i.invariant c.law.ensures.rise l c.requires.as_many (sym c.value.ensures ∙ w.if-value.false))
    ]
