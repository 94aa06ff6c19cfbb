use Rattle.std.proofs.Common.{◌<◌, ◌∙◌, arith, length}
use Rattle.vortex_mask.proofs.Filters.{kept_yes, kept_no}
use Rattle.vortex_mask.proofs.mask.Mask.filter_bits.Goals as goal
use Rattle.vortex_mask.proofs.mask.Mask.filter_bits.Goals.{then-value+in_ok-push, else-value}

pub loop-place-preserved : goal.loop-place-preserved
loop-place-preserved c =
    let l : c.loop-place.place < length c.args.self.now = omega (arith, c.len-place-end.ensures) in
    elim c.if-value.branch [
      | then-value+in_ok-push w ↦ (w.builder-is ∙ kept_yes c.args.keep.now c.args.self.now c.loop-place.place c.value.result w.value-then-value.result c.loop-place.builder w.push.new.self c.requires.same_len l c.value.ensures w.if-value.true w.value-then-value.ensures c.loop-place.invariant w.in_ok-push.ensures.pushed)
      | else-value w ↦ (w.builder-is ∙ kept_no c.args.keep.now c.args.self.now c.loop-place.place c.value.result c.loop-place.builder c.requires.same_len l c.value.ensures w.if-value.false c.loop-place.invariant)
    ]
