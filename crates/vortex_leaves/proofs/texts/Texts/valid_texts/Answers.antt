use Rattle.std.proofs.Common.{rules, [], ◌≡◌, ◌<◌, length, get_or, false, sym, ◌∙◌, min}
use Rattle.std.specs.Prelude.{◌&&◌}
use Rattle.vortex_leaves.specs.Texts.{text_pieces}
use Rattle.vortex_leaves.proofs.TextTests.{passes, valid_more, valid_step, null_step, valid_done}
use Rattle.vortex_leaves.proofs.texts.Texts.valid_texts.Goals as goal
use Rattle.vortex_leaves.proofs.texts.Texts.valid_texts.Goals.{then-value, else-value}

pub loop-i-preserved : goal.loop-i-preserved
loop-i-preserved c =
    let ps = text_pieces c.args.self.now in
    let m = c.args.valid.now in
    let here : c.loop-i.i < length ps = search rules in
    let there : c.loop-i.i < length m = search rules in
    let next : c.if-value.ok ≡ (c.loop-i.ok && passes (get_or m c.loop-i.i false) (get_or ps c.loop-i.i [])) = elim c.if-value.branch [
      | then-value w ↦ w.ok-is ∙ valid_step w.piece.result.now ps c.loop-i.i c.loop-i.ok w.is_text-ok.result m w.piece.ensures w.is_text-ok.ensures (sym c.value.ensures ∙ w.if-value.true)
      | else-value w ↦ w.ok-is ∙ null_step ps c.loop-i.i c.loop-i.ok m (sym c.value.ensures ∙ w.if-value.false)
    ] in
    valid_more m ps c.loop-i.i c.loop-i.ok c.if-value.ok there here next c.loop-i.invariant

pub returns : goal.returns
returns c =
    let all : c.loop-i.i ≡ min (length (text_pieces c.args.self.now)) (length c.args.valid.now) = search rules in
    valid_done c.args.valid.now (text_pieces c.args.self.now) c.loop-i.i c.loop-i.ok all c.loop-i.invariant
