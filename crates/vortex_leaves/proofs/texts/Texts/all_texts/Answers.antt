use Rattle.std.proofs.Common.{rules, ◌<◌, length}
use Rattle.vortex_leaves.specs.Texts.{text_pieces}
use Rattle.vortex_leaves.proofs.TextTests.{all_more}
use Rattle.vortex_leaves.proofs.texts.Texts.all_texts.Goals as goal

pub loop-i-preserved : goal.loop-i-preserved
loop-i-preserved c =
    let low : c.loop-i.i < length (text_pieces c.args.self.now) = search rules in
    all_more (text_pieces c.args.self.now) c.loop-i.i c.piece.result.now c.loop-i.ok c.is_text-ok.result low c.piece.ensures c.is_text-ok.ensures c.loop-i.invariant
