use Rattle.std.proofs.Common.{rules, ◌≡◌, sym}
use Rattle.std.specs.Ordering.{nat_cmp}
use Rattle.std.specs.Cmp.Lexicographic.{slice_cmp}
use Rattle.vortex_value.specs.Operator.{bears}
use Rattle.vortex_leaves.specs.Texts.{text_pieces}
use Rattle.vortex_array_compare.proofs.ComparedTexts.{hidden_text, shown_text}
use Rattle.vortex_array_compare.proofs.compare_texts.text_truth.Goals as goal

pub returns-then-not-is_unmasked-clause-truth : goal.returns-then-not-is_unmasked-clause-truth
returns-then-not-is_unmasked-clause-truth g c =
    hidden_text c.args.operator c.args.value.now c.args.validity.now (text_pieces c.args.texts.now) c.args.i
    (sym c.if-not-is_unmasked.ensures)

pub returns-clause-truth : goal.returns-clause-truth
returns-clause-truth g c =
    let is : c.holds.result ≡ bears c.args.operator (slice_cmp nat_cmp c.piece.result.now c.args.value.now) = search rules in
    shown_text c.args.operator c.args.validity.now (text_pieces c.args.texts.now) c.args.i c.piece.result.now
    c.args.value.now c.holds.result c.requires.mask (sym c.if-not-is_unmasked.ensures) c.piece.ensures is
