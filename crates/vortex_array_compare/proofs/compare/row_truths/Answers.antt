use Rattle.vortex_array_compare.proofs.ComparedNumbers.{numbers_long, numbers_mask}
use Rattle.vortex_array_compare.proofs.ComparedTexts.{texts_long, texts_mask}
use Rattle.vortex_array_compare.proofs.compare.row_truths.Goals as goal

pub number_truths-requires-clause-mask : goal.number_truths-requires-clause-mask
number_truths-requires-clause-mask g c =
    numbers_mask c.array.inside c.in-Numbers.numbers c.array.invariant c.in-Numbers.is

pub number_truths-requires-clause-long : goal.number_truths-requires-clause-long
number_truths-requires-clause-long g c =
    numbers_long c.array.inside c.args.array.now c.in-Numbers.numbers c.array.invariant c.array.view_is c.in-Numbers.is

pub text_truths-requires-clause-mask : goal.text_truths-requires-clause-mask
text_truths-requires-clause-mask g c =
    texts_mask c.array.inside c.in-Texts.texts c.array.invariant c.in-Texts.is

pub text_truths-requires-clause-long : goal.text_truths-requires-clause-long
text_truths-requires-clause-long g c =
    texts_long c.array.inside c.args.array.now c.in-Texts.texts c.array.invariant c.array.view_is c.in-Texts.is
