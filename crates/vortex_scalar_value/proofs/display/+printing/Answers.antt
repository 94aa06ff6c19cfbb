use Rattle.std.proofs.Common.{◌++◌, rules, sym, ap, ◌∙◌, arith, map}
use Rattle.std.specs.Prelude.{codes}
use Rattle.std.proofs.Output.{has_written_append, has_written_of_eq}
use Rattle.vortex_scalar_value.specs.Joined.{joined}
use Rattle.vortex_scalar_value.specs.ValueText.{value_text}
use Rattle.vortex_scalar_value.proofs.Joining.{joined_step}
use Rattle.vortex_scalar_value.proofs.ValueTexts.{texts_of, value_lighter, text_at, text_count}
use Rattle.vortex_scalar_value.proofs.display.+printing.Goals as goal

pub write_list-write_value-requires : goal.write_list-write_value-requires
write_list-write_value-requires g t c κs within =
    (omega (arith, value_lighter c.args.values.now c.loop-i.i c.value_at.result.now c.value_at.ensures), within)

pub write_list-loop-i-preserved : goal.write_list-loop-i-preserved
write_list-loop-i-preserved g t c = λ plain.
    let vs = c.args.values.now in
    let before = c.loop-i.invariant plain in
    let comma = c.write_comma.ensures before.plain (search rules) in
    let one = c.write_value.ensures comma.plain (search rules) in
    has_written_of_eq _ _ _ _ _ (joined_step (codes ",") (map value_text vs) c.loop-i.i _ (omega (arith, text_count vs, c.loop-i-test.true)) (text_at vs c.loop-i.i c.value_at.result.now c.value_at.ensures))
    (has_written_append _ _ _ _ _ _ before (has_written_append _ _ _ _ _ _ comma one))

pub write_value-returns-in-List : goal.write_value-returns-in-List
write_value-returns-in-List g t c = λ plain ok.
    has_written_of_eq _ _ _ _ _ (ap (λ xs. codes "[" ++ (joined (codes ",") xs ++ codes "]")) (sym (texts_of c.in-List.values.now)) ∙ ap value_text c.in-List.ensures)
    (c.write_list.ensures plain ok)
