use Rattle.std.proofs.Common.{◌<◌, ◌++◌, rules, ap, map, arith}
use Rattle.std.specs.Prelude.{codes}
use Rattle.std.proofs.Output.{has_written_append, has_written_of_eq}
use Rattle.std.proofs.lemmas.List.{take_all}
use Rattle.vortex_terms.specs.Types.{field_count}
use Rattle.vortex_types.specs.TypeRefs.{fields_term, ref_term}
use Rattle.vortex_scalar_value.specs.Joined.{joined}
use Rattle.vortex_scalar_value.proofs.Joining.{joined_step}
use Rattle.vortex_scalar_text.specs.ScalarText.{scalar_text, field_texts}
use Rattle.vortex_scalar_text.proofs.TextLemmas.{text_at, text_count, text_of_field, field_text_count}
use Rattle.vortex_scalar_text.proofs.texts.+printing.Goals as goal

pub write_list-loop-i-preserved : goal.write_list-loop-i-preserved
write_list-loop-i-preserved g t c = λ plain.
    let vs = c.args.values.now in
    let text = scalar_text (ref_term c.args.element) in
    let before = c.loop-i.invariant plain in
    let comma = c.write_comma.ensures before.plain (search rules) in
    let one = c.write_scalar.ensures comma.plain (search rules) in
    has_written_of_eq _ _ _ _ _ (joined_step (codes ", ") (map text vs) c.loop-i.i _ (omega (arith, text_count text vs, c.loop-i-test.true)) (text_at text vs c.loop-i.i c.value_at.result.now c.value_at.ensures))
    (has_written_append _ _ _ _ _ _ before (has_written_append _ _ _ _ _ _ comma one))

pub write_struct-loop-i-preserved : goal.write_struct-loop-i-preserved
write_struct-loop-i-preserved g t c = λ plain.
    let vs = c.args.values.now in
    let fs = fields_term c.args.fields in
    let within : c.loop-i.i < field_count fs = omega (arith, c.len.ensures, c.min-count.ensures, c.loop-i-test.true) in
    let before = c.loop-i.invariant plain in
    let comma = c.write_comma.ensures before.plain (search rules) in
    let one = c.write_field.ensures comma.plain (search rules) in
    has_written_of_eq _ _ _ _ _ (joined_step (codes ", ") (field_texts fs vs) c.loop-i.i _ (omega (arith, field_text_count fs vs, c.len.ensures, c.min-count.ensures, c.loop-i-test.true)) (text_of_field fs vs c.loop-i.i c.value_at.result.now within c.value_at.ensures))
    (has_written_append _ _ _ _ _ _ before (has_written_append _ _ _ _ _ _ comma one))

pub write_struct-returns : goal.write_struct-returns
write_struct-returns g t c = λ plain ok.
    let vs = c.args.values.now in
    let fs = fields_term c.args.fields in
    let opened = c.write_str.ensures.writes plain (search rules) in
    let all = c.loop-i.invariant opened.plain in
    let closed = c.write_str-2.ensures.writes all.plain ok in
    has_written_of_eq _ _ _ _ _ (ap (λ ys. codes "{" ++ (joined (codes ", ") ys ++ codes "}")) (take_all c.loop-i.i (field_texts fs vs) (omega (arith, field_text_count fs vs, c.len.ensures, c.min-count.ensures, c.loop-i-test.false))))
    (has_written_append _ _ _ _ _ _ opened (has_written_append _ _ _ _ _ _ all closed))
