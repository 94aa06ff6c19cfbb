use Rattle.std.proofs.Common.{◌<◌, ◌++◌, rules, ap, arith}
use Rattle.std.specs.Prelude.{codes}
use Rattle.std.proofs.Output.{has_written_append, has_written_of_eq}
use Rattle.std.proofs.lemmas.List.{take_all}
use Rattle.vortex_terms.specs.Types.{field_count}
use Rattle.vortex_types.specs.Text.{field_texts, listed}
use Rattle.vortex_types.specs.TypeRefs.{fields_term}
use Rattle.vortex_types.proofs.Listed.{listed_step, text_of_field, text_count}
use Rattle.vortex_types.proofs.display.+printing.Goals as goal

pub write_fields-loop-i-preserved : goal.write_fields-loop-i-preserved
write_fields-loop-i-preserved g t c = λ plain.
    let fs = fields_term c.args.fields in
    let within : c.loop-i.i < field_count fs = omega (arith, c.len-i-end.ensures, c.loop-i-test.true) in
    let before = c.loop-i.invariant plain in
    let comma = c.write_separator.ensures before.plain (search rules) in
    let one = c.write_field.ensures comma.plain (search rules) in
    has_written_of_eq _ _ _ _ _ (listed_step (field_texts fs) c.loop-i.i _ (omega (arith, text_count fs, within)) (text_of_field fs c.loop-i.i within))
    (has_written_append _ _ _ _ _ _ before (has_written_append _ _ _ _ _ _ comma one))

pub write_fields-returns : goal.write_fields-returns
write_fields-returns g t c = λ plain ok.
    let fs = fields_term c.args.fields in
    let opened = c.write_str.ensures.writes plain (search rules) in
    let all = c.loop-i.invariant opened.plain in
    let closed = c.write_str-2.ensures.writes all.plain ok in
    has_written_of_eq _ _ _ _ _ (ap (λ ys. codes "{" ++ (listed ys ++ codes "}")) (take_all c.loop-i.i (field_texts fs) (omega (arith, text_count fs, c.len-i-end.ensures, c.loop-i-test.false))))
    (has_written_append _ _ _ _ _ _ opened (has_written_append _ _ _ _ _ _ all closed))
