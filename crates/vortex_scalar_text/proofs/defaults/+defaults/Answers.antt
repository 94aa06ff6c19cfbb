use Rattle.std.proofs.Common.{sym, ◌∙◌, arith}
use Rattle.vortex_terms.specs.Types.{nullable}
use Rattle.vortex_types.specs.TypeRefs.{fields_term, ref_term}
use Rattle.vortex_scalar_text.proofs.Sized.{part_lighter}
use Rattle.vortex_scalar_text.proofs.DefaultRows.{null_default, flag_says, field_there, one_default, all_defaults}
use Rattle.vortex_scalar_text.proofs.defaults.+defaults.Goals as goal

pub default_of-returns-then-from-clause-value : goal.default_of-returns-then-from-clause-value
default_of-returns-then-from-clause-value t c =
    let u = ref_term c.args.of in
    c.null.ensures ∙ null_default u (flag_says (nullable u) c.nullability.result c.nullability.ensures (sym c.from.ensures ∙ c.if-from.true))

pub default_of_field-default_of-requires : goal.default_of_field-default_of-requires
default_of_field-default_of-requires t c =
    (omega (arith, part_lighter (fields_term c.args.fields) (ref_term c.in-Some.of) c.args.i c.in-Some.ensures), tt)

pub default_of_fields-default_of_field-requires : goal.default_of_fields-default_of_field-requires
default_of_fields-default_of_field-requires t c =
    (omega arith, field_there (fields_term c.args.fields) c.loop-i.i (omega (arith, c.loop-i-test.true, c.len-i-end.ensures)))

pub default_of_fields-loop-i-preserved : goal.default_of_fields-loop-i-preserved
default_of_fields-loop-i-preserved t c =
    c.in_ok-push.ensures.items ∙ one_default (fields_term c.args.fields) c.loop-i.values.items _ c.loop-i.i c.loop-i.invariant c.in_ok-default_of_field.ensures.value

pub default_of_fields-returns-clause-value : goal.default_of_fields-returns-clause-value
default_of_fields-returns-clause-value t c =
    all_defaults c.from_list.result _ (fields_term c.args.fields) c.loop-i.i c.from_list.ensures.value c.loop-i.invariant (omega (arith, c.loop-i-test.false, c.len-i-end.ensures))
