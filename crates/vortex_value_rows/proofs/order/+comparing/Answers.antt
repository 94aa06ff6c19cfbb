use Rattle.std.proofs.Common.{◌∙◌, arith}
use Rattle.vortex_types.specs.TypeRefs.{ref_term}
use Rattle.vortex_scalar_value.specs.Value.{values_from}
use Rattle.vortex_value_rows.specs.RowOf.{row_of}
use Rattle.vortex_value_rows.specs.Inside.{inside_term}
use Rattle.vortex_value_rows.specs.declared.row_refs.RowRef.TheVariants as refs
use Rattle.vortex_value_rows.proofs.Insides.{part_lighter}
use Rattle.vortex_value_rows.proofs.Walks.{step, has_part, parts_light, inside_some}
use Rattle.vortex_value_rows.proofs.Ordered.{told, no_truth, no_whole, no_bytes, no_list, decides, goes_on, ends}
use Rattle.vortex_value_rows.proofs.order.+comparing.Goals as goal

pub compare-compare_inside-requires : goal.compare-compare_inside-requires
compare-compare_inside-requires t c =
    let u = ref_term c.args.of in
    let d = inside_term c.parts_of.result in (
      omega (arith, parts_light u d c.parts_of.ensures),
      (
        inside_some u d (values_from c.in-List.a.now) (row_of u c.args.a.now) c.in-List.ensures c.requires.left c.parts_of.ensures,
        inside_some u d (values_from c.in-List-y.b.now) (row_of u c.args.b.now) c.in-List-y.ensures c.requires.right c.parts_of.ensures,
      ),
    )

pub compare-returns-in_default : goal.compare-returns-in_default
compare-returns-in_default t c =
    told (ref_term c.args.of) _ (refs.Truth c.in-Truth.a) c.row_ref-y.result _ _ _ _ _ c.in-Truth.is c.in-Truth.ensures c.row_ref-y.ensures c.requires.left c.requires.right
    (no_truth _ c.in_default.not-Truth) c.form-in_default.ensures c.form-in_default-2.ensures c.cmp-in_default.ensures

pub compare-returns-in_default-y : goal.compare-returns-in_default-y
compare-returns-in_default-y t c =
    told (ref_term c.args.of) _ (refs.Whole c.in-Whole.a) c.row_ref-y.result _ _ _ _ _ c.in-Whole.is c.in-Whole.ensures c.row_ref-y.ensures c.requires.left c.requires.right
    (no_whole _ c.in_default-y.not-Whole) c.form-in_default-y.ensures c.form-in_default-y-2.ensures c.cmp-in_default-y.ensures

pub compare-returns-in_default-y-2 : goal.compare-returns-in_default-y-2
compare-returns-in_default-y-2 t c =
    told (ref_term c.args.of) _ (refs.Bytes c.in-Bytes.a) c.row_ref-y.result _ _ _ _ _ c.in-Bytes.is c.in-Bytes.ensures c.row_ref-y.ensures c.requires.left c.requires.right
    (no_bytes _ c.in_default-y-2.not-Bytes) c.form-in_default-y-2-2.ensures c.form-in_default-y-2-3.ensures c.cmp-in_default-y-2.ensures

pub compare-returns-in_default-y-3 : goal.compare-returns-in_default-y-3
compare-returns-in_default-y-3 t c =
    told (ref_term c.args.of) _ (refs.List c.in-List.a) c.row_ref-y.result _ _ _ _ _ c.in-List.is c.in-List.ensures c.row_ref-y.ensures c.requires.left c.requires.right
    (no_list _ c.in_default-y-3.not-List) c.form-in_default-y-3.ensures c.form-in_default-y-3-2.ensures c.cmp-in_default-y-3.ensures

pub compare_inside-part_at-requires : goal.compare_inside-part_at-requires
compare_inside-part_at-requires t c =
    has_part (inside_term c.args.inside) c.args.a.now c.loop-i.i c.requires.left (omega (arith, c.loop-i-test.true, c.min-n.ensures))

pub compare_inside-compare-requires : goal.compare_inside-compare-requires
compare_inside-compare-requires t c =
    let d = inside_term c.args.inside in
    let u = ref_term c.part_at.result in
    let a = step d c.args.a.now c.loop-i.i u c.value_at.result.now c.part_at.ensures c.value_at.ensures c.loop-i.invariant.1 in
    let b = step d c.args.b.now c.loop-i.i u c.value_at-in-loop-i.result.now c.part_at.ensures c.value_at-in-loop-i.ensures c.loop-i.invariant.2 in
    (omega (arith, part_lighter d c.loop-i.i u c.part_at.ensures), (a.here, b.here))

pub compare_inside-returns-in_default : goal.compare_inside-returns-in_default
compare_inside-returns-in_default t c =
    let d = inside_term c.args.inside in
    let u = ref_term c.part_at.result in
    decides d c.args.a.now c.args.b.now c.loop-i.i u c.value_at.result.now c.value_at-in-loop-i.result.now _ _
    (step d c.args.a.now c.loop-i.i u c.value_at.result.now c.part_at.ensures c.value_at.ensures c.loop-i.invariant.1)
    (step d c.args.b.now c.loop-i.i u c.value_at-in-loop-i.result.now c.part_at.ensures c.value_at-in-loop-i.ensures c.loop-i.invariant.2)
    c.compare.ensures c.in_default.not-Equal c.loop-i.invariant.0

pub compare_inside-loop-i-preserved : goal.compare_inside-loop-i-preserved
compare_inside-loop-i-preserved t c =
    let d = inside_term c.args.inside in
    let u = ref_term c.part_at.result in
    let a = step d c.args.a.now c.loop-i.i u c.value_at.result.now c.part_at.ensures c.value_at.ensures c.loop-i.invariant.1 in
    let b = step d c.args.b.now c.loop-i.i u c.value_at-in-loop-i.result.now c.part_at.ensures c.value_at-in-loop-i.ensures c.loop-i.invariant.2 in
    (goes_on d c.args.a.now c.args.b.now c.loop-i.i u c.value_at.result.now c.value_at-in-loop-i.result.now _ a b c.in-Equal.ensures c.loop-i.invariant.0, a.rest, b.rest)

pub compare_inside-returns : goal.compare_inside-returns
compare_inside-returns t c =
    c.cmp.ensures ∙ ends (inside_term c.args.inside) c.args.a.now c.args.b.now c.loop-i.i c.loop-i.invariant.1 c.loop-i.invariant.2 (omega (arith, c.loop-i-test.false, c.loop-i.auto.i-end, c.min-n.ensures))
    ∙ c.loop-i.invariant.0
