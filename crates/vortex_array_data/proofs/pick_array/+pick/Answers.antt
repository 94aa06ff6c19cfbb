use Rattle.std.proofs.Common.{rules, ◌≡◌, ◌≤◌, ◌<◌, ◌*◌, ◌^◌, ℕ, length, map, slice_index_or, arith, ◌∙◌, List, [], true, ap, refl, sym, subst, inr}
use Rattle.std.specs.List.{sum}
use Rattle.std.proofs.lemmas.List.{append-nil}
use Rattle.vortex_types.specs.DTypes.{term_of}
use Rattle.vortex_node_rows.specs.RowsOf.{most_rows}
use Rattle.vortex_leaves.specs.Selected.{joined_offsets, shown_size, size_at}
use Rattle.vortex_leaves.specs.Texts.{AreOffsets}
use Rattle.vortex_array_data.specs.ArrayNode.{array_node_count}
use Rattle.vortex_array_data.specs.Column.{Column, Holds}
use Rattle.vortex_array_data.specs.Content.{column_of, mask_nodes, IsMask}
use Rattle.vortex_array_data.specs.declared.pick_rows.Picks.{Picks}
use Rattle.vortex_array_data.specs.declared.pick_rows.Picks.TheVariants.{Places}
use Rattle.vortex_array_data.specs.inner.Picked.{shown_places, ArePickedColumns, IsPickedColumn, IsPickedLists}
use Rattle.vortex_array_data.specs.inner.PickedPlaces.{places_in, start_in, AnyMuch, ArePicks, ColumnMuch, RefusesPick}
use Rattle.vortex_array_data.specs.inner.Spans.{spans}
use Rattle.vortex_array_data.proofs.PickedContents.{nulls_picked, truths_picked, numbers_picked, decimals_picked, texts_picked, lists_picked, fixed_picked, structs_picked, structs_counted, storage_picked, constant_picked, none_picked, lighter, lists_shape, made_of, nullable_mask, rows_len, texts_count, under_mask}
use Rattle.vortex_array_data.proofs.PickedParts.{lists_joined, lists_range, lists_taken, offset_starts}
use Rattle.vortex_array_data.proofs.PickedRows.{elements_much, elements_refused, err_is, fixed_refused, lists_much, lists_refused, many_much, picks_below, places_refused, range_cut, range_spans, range_within, spans_within, storage_refused, structs_refused, texts_refused}
use Rattle.vortex_array_data.proofs.PlainNodes.{picked_plain}
use Rattle.vortex_array_data.proofs.PickLaws.{Below}
use Rattle.vortex_array_data.proofs.ShownRows.{below_shown}
use Rattle.vortex_array_data.proofs.pick_array.+pick.Goals as goal

pub pick-made-requires-clause-shape : goal.pick-made-requires-clause-shape
pick-made-requires-clause-shape t c =
    (made_of c.array.inside c.args.array.now (places_in c.args.picks.now) (term_of c.in_ok-dtype.dtype) c.count-rows.result
    c.in_ok-validity.validity c.in_ok-content.content c.array.invariant c.array.view_is
    (picks_below (length c.args.array.now.rows) c.args.picks.now c.requires)
    c.in_ok-dtype.ensures c.count-rows.ensures c.in_ok-validity.ensures c.in_ok-content.ensures).shape

pub pick-made-requires-clause-mask : goal.pick-made-requires-clause-mask
pick-made-requires-clause-mask t c =
    (made_of c.array.inside c.args.array.now (places_in c.args.picks.now) (term_of c.in_ok-dtype.dtype) c.count-rows.result
    c.in_ok-validity.validity c.in_ok-content.content c.array.invariant c.array.view_is
    (picks_below (length c.args.array.now.rows) c.args.picks.now c.requires)
    c.in_ok-dtype.ensures c.count-rows.ensures c.in_ok-validity.ensures c.in_ok-content.ensures).mask

pub pick-made-requires-clause-count : goal.pick-made-requires-clause-count
pick-made-requires-clause-count t c =
    (made_of c.array.inside c.args.array.now (places_in c.args.picks.now) (term_of c.in_ok-dtype.dtype) c.count-rows.result
    c.in_ok-validity.validity c.in_ok-content.content c.array.invariant c.array.view_is
    (picks_below (length c.args.array.now.rows) c.args.picks.now c.requires)
    c.in_ok-dtype.ensures c.count-rows.ensures c.in_ok-validity.ensures c.in_ok-content.ensures).count

pub pick-made-requires-clause-fit : goal.pick-made-requires-clause-fit
pick-made-requires-clause-fit t c =
    (made_of c.array.inside c.args.array.now (places_in c.args.picks.now) (term_of c.in_ok-dtype.dtype) c.count-rows.result
    c.in_ok-validity.validity c.in_ok-content.content c.array.invariant c.array.view_is
    (picks_below (length c.args.array.now.rows) c.args.picks.now c.requires)
    c.in_ok-dtype.ensures c.count-rows.ensures c.in_ok-validity.ensures c.in_ok-content.ensures).fit

pub pick-returns : goal.pick-returns
pick-returns t c = record {
  dtype = c.made.ensures.dtype ∙ c.in_ok-dtype.ensures ∙ ap (λ (a : Column). a.dtype) c.array.view_is;
  rows = c.made.ensures.rows
      ∙ (made_of c.array.inside c.args.array.now (places_in c.args.picks.now) (term_of c.in_ok-dtype.dtype) c.count-rows.result
      c.in_ok-validity.validity c.in_ok-content.content c.array.invariant c.array.view_is
      (picks_below (length c.args.array.now.rows) c.args.picks.now c.requires)
      c.in_ok-dtype.ensures c.count-rows.ensures c.in_ok-validity.ensures c.in_ok-content.ensures).same;
  canonical = picked_plain c.array.inside c.args.array.now
      (record { content = c.in_ok-content.content; validity = c.in_ok-validity.validity }) c.count-rows.result c.made.result.node c.array.view_is c.made.ensures.node
      c.in_ok-content.ensures.canonical;
}

pub picked_content-returns-in-Nulls : goal.picked_content-returns-in-Nulls
picked_content-returns-in-Nulls t c =
    rw c.in-Nulls.is (under_mask _ _ _ _ _ _ (rw c.in-Nulls.is at c.requires.shape) c.requires.mask
    (nulls_picked (term_of c.args.dtype.now) (places_in c.args.picks.now) c.args.n
    (picks_below c.args.n c.args.picks.now c.requires.picks) (rw c.in-Nulls.is at c.requires.shape)))

pub picked_content-returns-in_ok-picked_truths-in-Truths : goal.picked_content-returns-in_ok-picked_truths-in-Truths
picked_content-returns-in_ok-picked_truths-in-Truths t c =
    rw c.in-Truths.is (under_mask _ _ _ _ _ _ (rw c.in-Truths.is at c.requires.shape) c.requires.mask
    (truths_picked (term_of c.args.dtype.now) (places_in c.args.picks.now) c.args.n c.in-Truths.mask
    c.in_ok-picked_truths-in-Truths.field-0 (picks_below c.args.n c.args.picks.now c.requires.picks)
    (rw c.in-Truths.is at c.requires.shape) c.in_ok-picked_truths-in-Truths.ensures))

pub picked_content-returns-in_ok-numbers-in-Numbers : goal.picked_content-returns-in_ok-numbers-in-Numbers
picked_content-returns-in_ok-numbers-in-Numbers t c =
    rw c.in-Numbers.is (under_mask _ _ _ _ _ _ (rw c.in-Numbers.is at c.requires.shape) c.requires.mask
    (numbers_picked (term_of c.args.dtype.now) (places_in c.args.picks.now) c.args.n c.in-Numbers.numbers
    c.in_ok-numbers-in-Numbers.numbers (picks_below c.args.n c.args.picks.now c.requires.picks)
    (rw c.in-Numbers.is at c.requires.shape) c.in_ok-numbers-in-Numbers.ensures))

pub picked_content-returns-in_ok-decimals-in-Decimals : goal.picked_content-returns-in_ok-decimals-in-Decimals
picked_content-returns-in_ok-decimals-in-Decimals t c =
    rw c.in-Decimals.is (under_mask _ _ _ _ _ _ (rw c.in-Decimals.is at c.requires.shape) c.requires.mask
    (decimals_picked (term_of c.args.dtype.now) (places_in c.args.picks.now) c.args.n c.in-Decimals.decimals
    c.in_ok-decimals-in-Decimals.decimals (picks_below c.args.n c.args.picks.now c.requires.picks)
    (rw c.in-Decimals.is at c.requires.shape) c.in_ok-decimals-in-Decimals.ensures))

pub picked_content-returns-in_ok-texts-in-Texts : goal.picked_content-returns-in_ok-texts-in-Texts
picked_content-returns-in_ok-texts-in-Texts t c =
    rw c.in-Texts.is (texts_picked (term_of c.args.dtype.now) (places_in c.args.picks.now) c.args.n c.args.validity.now c.in-Texts.texts
    c.in_ok-texts-in-Texts.texts (rw c.in-Texts.is at c.requires.shape) c.in_ok-texts-in-Texts.ensures)

pub picked_content-picked_texts-requires : goal.picked_content-picked_texts-requires
picked_content-picked_texts-requires t c =
    let count = texts_count (term_of c.args.dtype.now) c.args.n c.in-Texts.texts (rw c.in-Texts.is at c.requires.shape) in
    record {
      mask = subst (λ n. IsMask n true c.args.validity.now) (sym count) (nullable_mask c.args.n _ c.args.validity.now c.requires.mask);
      picks = subst (λ n. ArePicks n c.args.picks.now) (sym count) c.requires.picks;
    }

pub picked_content-picked_lists-requires : goal.picked_content-picked_lists-requires
picked_content-picked_lists-requires t c = (
  omega (arith, rw c.in-Lists.is at c.decreases),
  (
    lists_shape (term_of c.args.dtype.now) c.args.n c.in-Lists.offsets c.in-Lists.elements (rw c.in-Lists.is at c.requires.shape),
    (nullable_mask c.args.n _ c.args.validity.now c.requires.mask, c.requires.picks),
  ),
)

pub picked_content-returns-in_err-texts-in-Texts : goal.picked_content-returns-in_err-texts-in-Texts
picked_content-returns-in_err-texts-in-Texts t c =
    err_is c.from_residual-in_err-texts-in-Texts.result _ _ c.in_err-texts-in-Texts.field-0.0
    c.from_residual-in_err-texts-in-Texts.ensures.1
    (texts_refused (term_of c.args.dtype.now) c.args.n c.args.validity.now c.args.content.now c.in-Texts.texts c.args.picks.now
    c.in_err-texts-in-Texts.field-0.0 c.in-Texts.is c.requires.shape c.requires.picks c.in_err-texts-in-Texts.ensures)

pub picked_content-returns-in_err-offsets-in-Lists : goal.picked_content-returns-in_err-offsets-in-Lists
picked_content-returns-in_err-offsets-in-Lists t c =
    err_is c.from_residual-in_err-offsets-in-Lists.result _ _ c.in_err-offsets-in-Lists.field-0.0
    c.from_residual-in_err-offsets-in-Lists.ensures.1
    (lists_refused (term_of c.args.dtype.now) c.args.n c.args.validity.now c.args.content.now c.in-Lists.offsets c.in-Lists.elements
    c.args.picks.now c.in_err-offsets-in-Lists.field-0.0 c.in-Lists.is c.requires.shape c.requires.picks
    c.in_err-offsets-in-Lists.ensures)

pub picked_content-returns-in_err-cut-in-FixedLists : goal.picked_content-returns-in_err-cut-in-FixedLists
picked_content-returns-in_err-cut-in-FixedLists t c =
    let refused : RefusesPick c.args.picks.now (λ ps. ColumnMuch c.in-FixedLists.elements.value (spans (λ (i : ℕ). i * c.in-FixedLists.size) ps)) c.in_err-cut-in-FixedLists.field-0.0 = search rules in
    let holds : Holds c.in-FixedLists.elements.value = search rules in
    err_is c.from_residual-in_err-cut-in-FixedLists.result _ _ c.in_err-cut-in-FixedLists.field-0.0
    c.from_residual-in_err-cut-in-FixedLists.ensures.1
    (fixed_refused (term_of c.args.dtype.now) c.args.n c.args.validity.now c.args.content.now c.in-FixedLists.size
    c.in-FixedLists.elements c.args.picks.now c.in_err-cut-in-FixedLists.field-0.0 c.in-FixedLists.is c.requires.shape
    c.requires.mask c.requires.picks holds refused)

pub picked_content-returns-in_err-cut-in-Storage : goal.picked_content-returns-in_err-cut-in-Storage
picked_content-returns-in_err-cut-in-Storage t c =
    let refused : RefusesPick c.args.picks.now (ColumnMuch c.in-Storage.array.value) c.in_err-cut-in-Storage.field-0.0 = search rules in
    err_is c.from_residual-in_err-cut-in-Storage.result _ _ c.in_err-cut-in-Storage.field-0.0
    c.from_residual-in_err-cut-in-Storage.ensures.1
    (storage_refused (term_of c.args.dtype.now) c.args.n c.args.validity.now c.args.content.now c.in-Storage.array
    c.args.picks.now c.in_err-cut-in-Storage.field-0.0 c.in-Storage.is c.requires.shape c.requires.mask c.requires.picks refused)

pub picked_fields-returns : goal.picked_fields-returns
picked_fields-returns t c =
    subst (λ (l : List Column). ArePickedColumns (places_in c.args.picks.now) c.args.fields.now l)
    (append-nil c.loop-rest.out.items)
    (c.loop-rest.invariant.same [] (none_picked (places_in c.args.picks.now) c.loop-rest.rest.now c.in_default.len_below))

pub pick-returns-then-rows : goal.pick-returns-then-rows
pick-returns-then-rows t c =
    let rows : length c.args.array.now.rows ≤ most_rows = omega (arith, c.array.invariant.holds.few, ap (λ (x : Column). length x.rows) c.array.view_is) in
    let many : most_rows < length (places_in c.args.picks.now) = omega (arith, c.if-rows.true, c.count-rows.ensures) in
    inr (refl, many_much c.args.array.now c.args.picks.now c.requires rows many)

pub pick-picked_content-requires : goal.pick-picked_content-requires
pick-picked_content-requires t c =
    let node : array_node_count (column_of c.array.inside).node ≡ array_node_count c.args.array.now.node =
    ap (λ (a : Column). array_node_count a.node) c.array.view_is in (
      omega (arith, lighter c.array.inside.len (mask_nodes c.array.inside.len c.array.inside.held.validity) c.array.inside.held.content, node, c.decreases),
      (c.array.invariant.shape, (c.array.invariant.mask, subst (λ n. ArePicks n c.args.picks.now) (rows_len c.array.inside c.args.array.now c.array.invariant c.array.view_is) c.requires)),
    )

pub picked_content-picked_fields-requires : goal.picked_content-picked_fields-requires
picked_content-picked_fields-requires t c = (
  rw c.deref-in-Structs.ensures.value (omega (arith, rw c.in-Structs.is at c.decreases)),
  (rw c.deref-in-Structs.ensures.value (structs_counted (term_of c.args.dtype.now) c.args.n c.in-Structs.fields (rw c.in-Structs.is at c.requires.shape)), c.requires.picks),
)

pub picked_content-returns-in_err-fields-in-Structs : goal.picked_content-returns-in_err-fields-in-Structs
picked_content-returns-in_err-fields-in-Structs t c =
    err_is c.from_residual-in_err-fields-in-Structs.result _ _ c.in_err-fields-in-Structs.field-0.0
    c.from_residual-in_err-fields-in-Structs.ensures.1
    (structs_refused (term_of c.args.dtype.now) c.args.n c.args.validity.now c.args.content.now c.in-Structs.fields
    c.args.picks.now c.in_err-fields-in-Structs.field-0.0 c.in-Structs.is c.requires.shape c.requires.mask c.requires.picks
    (subst (λ (cs : List Column). RefusesPick c.args.picks.now (AnyMuch cs) c.in_err-fields-in-Structs.field-0.0)
    c.deref-in-Structs.ensures.value c.in_err-fields-in-Structs.ensures))

pub picked_content-returns-in_ok-offsets-in-Lists : goal.picked_content-returns-in_ok-offsets-in-Lists
picked_content-returns-in_ok-offsets-in-Lists t c =
    rw c.in-Lists.is (lists_picked (term_of c.args.dtype.now) (places_in c.args.picks.now) c.args.n c.args.validity.now c.in-Lists.offsets
    c.in_ok-offsets-in-Lists.offsets c.in-Lists.elements c.in_ok-offsets-in-Lists.elements
    (rw c.in-Lists.is at c.requires.shape) c.in_ok-offsets-in-Lists.ensures)

pub picked_content-returns-in_ok-new-in-FixedLists : goal.picked_content-returns-in_ok-new-in-FixedLists
picked_content-returns-in_ok-new-in-FixedLists t c =
    let cut : IsPickedColumn (spans (λ (i : ℕ). i * c.in-FixedLists.size) (places_in c.args.picks.now)) c.in-FixedLists.elements.value c.in_ok-new-in-FixedLists.field-0.value = search rules in
    rw c.in-FixedLists.is (under_mask _ _ _ _ _ _ (rw c.in-FixedLists.is at c.requires.shape) c.requires.mask
    (fixed_picked (term_of c.args.dtype.now) (places_in c.args.picks.now) c.args.n c.in-FixedLists.size
    c.in-FixedLists.elements c.in_ok-new-in-FixedLists.field-0 (picks_below c.args.n c.args.picks.now c.requires.picks)
    (rw c.in-FixedLists.is at c.requires.shape) cut))

pub picked_content-returns-in_ok-fields-in-Structs : goal.picked_content-returns-in_ok-fields-in-Structs
picked_content-returns-in_ok-fields-in-Structs t c =
    rw c.in-Structs.is (under_mask _ _ _ _ _ _ (rw c.in-Structs.is at c.requires.shape) c.requires.mask
    (structs_picked (term_of c.args.dtype.now) (places_in c.args.picks.now) c.args.n c.in-Structs.fields
    c.in_ok-fields-in-Structs.fields (picks_below c.args.n c.args.picks.now c.requires.picks)
    (rw c.in-Structs.is at c.requires.shape) (search rules)))

pub picked_content-returns-in_ok-new-in-Storage : goal.picked_content-returns-in_ok-new-in-Storage
picked_content-returns-in_ok-new-in-Storage t c =
    let cut : IsPickedColumn (places_in c.args.picks.now) c.in-Storage.array.value c.in_ok-new-in-Storage.field-0.value = search rules in
    rw c.in-Storage.is (under_mask _ _ _ _ _ _ (rw c.in-Storage.is at c.requires.shape) c.requires.mask
    (storage_picked (term_of c.args.dtype.now) (places_in c.args.picks.now) c.args.n c.in-Storage.array
    c.in_ok-new-in-Storage.field-0 (picks_below c.args.n c.args.picks.now c.requires.picks)
    (rw c.in-Storage.is at c.requires.shape) cut))

pub picked_content-returns-in_ok-same_value-in-Constant : goal.picked_content-returns-in_ok-same_value-in-Constant
picked_content-returns-in_ok-same_value-in-Constant t c =
    rw c.in-Constant.is (under_mask _ _ _ _ _ _ (rw c.in-Constant.is at c.requires.shape) c.requires.mask
    (constant_picked (term_of c.args.dtype.now) (places_in c.args.picks.now) c.args.n c.in-Constant.value
    c.in_ok-same_value-in-Constant.field-0 (picks_below c.args.n c.args.picks.now c.requires.picks)
    (rw c.in-Constant.is at c.requires.shape) (search rules)))

pub picked_elements-returns-then-are_too_many : goal.picked_elements-returns-then-are_too_many
picked_elements-returns-then-are_too_many t c =
    inr (
      refl,
      elements_much (start_in c.args.parts.now) c.args.n c.args.elements.now c.in-Places.places c.args.picks.now
          c.in-Places.is c.requires.picks c.requires.parts.starts c.law.ensures.few (c.are_too_many.ensures c.if-are_too_many.true),
    )

pub picked_elements-pick-requires-in-Places : goal.picked_elements-pick-requires-in-Places
picked_elements-pick-requires-in-Places t c = (
  omega (arith, c.decreases),
  spans_within (start_in c.args.parts.now) c.args.n (length c.args.elements.now.rows) c.in-Places.places c.args.picks.now
      c.deref.result.now c.in-Places.is c.requires.picks c.requires.parts.starts (c.deref.ensures.value ∙ c.in_ok-spread-in-Places.ensures),
)

pub picked_elements-returns-in_err-cut-in-Places : goal.picked_elements-returns-in_err-cut-in-Places
picked_elements-returns-in_err-cut-in-Places t c =
    err_is c.from_residual-in_err-cut-in-Places.result _ _ c.in_err-cut-in-Places.field-0.0
    c.from_residual-in_err-cut-in-Places.ensures.1
    (places_refused (start_in c.args.parts.now) c.args.n c.in-Places.places c.deref.result c.args.picks.now
    c.args.elements.now c.in_err-cut-in-Places.field-0.0 c.in-Places.is c.requires.picks c.requires.parts.starts
    c.law.ensures.few (c.deref.ensures.value ∙ c.in_ok-spread-in-Places.ensures) c.in_err-cut-in-Places.ensures)

pub picked_elements-returns-in_ok-cut-in-Range : goal.picked_elements-returns-in_ok-cut-in-Range
picked_elements-returns-in_ok-cut-in-Range t c =
    range_spans (start_in c.args.parts.now) c.args.n (length c.args.elements.now.rows) c.in-Range.from c.in-Range.to
    c.args.picks.now c.args.elements.now c.in_ok-cut-in-Range.cut c.in-Range.is c.requires.picks c.requires.parts.starts
    (range_cut (start_in c.args.parts.now) c.in-Range.from c.in-Range.to c.start.result c.start-in-Range.result
    c.args.elements.now c.in_ok-cut-in-Range.cut c.start.ensures c.start-in-Range.ensures c.in_ok-cut-in-Range.ensures)

pub picked_lists-picked_elements-requires : goal.picked_lists-picked_elements-requires
picked_lists-picked_elements-requires t c =
    let same : c.deref.result.now ≡ c.args.elements.now.value = search rules in (
      omega (arith, c.decreases, ap (λ (a : Column). array_node_count a.node) same),
      (
        record {
          starts = offset_starts c.args.n (length c.deref.result.now.rows) c.args.offsets.now
              (subst (λ (a : Column). AreOffsets c.args.n (length a.rows) c.args.offsets.now) (sym same) c.requires.shape);
          rows = c.requires.shape.count;
        },
        c.requires.picks,
      ),
    )

pub picked_lists-returns-in_default : goal.picked_lists-returns-in_default
picked_lists-returns-in_default t c =
    let large : 2 ^ 32 ≤ sum (map (shown_size c.args.validity.now c.args.offsets.now) c.in-Places.places.now) = search rules in
    let few : length c.args.elements.now.value.rows ≤ most_rows = search rules in
    inr (
      refl,
      lists_much c.args.n c.args.validity.now c.args.offsets.now c.args.elements.now.value c.in-Places.places c.args.picks.now
          c.in-Places.is c.requires.picks c.requires.shape c.requires.mask few large,
    )

pub picked_lists-returns-in_ok-clone-in-Range : goal.picked_lists-returns-in_ok-clone-in-Range
picked_lists-returns-in_ok-clone-in-Range t c =
    let w = range_within c.args.n c.in-Range.from c.in-Range.to c.args.picks.now c.in-Range.is c.requires.picks in
    let same : c.in_ok-clone-in-Range.field-0.value ≡ c.args.elements.now.value = search rules in
    subst (λ (p : Picks). IsPickedLists (places_in p) c.args.validity.now c.args.offsets.now c.args.elements.now.value c.in_ok-offsets-in-Range.offsets c.in_ok-clone-in-Range.field-0.value)
    (sym c.in-Range.is)
    (lists_range c.args.n c.in-Range.from c.in-Range.to true c.args.validity.now c.args.offsets.now c.in_ok-offsets-in-Range.offsets
    c.args.elements.now.value c.in_ok-clone-in-Range.field-0.value c.requires.shape w.0 w.1 c.requires.mask
    c.in_ok-offsets-in-Range.ensures same)

pub picked_lists-returns-in_ok-new-in-Mask : goal.picked_lists-returns-in_ok-new-in-Mask
picked_lists-returns-in_ok-new-in-Mask t c =
    let cut : IsPickedColumn (spans (λ (i : ℕ). slice_index_or c.args.offsets.now i 0) (places_in c.args.picks.now)) c.args.elements.now.value c.in_ok-new-in-Mask.field-0.value = search rules in
    lists_joined c.args.n true c.args.validity.now c.args.offsets.now (places_in c.args.picks.now) _ c.args.elements.now.value
    c.in_ok-new-in-Mask.field-0.value c.requires.shape (picks_below c.args.n c.args.picks.now c.requires.picks) c.requires.mask
    (c.joined.view_is ∙ c.in_ok-joined-in-Mask.ensures
    ∙ ap (λ (p : Picks). joined_offsets (map (size_at c.args.offsets.now) (places_in p))) (sym c.in-Mask.is)) cut

pub picked_lists-picked_elements-requires-in-Places : goal.picked_lists-picked_elements-requires-in-Places
picked_lists-picked_elements-requires-in-Places t c =
    let same : c.deref-in-Places-2.result.now ≡ c.args.elements.now.value = c.deref-in-Places-2.ensures in
    let shown : c.deref-in-Places-3.result.now ≡ shown_places c.args.validity.now c.in-Places.places.now =
    c.deref-in-Places-3.ensures.value ∙ c.in_ok-shown-in-Places.ensures in (
      omega (arith, c.decreases, ap (λ (a : Column). array_node_count a.node) same),
      (
        record {
          starts = offset_starts c.args.n (length c.deref-in-Places-2.result.now.rows) c.args.offsets.now
              (subst (λ (a : Column). AreOffsets c.args.n (length a.rows) c.args.offsets.now) (sym same) c.requires.shape);
          rows = c.requires.shape.count;
        },
        subst (Below c.args.n) (sym shown)
            (below_shown c.args.n c.args.validity.now c.in-Places.places.now (subst (ArePicks c.args.n) c.in-Places.is c.requires.picks)),
      ),
    )

pub picked_lists-returns-in_ok-new-in-Places : goal.picked_lists-returns-in_ok-new-in-Places
picked_lists-returns-in_ok-new-in-Places t c =
    let cut : IsPickedColumn (spans (λ (i : ℕ). slice_index_or c.args.offsets.now i 0) (shown_places c.args.validity.now c.in-Places.places.now)) c.args.elements.now.value c.in_ok-new-in-Places.field-0.value = search rules in
    let from : c.in-Some.joined ≡ joined_offsets (map (shown_size c.args.validity.now c.args.offsets.now) c.in-Places.places.now) = search rules in
    lists_taken c.args.n c.args.validity.now c.args.offsets.now (places_in c.args.picks.now) _ c.args.elements.now.value
    c.in_ok-new-in-Places.field-0.value c.requires.shape (picks_below c.args.n c.args.picks.now c.requires.picks) c.requires.mask
    (c.joined-in-Places.view_is ∙ from
    ∙ ap (λ (p : Picks). joined_offsets (map (shown_size c.args.validity.now c.args.offsets.now) (places_in p))) (sym c.in-Places.is))
    (subst (λ (p : Picks). IsPickedColumn (spans (λ (i : ℕ). slice_index_or c.args.offsets.now i 0) (shown_places c.args.validity.now (places_in p))) c.args.elements.now.value c.in_ok-new-in-Places.field-0.value)
    (sym c.in-Places.is) cut)

pub picked_lists-returns-in_err-cut-in-Places : goal.picked_lists-returns-in_err-cut-in-Places
picked_lists-returns-in_err-cut-in-Places t c =
    let refused : RefusesPick (Places c.deref-in-Places-3.result) (λ ps. ColumnMuch c.args.elements.now.value (spans (λ (i : ℕ). slice_index_or c.args.offsets.now i 0) ps)) c.in_err-cut-in-Places.field-0.0 =
    subst (λ (x : Column). RefusesPick (Places c.deref-in-Places-3.result) (λ ps. ColumnMuch x (spans (λ (i : ℕ). slice_index_or c.args.offsets.now i 0) ps)) c.in_err-cut-in-Places.field-0.0)
    c.deref-in-Places-2.ensures c.in_err-cut-in-Places.ensures in
    err_is c.from_residual-in_err-cut-in-Places.result _ _ c.in_err-cut-in-Places.field-0.0
    c.from_residual-in_err-cut-in-Places.ensures.1
    (elements_refused c.args.n c.args.validity.now c.args.offsets.now c.args.elements.now.value c.in-Places.places
    c.deref-in-Places-3.result c.args.picks.now c.in_err-cut-in-Places.field-0.0 c.in-Places.is c.requires.picks
    c.requires.shape c.requires.mask (c.deref-in-Places-3.ensures.value ∙ c.in_ok-shown-in-Places.ensures) refused)
