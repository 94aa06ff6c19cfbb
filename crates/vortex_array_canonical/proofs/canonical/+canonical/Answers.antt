use Rattle.std.proofs.Common.{rules, ◌≡◌, ◌∙◌, true, false, List, [], length, sym, ap, subst, arith}
use Rattle.std.proofs.lemmas.List.{append-nil}
use Rattle.vortex_types.specs.DTypes.{term_of}
use Rattle.vortex_terms.specs.Weight.{weight}
use Rattle.vortex_array_data.specs.Column.{Column, Holds}
use Rattle.vortex_array_data.specs.Content.{column_of}
use Rattle.vortex_array_data.specs.inner.Picked.{is_plain_content}
use Rattle.vortex_array_canonical.specs.Canonical.{IsCanonicalOf, RefusesCanonical}
use Rattle.vortex_array_data.specs.Constants.{is_canonical}
use Rattle.vortex_array_canonical.specs.inner.SameRows.{AreCanonicalOf, AreShownLists, RefusesColumns}
use Rattle.vortex_array_data.proofs.PickedContents.{lists_shape, nullable_mask}
use Rattle.vortex_array_data.proofs.PickedRows.{err_is}
use Rattle.vortex_array_canonical.proofs.CanonicalRows.{constant_is, constant_result, fixed_kept, fixed_lighter, fixed_refused, laid_refused, leaf_result, lists_canonical, lists_lighter, lists_refused, none_kept, rebuilt_of, rebuilt_plain, rebuilt_refused, some_constant, storage_kept, storage_refused, structs_kept, structs_lighter, structs_refused}
use Rattle.vortex_array_canonical.proofs.canonical.+canonical.Goals as goal

pub canonical-rebuilt-requires : goal.canonical-rebuilt-requires
canonical-rebuilt-requires t c = (
  omega (arith, c.decreases),
  constant_is c.array.inside c.args.array.now c.array.view_is ∙ sym c.constant_value.ensures.there ∙ search rules,
)

pub canonical-returns : goal.canonical-returns
canonical-returns t c =
    constant_result c.array.inside c.args.array.now c.in-Some.value.now c.repeated.result c.array.view_is c.in-Some.ensures.value
    c.repeated.ensures

pub rebuilt-canonical_content-requires : goal.rebuilt-canonical_content-requires
rebuilt-canonical_content-requires t c =
    let same : term_of c.array.inside.dtype ≡ c.args.array.now.dtype = ap (λ (a : Column). a.dtype) c.array.view_is in
    let rows : length (column_of c.array.inside).rows ≡ length c.args.array.now.rows = ap (λ (a : Column). length a.rows) c.array.view_is in (
      omega (arith, c.decreases, ap weight same),
      (c.array.invariant.shape, (c.array.invariant.mask, omega (arith, c.array.invariant.holds.few, c.array.invariant.count))),
    )

pub rebuilt-made-requires-clause-shape : goal.rebuilt-made-requires-clause-shape
rebuilt-made-requires-clause-shape t c =
    (rebuilt_of c.array.inside c.args.array.now (term_of c.in_ok-dtype.dtype) c.in_ok-validity.validity c.in_ok-content.content
    c.array.invariant c.array.view_is c.in_ok-dtype.ensures c.in_ok-validity.ensures c.in_ok-content.ensures).shape

pub rebuilt-made-requires-clause-mask : goal.rebuilt-made-requires-clause-mask
rebuilt-made-requires-clause-mask t c =
    (rebuilt_of c.array.inside c.args.array.now (term_of c.in_ok-dtype.dtype) c.in_ok-validity.validity c.in_ok-content.content
    c.array.invariant c.array.view_is c.in_ok-dtype.ensures c.in_ok-validity.ensures c.in_ok-content.ensures).mask

pub rebuilt-made-requires-clause-count : goal.rebuilt-made-requires-clause-count
rebuilt-made-requires-clause-count t c =
    (rebuilt_of c.array.inside c.args.array.now (term_of c.in_ok-dtype.dtype) c.in_ok-validity.validity c.in_ok-content.content
    c.array.invariant c.array.view_is c.in_ok-dtype.ensures c.in_ok-validity.ensures c.in_ok-content.ensures).count

pub rebuilt-made-requires-clause-fit : goal.rebuilt-made-requires-clause-fit
rebuilt-made-requires-clause-fit t c =
    (rebuilt_of c.array.inside c.args.array.now (term_of c.in_ok-dtype.dtype) c.in_ok-validity.validity c.in_ok-content.content
    c.array.invariant c.array.view_is c.in_ok-dtype.ensures c.in_ok-validity.ensures c.in_ok-content.ensures).fit

pub rebuilt-returns : goal.rebuilt-returns
rebuilt-returns t c = record {
  dtype = c.made.ensures.dtype ∙ c.in_ok-dtype.ensures ∙ ap (λ (a : Column). a.dtype) c.array.view_is;
  rows = c.made.ensures.rows
      ∙ (rebuilt_of c.array.inside c.args.array.now (term_of c.in_ok-dtype.dtype) c.in_ok-validity.validity c.in_ok-content.content
      c.array.invariant c.array.view_is c.in_ok-dtype.ensures c.in_ok-validity.ensures c.in_ok-content.ensures).same;
  canonical = rebuilt_plain c.array.inside c.args.array.now
      (record { content = c.in_ok-content.content; validity = c.in_ok-validity.validity }) c.array.inside.len c.made.result.node
      c.array.view_is c.requires c.made.ensures.node c.in_ok-content.ensures.canonical;
}

pub rebuilt-returns-in_err-content : goal.rebuilt-returns-in_err-content
rebuilt-returns-in_err-content t c =
    err_is c.from_residual.result _ _ c.in_err-content.field-0.0 c.from_residual.ensures.1
    (rebuilt_refused c.array.inside c.args.array.now c.in_err-content.field-0.0 c.array.view_is c.in_err-content.ensures)

pub canonical_content-returns-in-Nulls : goal.canonical_content-returns-in-Nulls
canonical_content-returns-in-Nulls t c =
    leaf_result (term_of c.args.dtype.now) c.args.n c.args.validity.now c.args.content.now c.same_leaf.result (λ _. ap is_plain_content c.in-Nulls.is) c.same_leaf.ensures

pub canonical_content-canonical_lists-requires : goal.canonical_content-canonical_lists-requires
canonical_content-canonical_lists-requires t c =
    let shape = rw c.in-Lists.is at c.requires.shape in (
      omega (arith, c.decreases, lists_lighter (term_of c.args.dtype.now) c.args.n c.in-Lists.offsets c.in-Lists.elements shape),
      (
        lists_shape (term_of c.args.dtype.now) c.args.n c.in-Lists.offsets c.in-Lists.elements shape,
        (nullable_mask c.args.n _ c.args.validity.now c.requires.mask, c.requires.few),
      ),
    )

pub canonical_content-returns-in_ok-offsets-in-Lists : goal.canonical_content-returns-in_ok-offsets-in-Lists
canonical_content-returns-in_ok-offsets-in-Lists t c =
    rw c.in-Lists.is (lists_canonical (term_of c.args.dtype.now) c.args.n c.args.validity.now c.in-Lists.offsets
    c.in_ok-offsets-in-Lists.offsets c.in-Lists.elements c.in_ok-offsets-in-Lists.elements
    (rw c.in-Lists.is at c.requires.shape) c.in_ok-offsets-in-Lists.ensures)

pub canonical_content-returns-in_err-offsets-in-Lists : goal.canonical_content-returns-in_err-offsets-in-Lists
canonical_content-returns-in_err-offsets-in-Lists t c =
    err_is c.from_residual.result _ _ c.in_err-offsets-in-Lists.field-0.0
    c.from_residual.ensures.1
    (rw c.in-Lists.is (lists_refused (term_of c.args.dtype.now) c.args.n c.args.validity.now c.in-Lists.offsets c.in-Lists.elements
    c.in_err-offsets-in-Lists.field-0.0 (rw c.in-Lists.is at c.requires.shape) c.in_err-offsets-in-Lists.ensures))

pub canonical_content-canonical-requires : goal.canonical_content-canonical-requires
canonical_content-canonical-requires t c =
    let same : c.deref-in-FixedLists.result.now ≡ c.in-FixedLists.elements.value = c.deref-in-FixedLists.ensures in (
      omega (
        arith,
        c.decreases,
        fixed_lighter (term_of c.args.dtype.now) c.args.n c.in-FixedLists.size c.in-FixedLists.elements (rw c.in-FixedLists.is at c.requires.shape),
        ap (λ (a : Column). weight a.dtype) same,
      ),
      tt,
    )

pub canonical_content-returns-in_ok-new-in-FixedLists : goal.canonical_content-returns-in_ok-new-in-FixedLists
canonical_content-returns-in_ok-new-in-FixedLists t c =
    let inside : IsCanonicalOf c.in-FixedLists.elements.value c.in_ok-new-in-FixedLists.field-0.value = search rules in
    rw c.in-FixedLists.is (fixed_kept (term_of c.args.dtype.now) c.args.n c.args.validity.now c.in-FixedLists.size
    c.in-FixedLists.elements c.in_ok-new-in-FixedLists.field-0 (rw c.in-FixedLists.is at c.requires.shape) inside)

pub canonical_content-returns-in_err-elements-in-FixedLists : goal.canonical_content-returns-in_err-elements-in-FixedLists
canonical_content-returns-in_err-elements-in-FixedLists t c =
    let holds : Holds c.in-FixedLists.elements.value = search rules in
    let refused : RefusesCanonical c.in-FixedLists.elements.value c.in_err-elements-in-FixedLists.field-0.0 = search rules in
    err_is c.from_residual-in_err-elements-in-FixedLists.result _ _ c.in_err-elements-in-FixedLists.field-0.0
    c.from_residual-in_err-elements-in-FixedLists.ensures.1
    (rw c.in-FixedLists.is (fixed_refused (term_of c.args.dtype.now) c.args.n c.args.validity.now c.in-FixedLists.size
    c.in-FixedLists.elements c.in_err-elements-in-FixedLists.field-0.0 (rw c.in-FixedLists.is at c.requires.shape)
    c.requires.mask holds refused))

pub canonical_content-returns-in_ok-fields-in-Structs : goal.canonical_content-returns-in_ok-fields-in-Structs
canonical_content-returns-in_ok-fields-in-Structs t c =
    rw c.in-Structs.is (structs_kept (term_of c.args.dtype.now) c.args.n c.args.validity.now c.in-Structs.fields
    c.in_ok-fields-in-Structs.fields (rw c.in-Structs.is at c.requires.shape) (search rules))

pub canonical_content-returns-in_err-fields-in-Structs : goal.canonical_content-returns-in_err-fields-in-Structs
canonical_content-returns-in_err-fields-in-Structs t c =
    let refused : RefusesColumns c.in-Structs.fields.items c.in_err-fields-in-Structs.field-0.0 = search rules in
    err_is c.from_residual-in_err-fields-in-Structs.result _ _ c.in_err-fields-in-Structs.field-0.0
    c.from_residual-in_err-fields-in-Structs.ensures.1
    (rw c.in-Structs.is (structs_refused (term_of c.args.dtype.now) c.args.n c.args.validity.now c.in-Structs.fields
    c.in_err-fields-in-Structs.field-0.0 (rw c.in-Structs.is at c.requires.shape) c.requires.mask refused))

pub canonical_content-returns-in_ok-new-in-Storage : goal.canonical_content-returns-in_ok-new-in-Storage
canonical_content-returns-in_ok-new-in-Storage t c =
    let inside : IsCanonicalOf c.in-Storage.storage.value c.in_ok-new-in-Storage.field-0.value = search rules in
    rw c.in-Storage.is (storage_kept (term_of c.args.dtype.now) c.args.n c.args.validity.now c.in-Storage.storage
    c.in_ok-new-in-Storage.field-0 (rw c.in-Storage.is at c.requires.shape) inside)

pub canonical_content-returns-in_err-storage-in-Storage : goal.canonical_content-returns-in_err-storage-in-Storage
canonical_content-returns-in_err-storage-in-Storage t c =
    let refused : RefusesCanonical c.in-Storage.storage.value c.in_err-storage-in-Storage.field-0.0 = search rules in
    err_is c.from_residual-in_err-storage-in-Storage.result _ _ c.in_err-storage-in-Storage.field-0.0
    c.from_residual-in_err-storage-in-Storage.ensures.1
    (rw c.in-Storage.is (storage_refused (term_of c.args.dtype.now) c.args.n c.args.validity.now c.in-Storage.storage
    c.in_err-storage-in-Storage.field-0.0 (rw c.in-Storage.is at c.requires.shape) c.requires.mask refused))

pub canonical_content-canonical_fields-requires : goal.canonical_content-canonical_fields-requires
canonical_content-canonical_fields-requires t c = (
  rw c.deref-in-Structs.ensures.value (omega (
    arith,
    c.decreases,
    structs_lighter (term_of c.args.dtype.now) c.args.n c.in-Structs.fields (rw c.in-Structs.is at c.requires.shape),
  )),
  tt,
)

pub canonical_fields-returns : goal.canonical_fields-returns
canonical_fields-returns t c =
    subst (λ (l : List Column). AreCanonicalOf c.args.fields.now l) (append-nil c.loop-rest.out.items)
    (c.loop-rest.invariant.same [] (none_kept c.loop-rest.rest.now c.in_default.len_below))

pub canonical_lists-returns-in_err-elements : goal.canonical_lists-returns-in_err-elements
canonical_lists-returns-in_err-elements t c =
    let yes : c.has_constant.result ≡ true = search rules in
    let constant : is_canonical c.args.elements.now.value.node ≡ false =
    subst (λ (x : Column). is_canonical x.node ≡ false) c.deref.ensures
    (some_constant (is_canonical c.deref.result.now.node) c.has_constant.result c.has_constant.ensures yes) in
    err_is c.from_residual-in_err-elements.result _ _ c.in_err-elements.field-0.0 c.from_residual-in_err-elements.ensures.1
    (laid_refused c.args.n c.args.validity.now c.args.offsets.now c.in_ok-offsets-2.offsets c.args.elements.now.value
    c.in_ok-offsets-2.shown c.in_err-elements.field-0.0 constant
    (subst (λ (x : Column). AreShownLists c.args.n c.args.validity.now c.args.offsets.now x c.in_ok-offsets-2.offsets c.in_ok-offsets-2.shown)
    c.deref-2.ensures c.in_ok-offsets-2.ensures)
    c.in_err-elements.ensures)
