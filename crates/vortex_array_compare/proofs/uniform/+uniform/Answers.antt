use Rattle.std.proofs.Common.{◌∙◌, Some, refl, sym, ap, subst, arith}
use Rattle.vortex_types.specs.DTypes.{term_of}
use Rattle.vortex_array_data.specs.Column.{Column}
use Rattle.vortex_array_compare.specs.inner.AlikeRows.{AreAlike}
use Rattle.vortex_array_data.proofs.HeldParts.{fields_in}
use Rattle.vortex_array_data.proofs.HeldValues.{fixed_in, struct_lighter}
use Rattle.vortex_array_compare.proofs.ComparedPlaces.{fields_rows}
use Rattle.vortex_array_compare.proofs.AlikeRows.{held_alike, nulls_alike, constant_alike, truths_alike, fixed_alike, structs_alike}
use Rattle.vortex_array_compare.proofs.uniform.+uniform.Goals as goal

pub is_uniform-returns-in-Nulls : goal.is_uniform-returns-in-Nulls
is_uniform-returns-in-Nulls t c =
    λ h.
    held_alike c.array.inside c.args.array.now _ c.array.view_is c.if-not-is_even_validity.ensures refl
    (nulls_alike c.array.inside.held.content (term_of c.array.inside.dtype) c.array.inside.len c.in-Nulls.is)

pub is_uniform-returns-in-Constant : goal.is_uniform-returns-in-Constant
is_uniform-returns-in-Constant t c =
    λ h.
    held_alike c.array.inside c.args.array.now _ c.array.view_is c.if-not-is_even_validity.ensures refl
    (constant_alike c.array.inside.held.content (term_of c.array.inside.dtype) c.array.inside.len c.in-Constant.field-0 c.in-Constant.is)

pub is_uniform-returns-in-Truths : goal.is_uniform-returns-in-Truths
is_uniform-returns-in-Truths t c =
    λ h.
    held_alike c.array.inside c.args.array.now _ c.array.view_is c.if-not-is_even_validity.ensures refl
    (truths_alike c.array.inside.held.content (term_of c.array.inside.dtype) c.array.inside.len c.in-Truths.mask c.in-Truths.is (sym c.is_even.ensures ∙ h))

pub is_uniform-returns-in-FixedLists : goal.is_uniform-returns-in-FixedLists
is_uniform-returns-in-FixedLists t c =
    λ h.
    held_alike c.array.inside c.args.array.now _ c.array.view_is c.if-not-is_even_validity.ensures refl
    (fixed_alike c.array.inside.held.content (term_of c.array.inside.dtype) c.array.inside.len (c.in-FixedLists.field-0, c.deref.result.now)
    (ap fixed_in c.in-FixedLists.is ∙ ap (λ (e : Column). Some (c.in-FixedLists.field-0, e)) (sym c.deref.ensures))
    c.array.invariant.shape (c.is_uniform.ensures h))

pub is_uniform-returns-in-Structs : goal.is_uniform-returns-in-Structs
is_uniform-returns-in-Structs t c =
    λ h.
    held_alike c.array.inside c.args.array.now _ c.array.view_is c.if-not-is_even_validity.ensures refl
    (subst AreAlike (sym (fields_rows c.array.inside.held.content c.deref-in-Structs.result.now (term_of c.array.inside.dtype) c.array.inside.len
    (ap fields_in c.in-Structs.is ∙ ap Some (sym c.deref-in-Structs.ensures.value))))
    (structs_alike c.array.inside.len c.deref-in-Structs.result.now (c.are_uniform.ensures h)))

pub is_uniform-are_uniform-requires : goal.is_uniform-are_uniform-requires
is_uniform-are_uniform-requires t c = (
  omega (
    arith,
    c.decreases,
    struct_lighter c.array.inside c.args.array.now c.deref-in-Structs.result.now c.array.view_is
        (ap fields_in c.in-Structs.is ∙ ap Some (sym c.deref-in-Structs.ensures.value)),
  ),
  tt,
)
