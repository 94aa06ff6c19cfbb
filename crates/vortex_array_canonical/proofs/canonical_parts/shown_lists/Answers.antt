use Rattle.std.proofs.Common.{rules, ◌≡◌, ◌≤◌, ◌-◌, ◌^◌, ◌∙◌, inr, ℕ, List, refl, length, map, subst, sym, ap, arith}
use Rattle.std.specs.Prelude.{slice_index_or}
use Rattle.std.specs.List.{sum}
use Rattle.vortex_leaves.specs.Selected.{joined_offsets, shown_size}
use Rattle.vortex_array_data.specs.declared.pick_rows.Picks.TheVariants.{Places}
use Rattle.vortex_array_data.specs.inner.Picked.{from_on, shown_places, IsPickedColumn}
use Rattle.vortex_array_data.specs.inner.Spans.{spans}
use Rattle.vortex_array_data.proofs.PickLaws.{Below}
use Rattle.vortex_array_data.proofs.PickedParts.{offset_starts}
use Rattle.vortex_array_data.proofs.PickedRows.{err_is, places_within}
use Rattle.vortex_array_data.proofs.ShownRows.{below_shown}
use Rattle.vortex_array_canonical.proofs.CanonicalRows.{all_below, elements_shown, shown_kept, shown_large}
use Rattle.vortex_array_canonical.proofs.canonical_parts.shown_lists.Goals as goal

pub take-requires-clause-in_range : goal.take-requires-clause-in_range
take-requires-clause-in_range c =
    let all : c.deref.result.now ≡ from_on (c.args.n - 0) 0 = c.deref.ensures.value ∙ c.in_ok-places.ensures in
    λ k d l.
    omega (
      arith,
      places_within c.args.n c.deref.result (Places c.deref.result) refl (subst (Below c.args.n) (sym all) (all_below c.args.n)) k d l,
      c.requires.shape.count,
    )

pub returns-in_default : goal.returns-in_default
returns-in_default c =
    let all : c.deref.result.now ≡ from_on (c.args.n - 0) 0 = c.deref.ensures.value ∙ c.in_ok-places.ensures in
    let large : 2 ^ 32 ≤ sum (map (shown_size c.args.validity.now c.args.offsets.now) c.deref.result.now) = search rules in
    inr (
      refl,
      shown_large c.args.n c.args.validity.now c.args.offsets.now c.args.elements.now c.deref.result c.requires.shape c.requires.mask
          c.law.ensures.few all large,
    )

pub valid_places-requires-clause-in_range : goal.valid_places-requires-clause-in_range
valid_places-requires-clause-in_range c =
    let all : c.deref-2.result.now ≡ from_on (c.args.n - 0) 0 = c.deref-2.ensures.value ∙ c.in_ok-places.ensures in
    places_within c.args.n c.deref-2.result (Places c.deref-2.result) refl (subst (Below c.args.n) (sym all) (all_below c.args.n))

pub picked_elements-requires-clause-parts : goal.picked_elements-requires-clause-parts
picked_elements-requires-clause-parts c = record {
  starts = offset_starts c.args.n (length c.args.elements.now.rows) c.args.offsets.now c.requires.shape;
  rows = c.requires.shape.count;
}

pub picked_elements-requires-clause-picks : goal.picked_elements-requires-clause-picks
picked_elements-requires-clause-picks c =
    let all : c.deref-2.result.now ≡ from_on (c.args.n - 0) 0 = c.deref-2.ensures.value ∙ c.in_ok-places.ensures in
    subst (Below c.args.n) (sym (c.deref-3.ensures.value ∙ c.in_ok-shown.ensures))
    (below_shown c.args.n c.args.validity.now c.deref-2.result.now (subst (Below c.args.n) (sym all) (all_below c.args.n)))

pub returns-in_err-cut : goal.returns-in_err-cut
returns-in_err-cut c =
    err_is c.from_residual-in_err-cut.result _ _ c.in_err-cut.field-0.0 c.from_residual-in_err-cut.ensures.1
    (elements_shown c.args.n c.args.validity.now c.args.offsets.now c.args.elements.now c.deref-2.result c.deref-3.result
    c.in_err-cut.field-0.0 c.requires.shape c.requires.mask (c.deref-2.ensures.value ∙ c.in_ok-places.ensures)
    (c.deref-3.ensures.value ∙ c.in_ok-shown.ensures) c.in_err-cut.ensures)

pub returns : goal.returns
returns c =
    let all : c.deref-2.result.now ≡ from_on (c.args.n - 0) 0 = c.deref-2.ensures.value ∙ c.in_ok-places.ensures in
    let same : c.deref.result.now ≡ c.deref-2.result.now = c.deref.ensures.value ∙ sym c.deref-2.ensures.value in
    let from : c.in-Some.joined ≡ joined_offsets (map (shown_size c.args.validity.now c.args.offsets.now) c.deref.result.now) = search rules in
    let cut : IsPickedColumn (spans (λ (i : ℕ). slice_index_or c.args.offsets.now i 0) (shown_places c.args.validity.now c.deref-2.result.now)) c.args.elements.now c.in_ok-cut.cut =
    subst (λ (qs : List ℕ). IsPickedColumn (spans (λ (i : ℕ). slice_index_or c.args.offsets.now i 0) qs) c.args.elements.now c.in_ok-cut.cut)
    (c.deref-3.ensures.value ∙ c.in_ok-shown.ensures) c.in_ok-cut.ensures in
    shown_kept c.args.n c.args.validity.now c.args.offsets.now c.in-Some.joined c.deref-2.result.now c.args.elements.now c.in_ok-cut.cut
    c.requires.shape c.requires.mask all
    (from ∙ ap (λ (l : List ℕ). joined_offsets (map (shown_size c.args.validity.now c.args.offsets.now) l)) same) cut
