use Rattle.std.proofs.Common.{rules, ◌≡◌, ◌≤◌, ◌^◌, Fits, w32, inr, length, refl}
use Rattle.std.specs.List.{flat_map}
use Rattle.vortex_leaves.specs.Selected.{taken_pieces}
use Rattle.vortex_leaves.specs.Texts.{text_pieces}
use Rattle.vortex_array_data.proofs.PickedRows.{mask_texts, places_texts, range_texts, texts_much}
use Rattle.vortex_array_data.proofs.pick_leaves.picked_texts.Goals as goal

pub returns-in_ok-slice-in-Range : goal.returns-in_ok-slice-in-Range
returns-in_ok-slice-in-Range c =
    range_texts c.args.validity.now c.args.texts.now c.in_ok-slice-in-Range.field-0 c.in-Range.from c.in-Range.to c.args.picks.now
    c.in-Range.is c.requires.picks c.requires.mask c.in_ok-slice-in-Range.ensures

pub returns-in_ok-filter-in-Mask : goal.returns-in_ok-filter-in-Mask
returns-in_ok-filter-in-Mask c =
    mask_texts c.args.validity.now c.args.texts.now c.in_ok-filter-in-Mask.field-0 c.in-Mask.mask c.args.picks.now c.in-Mask.is
    c.requires.picks c.requires.mask c.in_ok-filter-in-Mask.ensures

pub returns-in-Some : goal.returns-in-Some
returns-in-Some c =
    let same : text_pieces c.in-Some.texts ≡ taken_pieces c.args.validity.now c.in-Places.places.now (text_pieces c.args.texts.now) = search rules in
    places_texts c.args.validity.now c.args.texts.now c.in-Some.texts c.in-Places.places c.args.picks.now c.in-Places.is
    c.requires.picks c.requires.mask same

pub returns-in-None : goal.returns-in-None
returns-in-None c =
    let large : 2 ^ 32 ≤ length (flat_map (λ p. p) (taken_pieces c.args.validity.now c.in-Places.places.now (text_pieces c.args.texts.now))) = search rules in
    let few : Fits w32 c.get-last.result = search rules in
    inr (
      refl,
      texts_much c.args.validity.now c.args.texts.now c.in-Places.places c.args.picks.now c.get-last.result c.in-Places.is
          c.requires.picks c.requires.mask c.law.ensures (search rules) few.fits large,
    )
