use Rattle.std.proofs.Common.{◌∙◌, false, length, refl}
use Rattle.vortex_array_data.proofs.PickedRows.{mask_picks, places_picked, range_picked}
use Rattle.vortex_array_data.proofs.pick_leaves.picked_truths.Goals as goal

pub returns-in-Ok : goal.returns-in-Ok
returns-in-Ok c =
    c.in-Ok.ensures
    ∙ range_picked (length c.args.mask.now) c.in-Range.from c.in-Range.to c.args.picks.now c.args.mask.now c.in-Range.is
    c.requires refl

pub returns-in-Ok-filter : goal.returns-in-Ok-filter
returns-in-Ok-filter c =
    c.in-Ok-filter.ensures
    ∙ mask_picks (length c.args.mask.now) c.in-Mask.keep c.args.picks.now c.args.mask.now c.in-Mask.is c.requires refl

pub returns-in-Ok-take : goal.returns-in-Ok-take
returns-in-Ok-take c =
    c.in-Ok-take.ensures
    ∙ places_picked (length c.args.mask.now) c.in-Places.places c.args.picks.now c.args.mask.now false c.in-Places.is
    c.requires refl
