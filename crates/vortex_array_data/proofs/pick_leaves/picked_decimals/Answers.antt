use Rattle.vortex_array_data.proofs.PickedRows.{mask_numbers, places_numbers, range_numbers}
use Rattle.vortex_array_data.proofs.pick_leaves.picked_decimals.Goals as goal

pub returns-in_ok-slice-in-Range : goal.returns-in_ok-slice-in-Range
returns-in_ok-slice-in-Range c =
    range_numbers c.args.decimals.now c.in_ok-slice-in-Range.field-0 c.in-Range.from c.in-Range.to c.args.picks.now
    c.in-Range.is c.requires c.in_ok-slice-in-Range.ensures

pub returns-in_ok-filter-in-Mask : goal.returns-in_ok-filter-in-Mask
returns-in_ok-filter-in-Mask c =
    mask_numbers c.args.decimals.now c.in_ok-filter-in-Mask.field-0 c.in-Mask.mask c.args.picks.now c.in-Mask.is c.requires
    c.in_ok-filter-in-Mask.ensures

pub returns-in_ok-take-in-Places : goal.returns-in_ok-take-in-Places
returns-in_ok-take-in-Places c =
    places_numbers c.args.decimals.now c.in_ok-take-in-Places.field-0 c.in-Places.places c.args.picks.now c.in-Places.is
    c.requires c.in_ok-take-in-Places.ensures
