use Rattle.std.proofs.Common.{◌∙◌, ◌-◌, ap, sym, length}
use Rattle.vortex_mask.proofs.Rests.{length-places}
use Rattle.vortex_array_data.specs.declared.pick_rows.Picks.{Picks}
use Rattle.vortex_array_data.specs.inner.PickedPlaces.{places_in}
use Rattle.vortex_array_data.proofs.PickLaws.{length-from_on}
use Rattle.vortex_array_data.proofs.pick_rows.count.Goals as goal

pub returns-in-Range : goal.returns-in-Range
returns-in-Range c =
    sym (length-from_on (c.in-Range.to - c.in-Range.from) c.in-Range.from)
    ∙ sym (ap (λ (p : Picks). length (places_in p)) c.in-Range.is)

pub returns-in-Mask : goal.returns-in-Mask
returns-in-Mask c =
    c.true_count.ensures ∙ sym (length-places 0 c.in-Mask.mask.now)
    ∙ sym (ap (λ (p : Picks). length (places_in p)) c.in-Mask.is)
