use Rattle.std.proofs.Common.{◌≡◌, ◌<◌, length, get_or, add-one}
use Rattle.vortex_codes.proofs.SlotLemmas.{stops_free, is_free, filled, placed, one_less}
use Rattle.vortex_codes.proofs.slots.place.Goals.{After-walk-at}
use Rattle.vortex_codes.proofs.slots.place.Goals as goal

within : (c : After-walk-at) → c.walk-at.result < length c.args.slots.now
within c = stops_free _ _ _ c.requires.free c.walk-at.ensures.within c.walk-at.ensures.walked

free : (c : After-walk-at) → get_or c.args.slots.now c.walk-at.result 0 ≡ 0
free c = is_free _ (c.walk-at.ensures.stops (within c))

pub bounds-slots-at : goal.bounds-slots-at
bounds-slots-at c = within c

pub returns-clause-more : goal.returns-clause-more
returns-clause-more c = rw add-one (filled _ _ _ (free c) (within c))

pub returns-clause-placed : goal.returns-clause-placed
returns-clause-placed c = rw add-one (placed _ _ _ _ (free c) (within c) c.walk-at.ensures.walked)

pub returns-clause-free : goal.returns-clause-free
returns-clause-free c = rw (add-one c.args.code) (one_less _ _ _ (free c) (within c))

pub returns-clause-slot : goal.returns-clause-slot
returns-clause-slot c = within c
