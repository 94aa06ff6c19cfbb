use Rattle.std.proofs.Common.{◌≡◌, take, Some}
use Rattle.std.specs.BTreeMap.{get}
use Rattle.std.specs.Option.{option_eq}
use Rattle.vortex_codes.specs.Places.{place_of}
use Rattle.vortex_dict.proofs.numbers.order_of.Given as goal

abbrev pub invariant-loop-place : goal.invariant-loop-place
invariant-loop-place g l = (v : g.row.T.Denot) → get g.T.Ord.cmp l.ordered v ≡ place_of (option_eq g.T.PartialEq.eq) (Some v) (take l.place l.values)
