use Rattle.std.proofs.Common.{◌≡◌, ◌++◌, take}
use Rattle.vortex_types.proofs.projection.joined_names.Given as goal

abbrev pub invariant-loop-name : goal.invariant-loop-name
invariant-loop-name l = l.joined.items ≡ take l.name-index l.names

abbrev pub invariant-loop-name-2 : goal.invariant-loop-name-2
invariant-loop-name-2 l = l.joined.items ≡ l.fn.names ++ take l.name-index l.others
