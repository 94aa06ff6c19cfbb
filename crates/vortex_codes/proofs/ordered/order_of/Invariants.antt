use Rattle.vortex_codes.specs.Keys.{key_at}
use Rattle.vortex_codes.specs.Table.{IsOrder}
use Rattle.vortex_codes.proofs.ordered.order_of.Given as goal

abbrev pub invariant-loop-code : goal.invariant-loop-code
invariant-loop-code l = IsOrder (key_at l.bytes l.offsets l.null) l.code l.codes
