use Rattle.vortex_codes.specs.Keys.{key_at}
use Rattle.vortex_codes.specs.Table.{IsIndex}
use Rattle.vortex_codes.proofs.hashed.fill.Given as goal

abbrev pub invariant-loop-code : goal.invariant-loop-code
invariant-loop-code g l = IsIndex (g.H.KeyHash.hash_of l.hash) (key_at l.bytes l.offsets l.null) l.code l.slots
