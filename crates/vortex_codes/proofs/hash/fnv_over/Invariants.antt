use Rattle.std.proofs.Common.{◌≡◌, drop}
use Rattle.vortex_codes.specs.Hash.{fnv}
use Rattle.vortex_codes.proofs.hash.fnv_over.Given as goal

abbrev pub invariant-loop-byte : goal.invariant-loop-byte
invariant-loop-byte l = fnv l.hash (drop l.byte-index l.bytes) ≡ fnv l.fn.start l.bytes
