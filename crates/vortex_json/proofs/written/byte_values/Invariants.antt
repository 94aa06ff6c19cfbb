use Rattle.vortex_json.specs.Written.{count_json}
use Rattle.vortex_json.proofs.Listed.{Written}
use Rattle.vortex_json.proofs.written.byte_values.Given as goal

abbrev pub invariant-loop-byte : goal.invariant-loop-byte
invariant-loop-byte l = Written count_json l.bytes l.byte-index l.values.items
