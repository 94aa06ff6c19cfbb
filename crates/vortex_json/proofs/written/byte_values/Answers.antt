use Rattle.std.proofs.Common.{◌+◌, List, sym, subst, arith}
use Rattle.serde_json.specs.declared.value.Value.{Value}
use Rattle.vortex_json.specs.Written.{count_json}
use Rattle.vortex_json.proofs.Listed.{Written, written_on, written_all}
use Rattle.vortex_json.proofs.written.byte_values.Goals as goal

pub loop-byte-preserved : goal.loop-byte-preserved
loop-byte-preserved c =
    let bytes = c.args.bytes.now in
    subst (Written count_json bytes (c.loop-byte.byte-index + 1)) (sym {A = List Value} c.in_ok-push.ensures.items)
    (written_on count_json bytes c.loop-byte.values.items c.from.result c.loop-byte.byte-index 0 (omega arith) c.from.ensures c.loop-byte.invariant)

pub returns : goal.returns
returns c = written_all count_json c.args.bytes.now c.loop-byte.values.items c.loop-byte.byte-index (omega arith) c.loop-byte.invariant
