use Rattle.std.proofs.Common.{◌<◌, rules, length, map, arith}
use Rattle.std.specs.Fmt.{decimal}
use Rattle.std.proofs.Output.{has_written_append, has_written_of_eq}
use Rattle.vortex_types.proofs.Listed.{listed_step, byte_text, byte_count}
use Rattle.vortex_types.proofs.display.write_bytes.Goals as goal

pub loop-i-preserved : goal.loop-i-preserved
loop-i-preserved g c = λ plain.
    let bytes = c.args.bytes.now in
    let within : c.loop-i.i < length bytes = c.loop-i-test.true in
    let before = c.loop-i.invariant plain in
    let comma = c.write_separator.ensures before.plain (search rules) in
    let byte = c.write_byte.ensures comma.plain (search rules) in
    has_written_of_eq _ _ _ _ _ (listed_step (map decimal bytes) c.loop-i.i _ (omega (arith, byte_count bytes, within)) (byte_text bytes c.loop-i.i within))
    (has_written_append _ _ _ _ _ _ before (has_written_append _ _ _ _ _ _ comma byte))
