use Rattle.std.proofs.Common.{rules, map, arith, false}
use Rattle.std.specs.Prelude.{codes}
use Rattle.std.specs.Fmt.{digits}
use Rattle.std.proofs.Output.{has_written_append, has_written_of_eq}
use Rattle.vortex_scalar_value.proofs.Joining.{joined_step}
use Rattle.vortex_scalar_text.proofs.TextLemmas.{byte_text, byte_count}
use Rattle.vortex_scalar_text.proofs.texts.write_hex.Goals as goal

pub loop-i-preserved : goal.loop-i-preserved
loop-i-preserved g c = λ plain.
    let bytes = c.args.bytes.now in
    let before = c.loop-i.invariant plain in
    let blank = c.write_blank.ensures before.plain (search rules) in
    let byte = c.write_byte.ensures blank.plain (search rules) in
    has_written_of_eq _ _ _ _ _ (joined_step (codes " ") (map (digits 16 false) bytes) c.loop-i.i _ (omega (arith, byte_count bytes, c.loop-i-test.true)) (byte_text bytes c.loop-i.i c.loop-i-test.true))
    (has_written_append _ _ _ _ _ _ before (has_written_append _ _ _ _ _ _ blank byte))
