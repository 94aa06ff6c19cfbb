use Rattle.std.proofs.Common.{map, take, false}
use Rattle.std.specs.Prelude.{codes}
use Rattle.std.specs.Fmt.{digits, HasWritten, IsPlainFormatter}
use Rattle.vortex_scalar_value.specs.Joined.{joined}
use Rattle.vortex_scalar_text.proofs.texts.write_hex.Given as goal

abbrev pub invariant-loop-i : goal.invariant-loop-i
invariant-loop-i g l =
    IsPlainFormatter l.initial.f → HasWritten g.W.Write.write_str_gives l.initial.f (joined (codes " ") (take l.i (map (digits 16 false) l.bytes))) l.f
