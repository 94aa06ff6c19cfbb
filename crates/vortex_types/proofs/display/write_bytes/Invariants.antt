use Rattle.std.proofs.Common.{map, take}
use Rattle.std.specs.Fmt.{decimal, HasWritten, IsPlainFormatter}
use Rattle.vortex_types.specs.Text.{listed}
use Rattle.vortex_types.proofs.display.write_bytes.Given as goal

abbrev pub invariant-loop-i : goal.invariant-loop-i
invariant-loop-i g l =
    IsPlainFormatter l.initial.f → HasWritten g.W.Write.write_str_gives l.initial.f (listed (take l.i (map decimal l.bytes))) l.f
