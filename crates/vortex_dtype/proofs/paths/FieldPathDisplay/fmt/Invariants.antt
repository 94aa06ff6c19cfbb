use Rattle.std.proofs.Common.{map, take}
use Rattle.std.specs.List.{flat_map}
use Rattle.std.specs.Fmt.{HasWritten, IsPlainFormatter}
use Rattle.vortex_dtype.specs.Paths.{behind, part_of}
use Rattle.vortex_dtype.proofs.paths.FieldPathDisplay.fmt.Given as goal

abbrev pub invariant-loop-part : goal.invariant-loop-part
invariant-loop-part g l =
    IsPlainFormatter l.initial.f → HasWritten g.W.Write.write_str_gives l.initial.f (flat_map behind (map part_of (take l.part-index l.others))) l.f
