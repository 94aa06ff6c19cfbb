use Rattle.std.proofs.Common.{◌≡◌, map, take}
use Rattle.vortex_terms.specs.Path.{by_name}
use Rattle.vortex_wire.specs.Finds.{all_bytes_of}
use Rattle.vortex_dtype.specs.Paths.{parts_of}
use Rattle.vortex_dtype.proofs.from_proto.named_path.Given as goal

abbrev pub invariant-loop-name : goal.invariant-loop-name
invariant-loop-name l = parts_of l.fields.items ≡ map by_name (all_bytes_of (take l.name-index l.names))
