use Rattle.std.specs.Prelude.{◌≡◌, map, drop}
use Rattle.vortex_convert.specs.Conversions.{each}
use Rattle.vortex_convert.proofs.ListLemmas.{after}
use Rattle.vortex_convert.proofs.lists.read_each.Given as goal

abbrev pub invariant-loop-scalar : goal.invariant-loop-scalar
invariant-loop-scalar g l =
    let reads = g.T.NativeScalar.reads in
    after (map g.T.NativeScalar.row_of l.values.items) (each reads (drop l.scalar-index l.scalars)) ≡ each reads l.scalars
