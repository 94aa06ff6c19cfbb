use Rattle.std.proofs.Common.{◌≡◌, ◌++◌, drop}
use Rattle.vortex_flat.specs.Layout.{numbers_of}
use Rattle.vortex_flat.proofs.vectors.put_each_u64.Given as goal

abbrev pub invariant-loop-n : goal.invariant-loop-n
invariant-loop-n l = l.out.items ++ numbers_of 8 (drop l.n-index l.content) ≡ l.initial.out.items ++ numbers_of 8 l.content
