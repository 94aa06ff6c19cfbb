use Rattle.std.proofs.Common.{◌≡◌, ◌++◌, drop}
use Rattle.vortex_flat.specs.Layout.{numbers_of}
use Rattle.vortex_flat.proofs.vectors.put_each_u32.Given as goal

abbrev pub invariant-loop-n : goal.invariant-loop-n
invariant-loop-n l = l.out.items ++ numbers_of 4 (drop l.n-index l.content) ≡ l.initial.out.items ++ numbers_of 4 l.content
