use Rattle.std.specs.Prelude.{◌≡◌, map}
use Rattle.vortex_scalar.specs.Made.{typed}
use Rattle.vortex_convert.proofs.lists.each_scalar.Given as goal

abbrev pub invariant-loop-value : goal.invariant-loop-value
invariant-loop-value g l =
    l.scalars.items ≡ map (λ x. typed g.T.ScalarType.term (g.T.NativeScalar.row_of x)) l.yielded
