use Rattle.std.proofs.Common.{◌∙◌}
use Rattle.vortex_convert.proofs.native_scalar.rows_are_kept.Goals as goal

pub returns : goal.returns
returns g c x n =
    let laws = g.met.T.NativeScalar in
    laws.either g.T.ScalarType.term n (g.T.NativeScalar.row_of x) ∙ laws.kept x
