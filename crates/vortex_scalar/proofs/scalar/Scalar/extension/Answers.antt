use Rattle.std.proofs.Common.{◌≡◌, Some, ap, subst}
use Rattle.vortex_terms.specs.Fits.{Fits}
use Rattle.vortex_types.specs.ExtTerm.{ext_type}
use Rattle.vortex_value_rows.specs.RowOf.{row_of}
use Rattle.vortex_scalar.proofs.Rows.{made_at}
use Rattle.vortex_scalar.proofs.scalar.Scalar.extension.Goals as goal

pub returns-clause-scalar : goal.returns-clause-scalar
returns-clause-scalar c =
    let s = c.args.scalar in
    made_at (ext_type c.in_ok-ext.ext.value) (ext_type c.args.ext) c.into_value-value.result s.row c.new-2.result (ap ext_type c.in_ok-ext.ensures.ok)
    (subst (λ t. row_of t c.into_value-value.result ≡ Some s.row) c.requires c.into_value-value.ensures)
    (subst (λ t. Fits t s.row) c.requires c.law.ensures.fits) c.new-2.ensures
