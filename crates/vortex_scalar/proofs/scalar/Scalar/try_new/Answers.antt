use Rattle.vortex_types.specs.DTypes.{term_of}
use Rattle.vortex_types.specs.TypeRefs.{ref_term}
use Rattle.vortex_scalar.proofs.Rows.{is_scalar, is_refused}
use Rattle.vortex_scalar.proofs.scalar.Scalar.try_new.Goals as goal

pub returns-then-fits : goal.returns-then-fits
returns-then-fits c =
    is_scalar (term_of c.args.dtype) (ref_term c.type_ref.result) c.args.value c.new.result c.fits.result c.fits.ensures c.type_ref.ensures c.if-fits.true c.new.ensures

pub returns-else-fits : goal.returns-else-fits
returns-else-fits c =
    is_refused (term_of c.args.dtype) (ref_term c.type_ref.result) c.args.value c.fits.result c.fits.ensures c.type_ref.ensures c.if-fits.false
