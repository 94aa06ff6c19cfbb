use Rattle.std.proofs.Common.{◌∙◌, true}
use Rattle.vortex_terms.specs.Nullability.{with_nullability}
use Rattle.vortex_types.specs.DTypes.{term_of}
use Rattle.vortex_scalar.proofs.Rows.{fits_at, made_at}
use Rattle.vortex_scalar.proofs.Listed.{fits_nullable, row_nullable}
use Rattle.std.proofs.Common.{ap}
use Rattle.vortex_scalar.proofs.scalar.Scalar.into_nullable.Goals as goal

pub new-requires : goal.new-requires
new-requires c =
    let s = c.args.self in
    fits_at (term_of c.in-Ok.dtype) (with_nullability s.dtype true) c.into_parts-dtype.result.1 s.row
    (c.in-Ok.ensures.term ∙ ap (λ t. with_nullability t true) c.into_parts-dtype.ensures.dtype)
    (row_nullable s.dtype true c.into_parts-dtype.result.1 ∙ c.into_parts-dtype.ensures.value) (fits_nullable s.dtype s.row c.law.ensures.fits)

pub returns-clause-scalar : goal.returns-clause-scalar
returns-clause-scalar c =
    let s = c.args.self in
    made_at (term_of c.in-Ok.dtype) (with_nullability s.dtype true) c.into_parts-dtype.result.1 s.row c.new.result
    (c.in-Ok.ensures.term ∙ ap (λ t. with_nullability t true) c.into_parts-dtype.ensures.dtype)
    (row_nullable s.dtype true c.into_parts-dtype.result.1 ∙ c.into_parts-dtype.ensures.value) (fits_nullable s.dtype s.row c.law.ensures.fits) c.new.ensures
