use Rattle.std.proofs.Common.{◌∙◌}
use Rattle.vortex_types.specs.DTypes.{term_of}
use Rattle.vortex_scalar.proofs.PartLemmas.{storage_fits, storage_same, row_moved, fits_moved}
use Rattle.vortex_scalar.proofs.views.extension.ExtScalar.storage.Goals as goal

pub new-requires : goal.new-requires
new-requires c =
    storage_fits c.ext_dtype.result.now (term_of c.in_ok-dtype.dtype) c.value.result.now c.in_ok-value.value c.args.self.now c.ext_dtype.ensures
    (c.in_ok-dtype.ensures.term ∙ c.storage_dtype.ensures) c.in_ok-value.ensures.value
    (row_moved c.self.inside.fitting c.args.self.now c.value.result.now c.self.view_is c.value.ensures)
    (fits_moved c.self.inside.fitting c.args.self.now c.self.view_is c.law.ensures.fits)

pub returns-clause-storage : goal.returns-clause-storage
returns-clause-storage c =
    c.new.ensures ∙
    storage_same c.ext_dtype.result.now (term_of c.in_ok-dtype.dtype) c.value.result.now c.in_ok-value.value c.args.self.now c.ext_dtype.ensures
    (c.in_ok-dtype.ensures.term ∙ c.storage_dtype.ensures) c.in_ok-value.ensures.value
    (row_moved c.self.inside.fitting c.args.self.now c.value.result.now c.self.view_is c.value.ensures)
    (fits_moved c.self.inside.fitting c.args.self.now c.self.view_is c.law.ensures.fits)
