use Rattle.std.proofs.Common.{◌∙◌, sym}
use Rattle.vortex_terms.specs.Row.{null_row}
use Rattle.vortex_array_data.proofs.PickPlaces.{picked-taken}
use Rattle.vortex_array_data.proofs.PickedRows.{err_is}
use Rattle.vortex_array_data.proofs.TakenRows.{take_refused}
use Rattle.vortex_array_data.proofs.held.Array.take.Goals as goal

pub returns : goal.returns
returns c = (
  c.in_ok-array.ensures.dtype,
  c.in_ok-array.ensures.rows ∙ sym (picked-taken c.args.places.now c.args.self.now.rows null_row c.requires),
)

pub returns-in_err-array : goal.returns-in_err-array
returns-in_err-array c =
    err_is c.from_residual.result _ _ c.in_err-array.field-0.0 c.from_residual.ensures.1
    (take_refused c.args.places c.args.self.now c.in_err-array.field-0.0 c.requires c.in_err-array.ensures)
