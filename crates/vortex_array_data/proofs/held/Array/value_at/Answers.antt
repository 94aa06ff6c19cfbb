use Rattle.std.proofs.Common.{◌≡◌}
use Rattle.std.specs.Prelude.{slice_get}
use Rattle.vortex_scalar_value.specs.Value.{ValueTerm}
use Rattle.vortex_value_rows.specs.RowOf.{row_of, fitting_row}
use Rattle.vortex_array_data.proofs.ValueRows.{value_fits}
use Rattle.vortex_array_data.proofs.HeldValues.{ok_then}
use Rattle.vortex_array_data.proofs.held.Array.value_at.Goals as goal

pub returns-clause-value : goal.returns-clause-value
returns-clause-value c =
    ok_then c.row_value.result (λ (v : ValueTerm). row_of c.args.self.now.dtype v ≡ slice_get c.args.self.now.rows c.args.i)
    (λ (v : ValueTerm). fitting_row c.args.self.now.dtype v ≡ slice_get c.args.self.now.rows c.args.i)
    c.row_value.ensures.value (λ (v : ValueTerm) e.
    value_fits c.args.self.now.dtype v c.args.self.now.rows c.args.i c.law.ensures.fit c.requires e)
