-- A value that fits has a row.
use Rattle.std.specs.Option.{IsSome}
use Rattle.vortex_terms.specs.Term.{Term}
use Rattle.vortex_scalar_value.specs.Value.{ValueTerm}
use Rattle.vortex_value_rows.specs.RowOf.{row_of, fitting_row}
use Rattle.vortex_value_rows.proofs.Fitting.{has_row}

pub fitting_has_row : (t : Term) (v : ValueTerm) → IsSome (fitting_row t v) → IsSome (row_of t v)
fitting_has_row = has_row
