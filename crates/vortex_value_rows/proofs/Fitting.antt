-- A value that fits has a row.
use Rattle.std.proofs.Common.{Bool, Option, Some, None, refl}
use Rattle.std.specs.Prelude.{if◌then◌else◌}
use Rattle.std.specs.Option.{IsSome}
use Rattle.vortex_prelude.specs.Chain.{◌>>=◌}
use Rattle.vortex_terms.specs.Term.{Term}
use Rattle.vortex_terms.specs.Row.{Row}
use Rattle.vortex_terms.specs.Tests.{is_fitting}
use Rattle.vortex_scalar_value.specs.Value.{ValueTerm}
use Rattle.vortex_value_rows.specs.RowOf.{row_of, fitting_row}

first_some : (o : Option Row) (p : Row → Bool) → IsSome (o >>= λ r. if p r then Some r else None) → IsSome o
first_some (Some r) p h = refl
first_some None p h = h

pub has_row : (t : Term) (v : ValueTerm) → IsSome (fitting_row t v) → IsSome (row_of t v)
has_row t v h = first_some (row_of t v) (is_fitting t) h
