-- The value of a constant: `fitting_value`.
use Rattle.std.specs.Prelude.{ℕ, List, Option, Some, None, is_some, if◌then◌else◌}
use Rattle.vortex_prelude.specs.Chain.{◌>>=◌}
use Rattle.vortex_terms.specs.Term.{Term}
use Rattle.vortex_scalar_value.specs.Value.{ValueTerm}
use Rattle.vortex_scalar_value.specs.Reading.{value_in}
use Rattle.vortex_value_rows.specs.RowOf.{fitting_row}
use Rattle.vortex_node_rows.specs.Buffers.{one_buffer}

-- the value whose message the one buffer is, where it fits the type
unfoldable pub fitting_value : Term → List (List ℕ) → Option ValueTerm
fitting_value t bs = do
  b ← one_buffer bs
  v ← value_in 128 b
  if is_some (fitting_row t v) then Some v else None
