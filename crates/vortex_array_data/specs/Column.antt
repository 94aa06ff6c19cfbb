-- What a contract sees of an array: its type, its rows and its node.
use Rattle.std.specs.Prelude.{◌≤◌, length, List, refl}
use Rattle.std.specs.List.{AllByRecursion}
use Rattle.std.specs.Coded.{Coded, code_by, coded×, coded_list}
use Rattle.vortex_terms.specs.Term.{Term}
use Rattle.vortex_terms.specs.TermCode.{coded_term}
use Rattle.vortex_terms.specs.Row.{Row}
use Rattle.vortex_terms.specs.RowCode.{coded_row}
use Rattle.vortex_terms.specs.Fits.{Fits}
use Rattle.vortex_node_rows.specs.RowsOf.{most_rows}
use Rattle.vortex_array_data.specs.ArrayNode.{ArrayNode, coded_array_node}

pub record Column : Type 0 where
  pub dtype : Term
  pub rows : List Row
  pub node : ArrayNode

-- the rows fit the type, and there are no more than a node may have
pub record Holds (a : Column) : Type 0 where
  pub fit : AllByRecursion (Fits a.dtype) a.rows
  pub few : length a.rows ≤ most_rows

-- how it is stored
abbrev pub coded_column : Coded Column
coded_column =
    code_by (Term × (List Row × ArrayNode)) (coded× coded_term (coded× (coded_list coded_row) coded_array_node))
    (λ a. (a.dtype, (a.rows, a.node))) (λ p. record { dtype = p.0; rows = p.1.0; node = p.1.1 }) (λ _. refl)
