use Rattle.vortex_terms.specs.RowLaws.{default-fits}
use Rattle.vortex_terms.specs.RowListLaws.{default_rows-map}
use Rattle.vortex_terms.proofs.rows.defaults_fit.Goals as goal

pub returns-clause-fit : goal.returns-clause-fit
returns-clause-fit c = default-fits

pub returns-clause-fields : goal.returns-clause-fields
returns-clause-fields c = default_rows-map
