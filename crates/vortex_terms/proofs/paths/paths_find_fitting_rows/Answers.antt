use Rattle.vortex_terms.specs.PathRowLaws.{value_at-present}
use Rattle.vortex_terms.specs.RowLaws.{value_at-null, value_at-fits}
use Rattle.vortex_terms.proofs.paths.paths_find_fitting_rows.Goals as goal

pub returns-clause-in_null : goal.returns-clause-in_null
returns-clause-in_null c = value_at-null

pub returns-clause-in_fitting : goal.returns-clause-in_fitting
returns-clause-in_fitting c = λ t u r path e f. value_at-fits t r path u e f

pub returns-clause-in_present : goal.returns-clause-in_present
returns-clause-in_present c = λ t u r path h e f. value_at-present t r path u h e f
