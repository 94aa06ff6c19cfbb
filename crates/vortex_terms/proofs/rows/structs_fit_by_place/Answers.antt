use Rattle.vortex_terms.specs.RowListLaws.{FitsFields-count, FitsFields-places, FitsFields-from_places}
use Rattle.vortex_terms.proofs.rows.structs_fit_by_place.Goals as goal

pub returns-clause-count : goal.returns-clause-count
returns-clause-count c = FitsFields-count

pub returns-clause-at : goal.returns-clause-at
returns-clause-at c = FitsFields-places

pub returns-clause-from : goal.returns-clause-from
returns-clause-from c = FitsFields-from_places
