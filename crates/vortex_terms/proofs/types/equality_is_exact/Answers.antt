use Rattle.vortex_terms.specs.EqualityLaws.{kind_eq-Decides, term_eq-Decides, fields_eq-Decides, is_same-Decides}
use Rattle.vortex_terms.specs.PathLaws.{path_part_eq-Decides}
use Rattle.vortex_terms.proofs.types.equality_is_exact.Goals as goal

pub returns-clause-kinds : goal.returns-clause-kinds
returns-clause-kinds c = kind_eq-Decides

pub returns-clause-terms : goal.returns-clause-terms
returns-clause-terms c = term_eq-Decides

pub returns-clause-fields : goal.returns-clause-fields
returns-clause-fields c = fields_eq-Decides

pub returns-clause-same : goal.returns-clause-same
returns-clause-same c = is_same-Decides

pub returns-clause-steps : goal.returns-clause-steps
returns-clause-steps c = path_part_eq-Decides
