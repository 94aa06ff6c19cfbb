use Rattle.vortex_terms.specs.NullabilityLaws.{subset-equal, subset-same, superset-same, superset-equal}
use Rattle.vortex_terms.proofs.types.flags_are_compared.Goals as goal

pub returns-clause-subset_nullable : goal.returns-clause-subset_nullable
returns-clause-subset_nullable c = subset-equal

pub returns-clause-subset : goal.returns-clause-subset
returns-clause-subset c = subset-same

pub returns-clause-superset_nullable : goal.returns-clause-superset_nullable
returns-clause-superset_nullable c = superset-same

pub returns-clause-superset : goal.returns-clause-superset
returns-clause-superset c = superset-equal
