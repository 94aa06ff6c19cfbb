use Rattle.vortex_terms.specs.NullabilityLaws.{with_nullability-own, with_nullability-twice, nullable-with, nullable-with_flag, nullable-union, with_nullability-legal, with_nullability-bounded}
use Rattle.vortex_terms.proofs.types.flags_are_changed.Goals as goal

pub returns-clause-own : goal.returns-clause-own
returns-clause-own c = with_nullability-own

pub returns-clause-last : goal.returns-clause-last
returns-clause-last c = with_nullability-twice

pub returns-clause-set : goal.returns-clause-set
returns-clause-set c = nullable-with

pub returns-clause-given : goal.returns-clause-given
returns-clause-given c = nullable-with_flag

pub returns-clause-union : goal.returns-clause-union
returns-clause-union c = nullable-union

pub returns-clause-legal : goal.returns-clause-legal
returns-clause-legal c = with_nullability-legal

pub returns-clause-bounded : goal.returns-clause-bounded
returns-clause-bounded c = with_nullability-bounded
