use Rattle.vortex_terms.specs.BareLaws.{bare-twice, Same-number, Same-parts, Same-primitive, Same-decimal, Same-names, Same-extension, Same-size}
use Rattle.vortex_terms.specs.NullabilityLaws.{Same-with_nullability}
use Rattle.vortex_terms.proofs.types.same_types_differ_in_flags_alone.Goals as goal

pub returns-clause-bare : goal.returns-clause-bare
returns-clause-bare c = bare-twice

pub returns-clause-flag : goal.returns-clause-flag
returns-clause-flag c = Same-with_nullability

pub returns-clause-number : goal.returns-clause-number
returns-clause-number c = Same-number

pub returns-clause-parts : goal.returns-clause-parts
returns-clause-parts c = Same-parts

pub returns-clause-kinds : goal.returns-clause-kinds
returns-clause-kinds c = Same-primitive

pub returns-clause-decimals : goal.returns-clause-decimals
returns-clause-decimals c = Same-decimal

pub returns-clause-names : goal.returns-clause-names
returns-clause-names c = Same-names

pub returns-clause-ids : goal.returns-clause-ids
returns-clause-ids c = Same-extension

pub returns-clause-sizes : goal.returns-clause-sizes
returns-clause-sizes c = Same-size
