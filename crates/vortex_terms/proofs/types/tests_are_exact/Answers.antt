use Rattle.vortex_terms.specs.TestLaws.{is_decimal-Decides, are_bytes-Decides, is_legal-Decides, are_legal-Decides, is_bounded-Decides, is_in_range-Decides, is_fitting-Decides}
use Rattle.vortex_terms.proofs.types.tests_are_exact.Goals as goal

pub returns-clause-decimals : goal.returns-clause-decimals
returns-clause-decimals c = is_decimal-Decides

pub returns-clause-bytes : goal.returns-clause-bytes
returns-clause-bytes c = are_bytes-Decides

pub returns-clause-legal : goal.returns-clause-legal
returns-clause-legal c = is_legal-Decides

pub returns-clause-legal_fields : goal.returns-clause-legal_fields
returns-clause-legal_fields c = are_legal-Decides

pub returns-clause-bounded : goal.returns-clause-bounded
returns-clause-bounded c = is_bounded-Decides

pub returns-clause-ranges : goal.returns-clause-ranges
returns-clause-ranges c = is_in_range-Decides

pub returns-clause-fitting : goal.returns-clause-fitting
returns-clause-fitting c = is_fitting-Decides
