use Rattle.std.proofs.Common.{[], ◌∷◌, arith}
use Rattle.vortex_terms.specs.Row.{bytes_row, null_row}
use Rattle.vortex_array_data.proofs.WorkedTakes.{few_bytes, few_or_null, no_elements, one_fixed, twice_half, two_fixed}
use Rattle.vortex_array_data.proofs.select.takes_are_worked.Goals as goal

pub returns-clause-one_byte : goal.returns-clause-one_byte
returns-clause-one_byte c = λ h. few_bytes (bytes_row (97 ∷ [])) (bytes_row (97 ∷ [])) (omega arith) h

pub returns-clause-half : goal.returns-clause-half
returns-clause-half c = λ bs e. twice_half bs e

pub returns-clause-beside_null : goal.returns-clause-beside_null
returns-clause-beside_null c = λ bs e h. few_or_null (bytes_row bs) null_row (omega (arith, e)) h

pub returns-clause-null_lists : goal.returns-clause-null_lists
returns-clause-null_lists c = λ h. no_elements h

pub returns-clause-fixed : goal.returns-clause-fixed
returns-clause-fixed c = two_fixed 4294967295 (omega arith)

pub returns-clause-one_fixed : goal.returns-clause-one_fixed
returns-clause-one_fixed c = λ h. one_fixed 4294967295 (omega arith) h
