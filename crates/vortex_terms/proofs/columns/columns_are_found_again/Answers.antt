use Rattle.vortex_terms.specs.FromColumnLaws.{column-struct_rows, column-masked, elements-list_rows, elements-masked, pieces-joined}
use Rattle.vortex_terms.proofs.columns.columns_are_found_again.Goals as goal

pub returns-clause-fields : goal.returns-clause-fields
returns-clause-fields c = column-struct_rows

pub returns-clause-null_fields : goal.returns-clause-null_fields
returns-clause-null_fields c = column-masked

pub returns-clause-elements : goal.returns-clause-elements
returns-clause-elements c = elements-list_rows

pub returns-clause-null_elements : goal.returns-clause-null_elements
returns-clause-null_elements c = elements-masked

pub returns-clause-no_gap : goal.returns-clause-no_gap
returns-clause-no_gap c = pieces-joined
