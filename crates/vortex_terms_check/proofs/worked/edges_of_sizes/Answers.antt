use Rattle.vortex_terms_check.proofs.Edges.{numbers_pass, fewer_do_not, text_passes, shorter_does_not, fixed_passes, smaller_fixed_does_not}
use Rattle.vortex_terms_check.proofs.worked.edges_of_sizes.Goals as goal

pub returns-clause-numbers : goal.returns-clause-numbers
returns-clause-numbers c = numbers_pass

pub returns-clause-fewer_numbers : goal.returns-clause-fewer_numbers
returns-clause-fewer_numbers c = fewer_do_not

pub returns-clause-text : goal.returns-clause-text
returns-clause-text c = text_passes

pub returns-clause-shorter_text : goal.returns-clause-shorter_text
returns-clause-shorter_text c = shorter_does_not

pub returns-clause-elements : goal.returns-clause-elements
returns-clause-elements c = fixed_passes

pub returns-clause-fewer_elements : goal.returns-clause-fewer_elements
returns-clause-fewer_elements c = smaller_fixed_does_not
