use Rattle.vortex_terms.specs.SizeLaws.{many-pass, passes-primitive, passes-text, passes-binary, passes-fixed, length-fixed_lists, size-copies}
use Rattle.vortex_terms.proofs.columns.passes_by_counts.Goals as goal

pub returns-clause-many : goal.returns-clause-many
returns-clause-many c = many-pass

pub returns-clause-numbers : goal.returns-clause-numbers
returns-clause-numbers c = passes-primitive

pub returns-clause-texts : goal.returns-clause-texts
returns-clause-texts c = passes-text

pub returns-clause-bytes : goal.returns-clause-bytes
returns-clause-bytes c = passes-binary

pub returns-clause-fixed_lists : goal.returns-clause-fixed_lists
returns-clause-fixed_lists c = passes-fixed

pub returns-clause-elements : goal.returns-clause-elements
returns-clause-elements c = length-fixed_lists

pub returns-clause-equal_texts : goal.returns-clause-equal_texts
returns-clause-equal_texts c = size-copies
