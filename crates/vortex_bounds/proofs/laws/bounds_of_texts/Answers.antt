use Rattle.vortex_bounds.proofs.TextBoundLemmas.{text_lower_le, text_lower_short, text_lower_utf8, text_upper_ge, text_upper_short, text_upper_utf8}
use Rattle.vortex_bounds.proofs.TextLemmas.{all_within}
use Rattle.vortex_bounds.proofs.laws.bounds_of_texts.Goals as goal

pub returns-clause-lower : goal.returns-clause-lower
returns-clause-lower c = text_lower_le

pub returns-clause-lower_length : goal.returns-clause-lower_length
returns-clause-lower_length c = text_lower_short

pub returns-clause-lower_text : goal.returns-clause-lower_text
returns-clause-lower_text c = text_lower_utf8

pub returns-clause-upper : goal.returns-clause-upper
returns-clause-upper c = text_upper_ge

pub returns-clause-upper_length : goal.returns-clause-upper_length
returns-clause-upper_length c = text_upper_short

pub returns-clause-upper_text : goal.returns-clause-upper_text
returns-clause-upper_text c = text_upper_utf8

pub returns-clause-own_lower : goal.returns-clause-own_lower
returns-clause-own_lower c = all_within
