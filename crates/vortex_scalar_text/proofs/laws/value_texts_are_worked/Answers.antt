use Rattle.std.proofs.Common.{refl}
use Rattle.std.specs.Fmt.{digits}
use Rattle.std.specs.Str.{chars}
use Rattle.vortex_scalar_text.proofs.laws.value_texts_are_worked.Goals as goal

pub returns-clause-numbers : goal.returns-clause-numbers
unfolding digits
returns-clause-numbers c = refl

pub returns-clause-decimals : goal.returns-clause-decimals
unfolding digits
returns-clause-decimals c = refl

pub returns-clause-bytes : goal.returns-clause-bytes
unfolding digits
returns-clause-bytes c = refl

pub returns-clause-long_bytes : goal.returns-clause-long_bytes
unfolding digits
returns-clause-long_bytes c = refl

pub returns-clause-texts : goal.returns-clause-texts
unfolding chars
returns-clause-texts c = refl

pub returns-clause-long_texts : goal.returns-clause-long_texts
unfolding chars lib.Utf8.encode
returns-clause-long_texts c = refl

pub returns-clause-lists : goal.returns-clause-lists
unfolding digits
returns-clause-lists c = refl

pub returns-clause-ten_bytes : goal.returns-clause-ten_bytes
unfolding digits
returns-clause-ten_bytes c = refl

pub returns-clause-ten_characters : goal.returns-clause-ten_characters
unfolding chars
returns-clause-ten_characters c = refl

pub returns-clause-wide_characters : goal.returns-clause-wide_characters
unfolding chars lib.Utf8.encode
returns-clause-wide_characters c = (refl, refl)
