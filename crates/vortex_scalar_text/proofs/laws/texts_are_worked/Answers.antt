use Rattle.std.proofs.Common.{refl}
use Rattle.std.specs.Fmt.{digits}
use Rattle.std.specs.Str.{chars, is_utf8}
use Rattle.vortex_number.specs.Format.{number_of_le_bytes}
use Rattle.vortex_scalar_text.proofs.laws.texts_are_worked.Goals as goal

pub returns-clause-numbers : goal.returns-clause-numbers
unfolding digits
returns-clause-numbers c = refl

pub returns-clause-decimals : goal.returns-clause-decimals
unfolding digits
returns-clause-decimals c = refl

pub returns-clause-widths : goal.returns-clause-widths
unfolding digits
returns-clause-widths c = (refl, refl, refl, refl)

pub returns-clause-below : goal.returns-clause-below
unfolding digits
returns-clause-below c = refl

pub returns-clause-decimal_bytes : goal.returns-clause-decimal_bytes
unfolding digits number_of_le_bytes
returns-clause-decimal_bytes c = (refl, refl, refl)

pub returns-clause-whole_texts : goal.returns-clause-whole_texts
unfolding chars is_utf8 lib.Utf8.encode
returns-clause-whole_texts c = (refl, refl, refl, refl)

pub returns-clause-long_bytes : goal.returns-clause-long_bytes
unfolding digits
returns-clause-long_bytes c = (refl, refl)

pub returns-clause-bytes : goal.returns-clause-bytes
unfolding digits
returns-clause-bytes c = refl
