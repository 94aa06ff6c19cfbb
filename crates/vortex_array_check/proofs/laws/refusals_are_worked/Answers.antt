use lib.Utf8.{encode}
use Rattle.std.specs.Prelude.{refl}
use Rattle.std.specs.Str.{is_utf8, chars}
use Rattle.vortex_terms.specs.Row.{copies}
use Rattle.vortex_array_check.proofs.laws.refusals_are_worked.Goals as goal

pub returns-clause-past_end : goal.returns-clause-past_end
unfolding copies
returns-clause-past_end c = refl

pub returns-clause-short_lists : goal.returns-clause-short_lists
unfolding copies
returns-clause-short_lists c = refl

pub returns-clause-texts : goal.returns-clause-texts
unfolding is_utf8 chars encode
returns-clause-texts c = refl
