use lib.Utf8.{encode}
use Rattle.std.specs.Prelude.{refl}
use Rattle.std.specs.Str.{is_utf8, chars}
use Rattle.vortex_time_check.proofs.laws.refusals_are_worked.Goals as goal

pub returns-clause-bad_zone : goal.returns-clause-bad_zone
unfolding is_utf8 chars encode
returns-clause-bad_zone c = refl

pub returns-clause-zone_first : goal.returns-clause-zone_first
unfolding is_utf8 chars encode
returns-clause-zone_first c = refl
