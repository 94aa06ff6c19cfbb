use Rattle.std.proofs.Common.{refl}
use Rattle.vortex_time.proofs.laws.moments_are_worked.Goals as goal

pub returns-clause-time_id : goal.returns-clause-time_id
returns-clause-time_id c = refl

pub returns-clause-date_id : goal.returns-clause-date_id
returns-clause-date_id c = refl

pub returns-clause-zone : goal.returns-clause-zone
returns-clause-zone c = refl

pub returns-clause-no_zone : goal.returns-clause-no_zone
returns-clause-no_zone c = refl

pub returns-clause-past : goal.returns-clause-past
returns-clause-past c = refl

pub returns-clause-whole : goal.returns-clause-whole
returns-clause-whole c = refl

pub returns-clause-last : goal.returns-clause-last
returns-clause-last c = refl

pub returns-clause-last_civil : goal.returns-clause-last_civil
returns-clause-last_civil c = refl

pub returns-clause-last_instant : goal.returns-clause-last_instant
returns-clause-last_instant c = refl

pub returns-clause-day_length : goal.returns-clause-day_length
returns-clause-day_length c = refl

pub returns-clause-time_unit : goal.returns-clause-time_unit
returns-clause-time_unit c = refl

pub returns-clause-date_unit : goal.returns-clause-date_unit
returns-clause-date_unit c = refl

pub returns-clause-stamp_unit : goal.returns-clause-stamp_unit
returns-clause-stamp_unit c = refl

pub returns-clause-zone_first : goal.returns-clause-zone_first
returns-clause-zone_first c = refl

pub returns-clause-ignored : goal.returns-clause-ignored
returns-clause-ignored c handed = refl
