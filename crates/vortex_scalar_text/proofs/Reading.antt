-- Whether metadata is read, told from what a number is under it.
use Rattle.std.proofs.Common.{◌≡◌, ℕ, ℤ, Bool, true, false, List, [], ◌∷◌, Option, Some, None, Result, Ok, Err, refl, ap, ◌∙◌}
use Rattle.std.specs.Prelude.{◌+◌, ◌*◌, ◌==◌, nat_eq, nat_lt, bytes_eq, length, take, not, if◌then◌else◌}
use Rattle.std.specs.Str.{is_utf8}
use Rattle.vortex_time.specs.Metadata.{Metadata, time, date, timestamp, metadata_of, first_unit, second_zone, named_zone, timed, dated, stamped}
use Rattle.vortex_time.specs.Moments.{Moment, clock, day, civil, is_clock, is_day, civil_day, is_clock_unit, is_date_unit, day_of, held, civil_of, unzoned_by, unzoned_of}
use Rattle.vortex_time.specs.Units.{unit_of, nanos_of}
use Rattle.vortex_time.specs.declared.error.TemporalError.{TemporalError}
use Rattle.vortex_time.specs.declared.error.TemporalError.TheVariants as error
use Rattle.vortex_time.specs.declared.ids.TheConstants.{TIME_ID, DATE_ID, TIMESTAMP_ID}
use Rattle.vortex_time.specs.declared.unit.TimeUnit.{TimeUnit}
use Rattle.vortex_time.specs.declared.unit.TimeUnit.TheVariants as unit
use Rattle.vortex_scalar_text.specs.TemporalText.{is_read}
use Rattle.vortex_scalar_text.specs.inner.Shown.{is_of_metadata}

-- a refusal is one of metadata, and one is none
abbrev reads : {X : Type 0} → Result X TemporalError → Bool
reads (Ok x) = true
reads (Err e) = is_of_metadata e

abbrev told : {X : Type 0} → Result X TemporalError → Bool
told (Ok x) = true
told (Err e) = not (is_of_metadata e)

unit_by : (a b c d e : Bool) → reads {X = TimeUnit} (if a then Ok unit.Nanoseconds else (if b then Ok unit.Microseconds else (if c then Ok unit.Milliseconds else (if d then Ok unit.Seconds else (if e then Ok unit.Days else Err error.BadUnit))))) ≡ true
unit_by true b c d e = refl
unit_by false true c d e = refl
unit_by false false true d e = refl
unit_by false false false true e = refl
unit_by false false false false true = refl
unit_by false false false false false = refl

unit_reads : (n : ℕ) → reads (unit_of n) ≡ true
unit_reads n = unit_by (n == 0) (n == 1) (n == 2) (n == 3) (n == 4)

first_reads : (bytes : List ℕ) → reads (first_unit bytes) ≡ true
first_reads [] = refl
first_reads (tag ∷ bytes) = unit_reads tag

zone_by : (a b c : Bool) (name : List ℕ) → reads {X = Option (List ℕ)} (if a then Ok None else (if b then Err error.ShortMetadata else (if c then Ok (Some name) else Err error.BadZone))) ≡ true
zone_by true b c name = refl
zone_by false true c name = refl
zone_by false false true name = refl
zone_by false false false name = refl

named_reads : (n : ℕ) (bytes : List ℕ) → reads (named_zone n bytes) ≡ true
named_reads n bytes = zone_by (nat_eq n 0) (nat_lt (length bytes) n) (is_utf8 (take n bytes)) (take n bytes)

second_reads : (bytes : List ℕ) → reads (second_zone bytes) ≡ true
second_reads [] = refl
second_reads (tag ∷ []) = refl
second_reads (tag ∷ low ∷ []) = refl
second_reads (tag ∷ low ∷ high ∷ bytes) = named_reads (low + 256 * high) bytes

timed_reads : (r : Result TimeUnit TemporalError) → reads r ≡ true → reads (timed r) ≡ true
timed_reads (Ok u) h = refl
timed_reads (Err e) h = h

dated_reads : (r : Result TimeUnit TemporalError) → reads r ≡ true → reads (dated r) ≡ true
dated_reads (Ok u) h = refl
dated_reads (Err e) h = h

stamped_reads : (r : Result TimeUnit TemporalError) (z : Result (Option (List ℕ)) TemporalError) → reads r ≡ true → reads z ≡ true → reads (stamped r z) ≡ true
stamped_reads (Ok u) (Ok name) h k = refl
stamped_reads (Ok u) (Err e) h k = k
stamped_reads (Err e) name h k = h

id_by : (a b c : Bool) (r s t : Result Metadata TemporalError) → reads r ≡ true → reads s ≡ true → reads t ≡ true → reads {X = Metadata} (if a then r else (if b then s else (if c then t else Err error.NotTemporal))) ≡ true
id_by true b c r s t h k l = h
id_by false true c r s t h k l = k
id_by false false true r s t h k l = l
id_by false false false r s t h k l = refl

-- what is refused of metadata is one of its refusals
metadata_reads : (id : List ℕ) (m : Option (List ℕ)) → reads (metadata_of id m) ≡ true
metadata_reads id None = refl
metadata_reads id (Some bytes) =
    let first = first_reads bytes in
    id_by (bytes_eq id TIME_ID.now) (bytes_eq id DATE_ID.now) (bytes_eq id TIMESTAMP_ID.now)
    (timed (first_unit bytes)) (dated (first_unit bytes)) (stamped (first_unit bytes) (second_zone bytes))
    (timed_reads (first_unit bytes) first) (dated_reads (first_unit bytes) first)
    (stamped_reads (first_unit bytes) (second_zone bytes) first (second_reads bytes))

allowed_told : (a b : Bool) (m : Moment) → told {X = Moment} (if a then held b m else Err error.UnitNotAllowed) ≡ true
allowed_told true true m = refl
allowed_told true false m = refl
allowed_told false b m = refl

-- what is refused of a number is none of them
civil_told : (m : Metadata) (v : ℤ) → told (civil_of m v) ≡ true
civil_told (time u) v = allowed_told (is_clock_unit u) (is_clock (nanos_of u v)) (clock (nanos_of u v))
civil_told (date u) v = allowed_told (is_date_unit u) (is_day (day_of u v)) (day (day_of u v))
civil_told (timestamp u None) v = allowed_told (is_clock_unit u) (is_day (civil_day (nanos_of u v))) (civil (nanos_of u v))
civil_told (timestamp u (Some name)) v = refl

by_told : (r : Result Metadata TemporalError) (v : ℤ) → reads r ≡ true → told (unzoned_by r v) ≡ is_read r
by_told (Ok m) v h = civil_told m v
by_told (Err e) v h = ap not h

is_told : (id : List ℕ) (m : Option (List ℕ)) (v : ℤ) → told (unzoned_of id m v) ≡ is_read (metadata_of id m)
is_told id m v = by_told (metadata_of id m) v (metadata_reads id m)

-- metadata is read where what is refused of a number is none of its refusals
pub read_unless : (id : List ℕ) (m : Option (List ℕ)) (v : ℤ) (e : TemporalError) → Err e ≡ unzoned_of id m v → not (is_of_metadata e) ≡ is_read (metadata_of id m)
read_unless id m v e k = ap told k ∙ is_told id m v
