-- The metadata of the types of times (Vortex), and its bytes.
--     Metadata             a time, a date or a timestamp, its unit, and maybe the name of a zone
--     metadata_of          what an id and bytes stand for, or the first refusal
--     written_metadata     the bytes, but for a zone that is too long
--     as_read              what is read of what is written
use Rattle.std.specs.Prelude.{ℕ, ◌+◌, ◌*◌, ◌/◌, ◌%◌, nat_eq, nat_le, nat_lt, Bool, true, ◌||◌}
use Rattle.std.specs.Prelude.{if◌then◌else◌, List, [], ◌∷◌, length, take, bytes_eq, Option, Some, None}
use Rattle.std.specs.Prelude.{Result, Ok, Err}
use Rattle.std.specs.Str.{is_utf8}
use Rattle.vortex_time.specs.Units.{unit_tag, unit_of}
use Rattle.vortex_time.specs.declared.error.TemporalError.{TemporalError}
use Rattle.vortex_time.specs.declared.error.TemporalError.TheVariants as error
use Rattle.vortex_time.specs.declared.ids.TheConstants.{TIME_ID, DATE_ID, TIMESTAMP_ID}
use Rattle.vortex_time.specs.declared.unit.TimeUnit.{TimeUnit}

-- what the metadata of a type of times says
pub data Metadata : Type 0 where
  time : TimeUnit → Metadata
  date : TimeUnit → Metadata
  timestamp : TimeUnit → Option (List ℕ) → Metadata

-- whether an id is one of a type of times
abbrev pub is_temporal : List ℕ → Bool
is_temporal id =
    bytes_eq id TIME_ID.now || (bytes_eq id DATE_ID.now || bytes_eq id TIMESTAMP_ID.now)

-- the unit, and the name of the zone
abbrev pub unit_in : Metadata → TimeUnit
unit_in (time unit) = unit
unit_in (date unit) = unit
unit_in (timestamp unit _) = unit

abbrev pub zone_in : Metadata → Option (List ℕ)
zone_in (timestamp unit zone) = zone
zone_in _ = None

-- ---- reading

-- the unit whose tag comes first
abbrev pub first_unit : List ℕ → Result TimeUnit TemporalError
first_unit [] = Err error.ShortMetadata
first_unit (tag ∷ bytes) = unit_of tag

-- the first n bytes as the name of a zone, where n = 0 is no zone
abbrev pub named_zone : ℕ → List ℕ → Result (Option (List ℕ)) TemporalError
named_zone n bytes =
    if nat_eq n 0 then Ok None
    else (if nat_lt (length bytes) n then Err error.ShortMetadata
    else (if is_utf8 (take n bytes) then Ok (Some (take n bytes)) else Err error.BadZone))

-- the zone behind the tag: its length in two bytes, the lowest first, and its name
abbrev pub second_zone : List ℕ → Result (Option (List ℕ)) TemporalError
second_zone (tag ∷ low ∷ high ∷ bytes) = named_zone (low + 256 * high) bytes
second_zone _ = Err error.ShortMetadata

-- a time, a date or a timestamp of these, or the first that is refused
abbrev pub timed : Result TimeUnit TemporalError → Result Metadata TemporalError
timed (Ok unit) = Ok (time unit)
timed (Err e) = Err e

abbrev pub dated : Result TimeUnit TemporalError → Result Metadata TemporalError
dated (Ok unit) = Ok (date unit)
dated (Err e) = Err e

abbrev pub stamped : Result TimeUnit TemporalError → Result (Option (List ℕ)) TemporalError → Result Metadata TemporalError
stamped (Ok unit) (Ok zone) = Ok (timestamp unit zone)
stamped (Ok unit) (Err e) = Err e
stamped (Err e) zone = Err e

-- what an id and bytes stand for. Bytes behind what is read say nothing.
abbrev pub metadata_of : List ℕ → Option (List ℕ) → Result Metadata TemporalError
metadata_of id None = Err error.MissingMetadata
metadata_of id (Some bytes) =
    if bytes_eq id TIME_ID.now then timed (first_unit bytes)
    else (if bytes_eq id DATE_ID.now then dated (first_unit bytes)
    else (if bytes_eq id TIMESTAMP_ID.now then stamped (first_unit bytes) (second_zone bytes)
    else Err error.NotTemporal))

-- ---- writing

-- the id of the type
abbrev pub id_of : Metadata → List ℕ
id_of (time _) = TIME_ID.now
id_of (date _) = DATE_ID.now
id_of (timestamp _ _) = TIMESTAMP_ID.now

-- the bytes: the tag and, of a timestamp, the length of the zone in two bytes and its name
abbrev pub metadata_bytes : Metadata → List ℕ
metadata_bytes (time unit) = unit_tag unit ∷ []
metadata_bytes (date unit) = unit_tag unit ∷ []
metadata_bytes (timestamp unit None) = unit_tag unit ∷ 0 ∷ 0 ∷ []
metadata_bytes (timestamp unit (Some zone)) =
    unit_tag unit ∷ length zone % 256 ∷ length zone / 256 ∷ zone

-- the zone has at most 65,535 bytes
abbrev pub zone_fits : Metadata → Bool
zone_fits (timestamp unit (Some zone)) = nat_le (length zone) 65_535
zone_fits _ = true

-- the bytes, where the zone fits
abbrev pub written_metadata : Metadata → Result (List ℕ) TemporalError
written_metadata m = if zone_fits m then Ok (metadata_bytes m) else Err error.ZoneTooLong

-- what is read of what is written: a zone of no bytes is no zone
abbrev pub as_read : Metadata → Metadata
as_read (timestamp unit (Some [])) = timestamp unit None
as_read m = m

-- the name of the zone is a text
abbrev pub has_text : Metadata → Bool
has_text (timestamp unit (Some zone)) = is_utf8 zone
has_text _ = true
