-- What the structs of this crate say: `metadata_term` of owned metadata.
use Rattle.std.specs.Prelude.{string_bytes}
use Rattle.std.specs.Option.{option_map}
use Rattle.vortex_time.specs.Metadata.{Metadata, time, date, timestamp}
use Rattle.vortex_time.specs.declared.metadata.TemporalMetadata.{TemporalMetadata}
use Rattle.vortex_time.specs.declared.metadata.TemporalMetadata.TheVariants.{Time, Date, Timestamp}

-- metadata, with the name of the zone as its bytes
abbrev pub metadata_term : TemporalMetadata → Metadata
metadata_term (Time unit) = time unit
metadata_term (Date unit) = date unit
metadata_term (Timestamp unit zone) = timestamp unit (option_map string_bytes zone)
