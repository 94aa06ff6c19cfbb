-- What metadata says whose zone is not copied: `borrowed_term`.
use Rattle.std.specs.Option.{option_copied}
use Rattle.vortex_time.specs.Metadata.{Metadata, time, date, timestamp}
use Rattle.vortex_time.specs.declared.borrowed.BorrowedMetadata.{BorrowedMetadata}
use Rattle.vortex_time.specs.declared.borrowed.BorrowedMetadata.TheVariants.{Time, Date, Timestamp}

-- metadata, with the name of the zone as its bytes
abbrev pub borrowed_term : BorrowedMetadata → Metadata
borrowed_term (Time unit) = time unit
borrowed_term (Date unit) = date unit
borrowed_term (Timestamp unit zone) = timestamp unit (option_copied zone)
