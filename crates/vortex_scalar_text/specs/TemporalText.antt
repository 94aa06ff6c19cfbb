-- Which scalars of extension types are printed as times, dates and timestamps, or as null.
--     temporal_text     the text in place of id(storage), where there is one
use Rattle.std.specs.Prelude.{ℕ, ℤ, Bool, true, false, if◌then◌else◌, List, codes, Option, Some, None, Result, Ok, Err}
use Rattle.vortex_terms.specs.Term.{Term, primitive, signed_64}
use Rattle.vortex_terms.specs.Tests.{is_in_range}
use Rattle.vortex_scalar_value.specs.Value.{ValueTerm, null_value, whole_value}
use Rattle.vortex_time.specs.Metadata.{Metadata, metadata_of}
use Rattle.vortex_time.specs.Moments.{Moment, unzoned_of}
use Rattle.vortex_time.specs.declared.error.TemporalError.{TemporalError}
use Rattle.vortex_scalar_text.specs.MomentText.{moment_text}

-- the metadata of an id is read
abbrev pub is_read : Result Metadata TemporalError → Bool
is_read (Ok m) = true
is_read (Err e) = false

-- a type of whole numbers
abbrev pub is_whole : Term → Bool
is_whole (primitive k n) = true
is_whole _ = false

abbrev pub text_if_ok : Result Moment TemporalError → Option (List ℕ)
text_if_ok (Ok m) = Some (moment_text m)
text_if_ok (Err e) = None

-- the text of a number that an i64 can be, where it is a moment in no zone
abbrev pub number_shown : List ℕ → Option (List ℕ) → ℤ → Option (List ℕ)
number_shown id m z = if is_in_range signed_64 z then text_if_ok (unzoned_of id m z) else None

-- Null is printed as null where the metadata is read, also where it names a zone. A whole number is printed as the
-- moment that it is, where it is one in no zone.
abbrev pub temporal_text : List ℕ → Term → Option (List ℕ) → ValueTerm → Option (List ℕ)
temporal_text id t m null_value = if is_read (metadata_of id m) then Some (codes "null") else None
temporal_text id t m (whole_value l z) = if is_whole t then number_shown id m z else None
temporal_text id t m v = None
