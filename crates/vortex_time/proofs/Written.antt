-- What is written for metadata is read again.
use Rattle.std.proofs.Common.{◌≡◌, ℕ, suc, List, [], ◌∷◌, Bool, true, false, length, take, ◌+◌, ◌*◌, ◌/◌, ◌%◌, nat_eq, nat_lt, refl, sym, ap, ◌∙◌, arith, Result, Ok, Err, Option, Some, None}
use Rattle.std.specs.Prelude.{if◌then◌else◌}
use Rattle.std.specs.Str.{is_utf8}
use Rattle.std.proofs.lemmas.List.{take_all}
use Rattle.vortex_time.specs.Metadata.{Metadata, time, date, timestamp, metadata_of, metadata_bytes, written_metadata, named_zone, second_zone, stamped, id_of, as_read, has_text, zone_fits}
use Rattle.vortex_time.specs.Units.{unit_tag, unit_of}
use Rattle.vortex_time.specs.declared.unit.TimeUnit.{TimeUnit}
use Rattle.vortex_time.specs.declared.unit.TimeUnit.TheVariants.{Nanoseconds, Microseconds, Milliseconds, Seconds, Days}
use Rattle.vortex_time.specs.declared.error.TemporalError.{TemporalError}
use Rattle.vortex_time.specs.declared.error.TemporalError.TheVariants.{ZoneTooLong}

-- a tag is read as its unit
unit_back : (unit : TimeUnit) → unit_of (unit_tag unit) ≡ Ok unit
unit_back Nanoseconds = refl
unit_back Microseconds = refl
unit_back Milliseconds = refl
unit_back Seconds = refl
unit_back Days = refl

-- the zone that is read where this one is written
abbrev kept_zone : List ℕ → Option (List ℕ)
kept_zone [] = None
kept_zone (b ∷ bs) = Some (b ∷ bs)

not_zero : (n : ℕ) → nat_eq (suc n) 0 ≡ false
not_zero n = grind arith

not_less : (n : ℕ) → nat_lt n n ≡ false
not_less n = grind arith

-- a name of its own length
whole_name : (zone : List ℕ) → is_utf8 zone ≡ true → named_zone (length zone) zone ≡ Ok (kept_zone zone)
whole_name [] h = refl
whole_name (b ∷ bs) h =
    let all : take (suc (length bs)) (b ∷ bs) ≡ b ∷ bs = take_all (suc (length bs)) (b ∷ bs) (omega arith) in
    rw (not_zero (length bs), not_less (suc (length bs)), all, h) refl

two_bytes : (n : ℕ) → n % 256 + 256 * (n / 256) ≡ n
two_bytes n = omega arith

zone_back : (tag : ℕ) (zone : List ℕ) → is_utf8 zone ≡ true → second_zone (tag ∷ length zone % 256 ∷ length zone / 256 ∷ zone) ≡ Ok (kept_zone zone)
zone_back tag zone h = ap (λ n. named_zone n zone) (two_bytes (length zone)) ∙ whole_name zone h

read_zone : (unit : TimeUnit) (zone : List ℕ) → ◌≡◌ {A = Result Metadata TemporalError} (Ok (timestamp unit (kept_zone zone))) (Ok (as_read (timestamp unit (Some zone))))
read_zone unit [] = refl
read_zone unit (b ∷ bs) = refl

bytes_back : (m : Metadata) → has_text m ≡ true → metadata_of (id_of m) (Some (metadata_bytes m)) ≡ Ok (as_read m)
bytes_back (time unit) h = rw (unit_back unit) refl
bytes_back (date unit) h = rw (unit_back unit) refl
bytes_back (timestamp unit None) h = rw (unit_back unit) refl
bytes_back (timestamp unit (Some zone)) h =
    ap (λ u. stamped u (second_zone (metadata_bytes (timestamp unit (Some zone))))) (unit_back unit)
    ∙ ap (stamped (Ok unit)) (zone_back (unit_tag unit) zone h)
    ∙ read_zone unit zone

abbrev bytes_of : Result (List ℕ) TemporalError → List ℕ
bytes_of (Ok bs) = bs
bytes_of (Err e) = []

by_fit : (b : Bool) (bs cs : List ℕ) → ◌≡◌ {A = Result (List ℕ) TemporalError} (if b then Ok bs else Err ZoneTooLong) (Ok cs) → bs ≡ cs
by_fit true bs cs e = ap bytes_of e
by_fit false bs cs e = cc

pub written_back : (m : Metadata) (bytes : List ℕ) → has_text m ≡ true → written_metadata m ≡ Ok bytes → metadata_of (id_of m) (Some bytes) ≡ Ok (as_read m)
written_back m bytes h e =
    let same : metadata_bytes m ≡ bytes = by_fit (zone_fits m) (metadata_bytes m) bytes e in
    ap (λ bs. metadata_of (id_of m) (Some bs)) (sym same) ∙ bytes_back m h
