-- What the facts of a call say of single counts.
use Rattle.std.proofs.Common.{◌≡◌, inl, inr, ℕ, ◌+◌, ◌≤◌, List, length, Option, Some, None, refl, sym, ap, subst, arith}
use Rattle.std.proofs.Math.Seq.{take-length}
use Rattle.std.proofs.lemmas.List.{length-append}
use Rattle.std.specs.Prelude.{IfSome}
use Rattle.std.specs.Io.KnownBytes.{Appends, Consumes}
use Rattle.vortex_stream.specs.Counts.{raised_64, raised_128, Rose, DidNotRise, RoseBy, with_fault}
use Rattle.vortex_stream.specs.Reading.{Reads, ReadToEnd, ReadToFault, ReadToLimit, ReadWithoutFault}
use Rattle.vortex_stream.specs.Writing.{AppendsPrefix, LeavesNote}
use Rattle.vortex_stream.specs.declared.counts.SourceCounts.{SourceCounts}
use Rattle.vortex_stream.specs.declared.counts.SinkCounts.{SinkCounts}

-- ---- single counts

same_64 : (before after : ℕ) → after ≡ raised_64 before 0 → after ≡ before
same_64 before after e = omega (arith, e)

rose_64 : (before after n : ℕ) → after ≡ raised_64 before n → n ≡ 1 → Rose before after
rose_64 before after n e one = omega (arith, e, one)

rose_128 : (before after n most : ℕ) → after ≡ raised_128 before n → most ≤ n → RoseBy most before after
rose_128 before after n most e le = omega (arith, e, le)

no_other : (ends faults : ℕ) → ends + faults ≤ 1 → ends ≡ 1 → faults ≡ 0
no_other ends faults le one = omega (arith, le, one)

-- ---- reading

faults_are : (most : ℕ) (call before after : SourceCounts) (rest left : Option (List ℕ)) → Reads most call before after rest left → after.faults ≡ raised_64 before.faults call.faults
faults_are most call before after rest left r = ap (λ (c : SourceCounts). c.faults) r.counted

-- no count of faults rose
pub faults_same : (most : ℕ) (before after : SourceCounts) (rest left : Option (List ℕ)) → ReadWithoutFault most before after rest left → after.faults ≡ before.faults
faults_same most before after rest left r =
    same_64 before.faults after.faults (subst (λ (n : ℕ). after.faults ≡ raised_64 before.faults n) r.2 (faults_are most r.0 before after rest left r.1))

-- what is read to the end is read without a fault
pub end_no_fault : (most : ℕ) (before after : SourceCounts) (rest left : Option (List ℕ)) → ReadToEnd most before after rest left → ReadWithoutFault most before after rest left
end_no_fault most before after rest left r = (r.0, r.1, no_other r.0.ends r.0.faults r.1.stops r.2)

-- so is what is read to the limit
pub limit_no_fault : (most : ℕ) (before after : SourceCounts) (rest left : Option (List ℕ)) → ReadToLimit most before after rest left → ReadWithoutFault most before after rest left
limit_no_fault most before after rest left r = (r.0, r.1, r.4)

-- the end was told
pub end_rose : (most : ℕ) (before after : SourceCounts) (rest left : Option (List ℕ)) → ReadToEnd most before after rest left → Rose before.ends after.ends
end_rose most before after rest left r = rose_64 before.ends after.ends r.0.ends (ap (λ (c : SourceCounts). c.ends) r.1.counted) r.2

-- a read failed
pub fault_rose : (most : ℕ) (before after : SourceCounts) (rest left : Option (List ℕ)) → ReadToFault most before after rest left → Rose before.faults after.faults
fault_rose most before after rest left r = rose_64 before.faults after.faults r.0.faults (faults_are most r.0 before after rest left r.1) r.2

-- each read up to the limit gave a byte
limit_given : (reads given ends faults most : ℕ) → reads ≤ given + ends + faults → reads ≡ most → ends ≡ 0 → faults ≡ 0 → most ≤ given
limit_given reads given ends faults most le e f g = omega (arith, le, e, f, g)

at_least : (most n : ℕ) → n ≡ most → most ≤ n
at_least most n e = omega (arith, e)

-- so many reads were made, and as many bytes given
pub limit_rose : (most : ℕ) (before after : SourceCounts) (rest left : Option (List ℕ)) → ReadToLimit most before after rest left → RoseBy most before.reads after.reads × RoseBy most before.given after.given
limit_rose most before after rest left r = (
  rose_128 before.reads after.reads r.0.reads most (ap (λ (c : SourceCounts). c.reads) r.1.counted) (at_least most r.0.reads r.2),
  rose_128 before.given after.given r.0.given most (ap (λ (c : SourceCounts). c.given) r.1.counted) (limit_given r.0.reads r.0.given r.0.ends r.0.faults most r.1.each_gives r.2 r.3 r.4),
)

-- what was read is a part of what there was
read_within : (rest left : Option (List ℕ)) (read : List ℕ) (n : ℕ) → length read ≡ n → Consumes rest left read → IfSome rest (λ bytes. n ≤ length bytes)
read_within None left read n e c = tt
read_within (Some bytes) None read n e c = absurd c
read_within (Some bytes) (Some others) read n e c = omega (arith, e, ap length c, length-append read others)

pub limit_long : (most : ℕ) (before after : SourceCounts) (rest left : Option (List ℕ)) → ReadToLimit most before after rest left → IfSome rest (λ bytes. most ≤ length bytes)
limit_long most before after rest left r = longer rest most r.0.given (limit_given r.0.reads r.0.given r.0.ends r.0.faults most r.1.each_gives r.2 r.3 r.4) (read_within rest left r.1.bytes.0 r.0.given r.1.bytes.1 r.1.bytes.2)
  where
    longer : (rest : Option (List ℕ)) (most given : ℕ) → most ≤ given → IfSome rest (λ bytes. given ≤ length bytes) → IfSome rest (λ bytes. most ≤ length bytes)
    longer None most given le h = tt
    longer (Some bytes) most given le h = omega (arith, le, h)

-- at most one read more than there are bytes
pub few_reads : (most : ℕ) (call before after : SourceCounts) (rest left : Option (List ℕ)) → Reads most call before after rest left → IfSome rest (λ bytes. call.reads ≤ length bytes + 1)
few_reads most call before after rest left r = fewer rest call.reads call.given call.ends call.faults r.each_gives r.stops (read_within rest left r.bytes.0 call.given r.bytes.1 r.bytes.2)
  where
    fewer : (rest : Option (List ℕ)) (reads given ends faults : ℕ) → reads ≤ given + ends + faults → ends + faults ≤ 1 → IfSome rest (λ bytes. given ≤ length bytes) → IfSome rest (λ bytes. reads ≤ length bytes + 1)
    fewer None reads given ends faults each stops h = tt
    fewer (Some bytes) reads given ends faults each stops h = omega (arith, each, stops, h)

-- ---- writing

-- one more fault, and the count rose
pub with_fault_rose : (before after : SinkCounts) → after ≡ with_fault before → Rose before.faults after.faults
with_fault_rose before after e = rose_64 before.faults after.faults 1 (ap (λ (c : SinkCounts). c.faults) e) refl

-- all of some bytes are a prefix of them
pub whole_prefix : (written now : Option (List ℕ)) (bytes : List ℕ) → Appends written now bytes → AppendsPrefix written now bytes
whole_prefix written now bytes a = (length bytes, subst (Appends written now) (sym (take-length bytes)) a)

-- the line of a note, where no call of it failed
pub note_whole : (line : List ℕ) (before after : SinkCounts) (written now : Option (List ℕ)) → LeavesNote line before after written now → DidNotRise before.faults after.faults → Appends written now line
note_whole line before after written now (inl w) still = w.appended
note_whole line before after written now (inr b) still = absurd (still (with_fault_rose before after b.counted))

-- a prefix of it, whatever failed
pub note_prefix : (line : List ℕ) (before after : SinkCounts) (written now : Option (List ℕ)) → LeavesNote line before after written now → AppendsPrefix written now line
note_prefix line before after written now (inl w) = whole_prefix written now line w.appended
note_prefix line before after written now (inr b) = b.appended
