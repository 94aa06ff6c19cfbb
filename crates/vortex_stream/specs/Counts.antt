-- Counts of what the outside did. They never fall, and stand still at the last value of their type.
use Rattle.std.specs.Prelude.{ℕ, ◌+◌, ◌-◌, ◌^◌, ◌≤◌, ◌==◌, ◌&&◌, min, max, Result, Ok, Err, nat_lt, if◌then◌else◌}
use Rattle.vortex_stream.specs.declared.counts.SourceCounts.{SourceCounts}
use Rattle.vortex_stream.specs.declared.counts.SinkCounts.{SinkCounts}

-- a count of 64 bits after n more
abbrev pub raised_64 : ℕ → ℕ → ℕ
raised_64 count n = max count (min (count + n) (2 ^ 64 - 1))

-- a count of 128 bits after n more
abbrev pub raised_128 : ℕ → ℕ → ℕ
raised_128 count n = max count (min (count + n) (2 ^ 128 - 1))

-- a count of 64 bits rose, or stands at its last value
abbrev pub Rose : ℕ → ℕ → Type 0
Rose before now = raised_64 before 1 ≤ now

-- a count of 64 bits neither rose nor stands at its last value
abbrev pub DidNotRise : ℕ → ℕ → Type 0
DidNotRise before now = Rose before now → ⊥

-- a count of 128 bits rose by n at least, or stands at its last value
abbrev pub RoseBy : ℕ → ℕ → ℕ → Type 0
RoseBy n before now = raised_128 before n ≤ now

-- the counts of a source before its first read
abbrev pub no_source_counts : SourceCounts
no_source_counts = record { faults = 0; ends = 0; given = 0; reads = 0 }

-- the counts of a sink before its first call
abbrev pub no_sink_counts : SinkCounts
no_sink_counts = record { faults = 0; flushes = 0 }

-- the counts of a source, each raised by those of one call
abbrev pub raised_by : SourceCounts → SourceCounts → SourceCounts
raised_by counts call = record {
  faults = raised_64 counts.faults call.faults;
  ends = raised_64 counts.ends call.ends;
  given = raised_128 counts.given call.given;
  reads = raised_128 counts.reads call.reads;
}

-- The counts of one read, on a piece of that length: itself, its bytes, an end or a fault. A read
-- of no byte on a piece that has room tells the end.
abbrev pub counts_of_read : {E : Type 0} → Result ℕ E → ℕ → SourceCounts
counts_of_read (Ok count) room = record {
  faults = 0;
  ends = if count == 0 && nat_lt 0 room then 1 else 0;
  given = count;
  reads = 1;
}
counts_of_read (Err e) room = record { faults = 1; ends = 0; given = 0; reads = 1 }

-- the counts of a sink after one more call that failed
abbrev pub with_fault : SinkCounts → SinkCounts
with_fault counts = record counts { faults = raised_64 counts.faults 1 }

-- the counts of a sink after one more flush that succeeded
abbrev pub with_flush : SinkCounts → SinkCounts
with_flush counts = record counts { flushes = raised_64 counts.flushes 1 }
