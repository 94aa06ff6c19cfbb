-- A source and a sink in memory, for tests: what each call may take, and which calls fail.
use Rattle.std.specs.Prelude.{Bool, ℕ, ◌==◌, min, max, List, [], ◌∷◌, ◌++◌, length, take, drop, slice_index, Result, Ok, Err, if◌then◌else◌}
use Rattle.std.specs.List.{list_any}
use Rattle.vortex_stream.specs.Counts.{raised_64, raised_128, no_source_counts, no_sink_counts, raised_by, counts_of_read, with_fault, with_flush}
use Rattle.vortex_stream.specs.declared.counts.SourceCounts.{SourceCounts}
use Rattle.vortex_stream.specs.declared.counts.SinkCounts.{SinkCounts}

-- How many of n wanted bytes call k may take: at most the k-th size, which counts as 1 where it is
-- 0. Past the list the last size holds, and an empty list sets no limit.
abbrev pub allowed : List ℕ → ℕ → ℕ → ℕ
allowed [] k n = n
allowed (size ∷ sizes) k n = min n (max 1 (slice_index (size ∷ sizes) (min k (length sizes))))

-- whether a number is listed
abbrev pub contains : List ℕ → ℕ → Bool
contains numbers n = list_any (λ k. k == n) numbers

-- a source: the bytes still to come, the sizes, the numbers of the reads that fail, and the counts
pub record SourceState : Type 0 where
  pub rest : List ℕ
  pub sizes : List ℕ
  pub failing : List ℕ
  pub counts : SourceCounts

-- a source of these bytes before its first read
abbrev pub new_source : List ℕ → List ℕ → List ℕ → SourceState
new_source bytes sizes failing =
    record { rest = bytes; sizes = sizes; failing = failing; counts = no_source_counts }

-- a sink: what was written, the room that it keeps, the sizes, the numbers of the calls that fail,
-- and the counts of calls, of those that were refused memory, and of every sink
pub record SinkState : Type 0 where
  pub written : List ℕ
  pub room : ℕ
  pub sizes : List ℕ
  pub failing : List ℕ
  pub calls : ℕ
  pub refused : ℕ
  pub counts : SinkCounts

-- an empty sink before its first call
abbrev pub new_sink : ℕ → List ℕ → List ℕ → SinkState
new_sink room sizes failing = record {
  written = [];
  room = room;
  sizes = sizes;
  failing = failing;
  calls = 0;
  refused = 0;
  counts = no_sink_counts;
}

-- how many bytes a read gave
abbrev pub given_by : {E : Type 0} → Result ℕ E → ℕ
given_by (Ok count) = count
given_by (Err e) = 0

-- a source after a read that answered so, on a piece of that length
abbrev pub after_read : {E : Type 0} → SourceState → Result ℕ E → ℕ → SourceState
after_read s answer room = record s {
  rest = drop (given_by answer) s.rest;
  counts = raised_by s.counts (counts_of_read answer room);
}

-- a sink after a write of the piece that answered so; a failed write whose number is not listed was
-- refused memory
abbrev pub after_write : {E : Type 0} → SinkState → Result ℕ E → List ℕ → SinkState
after_write s (Ok count) piece =
    record s { written = s.written ++ take count piece; calls = raised_128 s.calls 1 }
after_write s (Err e) piece = record s {
  calls = raised_128 s.calls 1;
  refused = if contains s.failing s.calls then s.refused else raised_64 s.refused 1;
  counts = with_fault s.counts;
}

-- a sink after a flush that answered so
abbrev pub after_flush : {T E : Type 0} → SinkState → Result T E → SinkState
after_flush s (Ok x) = record s { calls = raised_128 s.calls 1; counts = with_flush s.counts }
after_flush s (Err e) = record s { calls = raised_128 s.calls 1; counts = with_fault s.counts }
