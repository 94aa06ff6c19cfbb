use Rattle.std.proofs.Common.{◌≡◌, ◌++◌, List, ℕ, length}
use Rattle.std.specs.Io.KnownBytes.{Appends}
use Rattle.vortex_stream.proofs.sink.write_all.Given as goal

-- what was written so far, and what is left, are all the bytes
abbrev pub invariant-loop-rest : goal.invariant-loop-rest
invariant-loop-rest g l =
    let sink = g.K.Sink in
    record {
      parts : (done : List ℕ) × (l.bytes ≡ done ++ l.rest) × Appends (sink.written l.initial.sink) (sink.written l.sink) done;
      counted : sink.counts l.sink ≡ sink.counts l.initial.sink;
    }

abbrev pub decreases-loop-rest : goal.decreases-loop-rest
decreases-loop-rest g l = length l.rest
