use Rattle.std.proofs.Common.{◌≡◌, length}
use Rattle.vortex_body.specs.inner.Runs.{AreRuns}
use Rattle.vortex_body.proofs.places.runs_of.Given as goal

-- the runs so far
abbrev pub invariant-loop : goal.invariant-loop
invariant-loop l = (length l.runs.items ≡ l.counter) × AreRuns l.flat l.buffers l.runs.items
