use Rattle.vortex_stream.proofs.ReadingLemmas.{Gave}
use Rattle.vortex_select.proofs.reading.read_to_end.Given as goal

-- each read so far gave a byte at least, and all of them are kept
abbrev pub invariant-loop : goal.invariant-loop
invariant-loop g l =
    let source = g.S.Source in
    Gave (source.counts l.initial.source) (source.counts l.source) (source.rest l.initial.source) (source.rest l.source) l.all.items l.counter
