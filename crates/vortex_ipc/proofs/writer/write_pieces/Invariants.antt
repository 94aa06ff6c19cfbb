use Rattle.std.proofs.Common.{◌≡◌}
use Rattle.vortex_ipc.proofs.WrittenPieces.{Part}
use Rattle.vortex_ipc.proofs.writer.write_pieces.Given as goal

abbrev pub invariant-loop-piece : goal.invariant-loop-piece
invariant-loop-piece g l =
    let sink = g.K.Sink in
    record {
      parts : Part (sink.written l.initial.sink) (sink.written l.sink) l.pieces l.piece-index;
      counted : sink.counts l.sink ≡ sink.counts l.initial.sink;
    }
