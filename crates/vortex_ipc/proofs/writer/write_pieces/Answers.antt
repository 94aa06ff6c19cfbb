use Rattle.std.proofs.Common.{◌<◌, length, arith, ◌∙◌}
use Rattle.vortex_ipc.proofs.WrittenPieces.{more, short}
use Rattle.vortex_ipc.proofs.writer.write_pieces.Goals as goal

pub returns-in-Err-clause-short : goal.returns-in-Err-clause-short
returns-in-Err-clause-short g c =
    let written = g.K.Sink.written in
    let lt : c.loop-piece.piece-index < length c.args.pieces.now = omega arith in
    short (written c.args.sink.now) (written c.loop-piece.sink) (written c.write_all.new.sink) c.args.pieces.now c.loop-piece.piece-index c.in-Err._short.written c.piece-item.result c.as_slice.result.now lt c.piece-item.is c.as_slice.ensures c.loop-piece.invariant.parts c.in-Err.ensures.short

pub loop-piece-preserved : goal.loop-piece-preserved
loop-piece-preserved g c =
    let written = g.K.Sink.written in
    let lt : c.loop-piece.piece-index < length c.args.pieces.now = omega arith in
    record {
      parts = more (written c.args.sink.now) (written c.loop-piece.sink) (written c.write_all.new.sink) c.args.pieces.now c.loop-piece.piece-index c.piece-item.result c.as_slice.result.now lt c.piece-item.is c.as_slice.ensures c.loop-piece.invariant.parts c.in-Ok.ensures.all;
      counted = c.in-Ok.ensures.no_fault ∙ c.loop-piece.invariant.counted;
    }
