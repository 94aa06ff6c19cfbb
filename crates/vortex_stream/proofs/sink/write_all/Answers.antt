use Rattle.std.proofs.Common.{◌∙◌}
use Rattle.vortex_stream.proofs.Written.{written_more}
use Rattle.vortex_stream.proofs.sink.write_all.Goals as goal

pub loop-rest-preserved : goal.loop-rest-preserved
loop-rest-preserved g c =
    let written = g.K.Sink.written in
    record {
      parts = rw c.split_at.ensures.back (written_more (written c.args.sink.now) (written c.loop-rest.sink) (written c.write.new.self) c.args.bytes.now c.loop-rest.rest.now c.in-Ok.count c.loop-rest.invariant.parts c.in-Ok.ensures.bytes);
      counted = c.in-Ok.ensures.no_fault ∙ c.loop-rest.invariant.counted;
    }
