use Rattle.std.proofs.Common.{rules, arith, ◌≡◌, ◌+◌, ◌++◌, drop}
use Rattle.vortex_ipc.proofs.QueueLemmas.{queue_taken}
use Rattle.vortex_ipc.proofs.queue.BytesQueue.take.Goals as goal

pub returns-clause-parts : goal.returns-clause-parts
returns-clause-parts c =
    let same : c.args.self.now ≡ drop c.in-Ok.parts.place c.in-Ok.parts.piece.bytes ++ c.in-Ok.parts.pushed.items = search rules in
    queue_taken c.args.self.now c.in-Ok.parts.piece.bytes c.in-Ok.parts.pushed.items c.in-Ok-part.taken.bytes c.in-Ok.parts.place (c.in-Ok.parts.place + c.args.count) same (omega arith) c.in-Ok-part.ensures.bytes
