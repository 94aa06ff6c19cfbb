use Rattle.std.proofs.Common.{◌≡◌, length}
use Rattle.vortex_ipc.proofs.Underway.{Underway}
use Rattle.vortex_ipc.proofs.read_state.read_message.Given as goal

-- more is missing of the message that is read, and the piece has its length
abbrev pub invariant-loop-made : goal.invariant-loop-made
invariant-loop-made g l =
    let source = g.S.Source in
    Underway l.initial.decoder.held l.wanted (source.counts l.initial.source) (source.counts l.source) (source.rest l.initial.source) (source.rest l.source) l.decoder l.queue l.made l.given l.missing
    × (length l.piece ≡ 65536)
