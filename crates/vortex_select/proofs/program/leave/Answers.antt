use Rattle.std.proofs.Common.{◌≡◌, ◌∙◌, ℕ, List, Option, Result, Ok, Err, inl, inr, ap, subst}
use Rattle.std.specs.Prelude.{OnOk, OnErr}
use Rattle.std.specs.Io.KnownBytes.{Appends, Keeps}
use Rattle.vortex_stream.specs.Counts.{with_fault, with_flush}
use Rattle.vortex_stream.specs.Writing.{LeavesNote}
use Rattle.vortex_stream.specs.declared.counts.SinkCounts.{SinkCounts}
use Rattle.vortex_stream.proofs.CallLemmas.{whole_prefix}
use Rattle.vortex_select.proofs.SelectionLemmas.{Appends-kept}
use Rattle.vortex_select.proofs.program.leave.Goals as goal

-- the line was written, and then flushed or not
line_left : {T E : Type 0} (flush : Result T E) (line piece : List ℕ) (before later after : SinkCounts) (written since now : Option (List ℕ)) → piece ≡ line → Appends written since piece → Keeps since now → later ≡ before
    → OnErr flush (after ≡ with_fault later) → OnOk flush (after ≡ with_flush later) → LeavesNote line before after written now
line_left (Ok x) line piece before later after written since now e appended kept same fault flushed =
    inl (record { counted = flushed ∙ ap with_flush same; appended = Appends-kept written since now line (subst (Appends written since) e appended) kept })
line_left (Err x) line piece before later after written since now e appended kept same fault flushed =
    inr (record { counted = fault ∙ ap with_fault same; appended = whole_prefix written now line (Appends-kept written since now line (subst (Appends written since) e appended) kept) })

pub returns-in-Ok : goal.returns-in-Ok
returns-in-Ok g c =
    let note = g.N.Sink in
    line_left c.flush.result c.args.line.now c.as_bytes.result.now (note.counts c.args.note.now) (note.counts c.write_all.new.sink) (note.counts c.flush.new.self) (note.written c.args.note.now) (note.written c.write_all.new.sink) (note.written c.flush.new.self)
    c.as_bytes.ensures.value c.in-Ok.ensures.all c.flush.ensures.kept c.in-Ok.ensures.no_fault c.flush.ensures.fault c.flush.ensures.flushed
