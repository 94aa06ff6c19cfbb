use Rattle.std.proofs.Common.{◌≡◌, ℕ, ◌<◌, List, length, take, drop, Option, sym, subst, arith}
use Rattle.std.specs.Io.KnownBytes.{Appends, Keeps}
use Rattle.std.proofs.lemmas.List.{take-append-drop, length-take-le}
use Rattle.vortex_select.specs.inner.Prefixes.{IsMade, Reaches}
use Rattle.vortex_select.specs.Theorem.{WroteAll, WrotePart}
use Rattle.vortex_select.specs.declared.report.RowCounts.{RowCounts}
use Rattle.vortex_select.specs.declared.whole_output.Prefix.{Prefix}
use Rattle.vortex_select.specs.declared.words.Query.{Query}
use Rattle.vortex_select.proofs.SelectionLemmas.{made_selects, part_of, all_of, of_source, Appends-kept}
use Rattle.vortex_select.proofs.program.select.Goals as goal

-- a prefix of the output was written
short_part : (query : Query) (input out : List ℕ) (counts kept : RowCounts) (prefixes : List Prefix) (bytes : ℕ) (before after : Option (List ℕ)) → IsMade query input out counts prefixes → bytes < length out → Reaches prefixes bytes kept → Appends before after (take bytes out)
    → WrotePart query before after kept input
short_part query input out counts kept prefixes bytes before after made few reaches appended =
    let long : bytes ≡ length (take bytes out) = sym (length-take-le bytes out (omega arith)) in
    record { part = take bytes out; selects = part_of query input out (take bytes out) (drop bytes out) bytes counts kept prefixes made long (sym (take-append-drop bytes out)) reaches; appended = appended }

-- all of it was written and flushed
all_selected : (query : Query) (input out : List ℕ) (counts : RowCounts) (prefixes : List Prefix) (before written after : Option (List ℕ)) → IsMade query input out counts prefixes → Appends before written out → Keeps written after
    → WroteAll query before after counts input
all_selected query input out counts prefixes before written after made appended kept =
    record { output = out; selects = made_selects query input out counts prefixes made; appended = Appends-kept before written after out appended kept }

-- all of it was written, and the flush failed
all_part : (query : Query) (input out : List ℕ) (counts : RowCounts) (prefixes : List Prefix) (before written after : Option (List ℕ)) → IsMade query input out counts prefixes → Appends before written out → Keeps written after
    → WrotePart query before after counts input
all_part query input out counts prefixes before written after made appended kept =
    record { part = out; selects = all_of query input out counts prefixes made; appended = Appends-kept before written after out appended kept }

pub returns-in-Err-clause-selected_in_part : goal.returns-in-Err-clause-selected_in_part
returns-in-Err-clause-selected_in_part g c =
    let query = c.args.query.now in
    let input = c.in_ok-input.input.items in
    let output = c.in_ok-output.output in
    let bytes = c.in-Err.short.written in
    let before = g.K.Sink.written c.args.sink.now in
    let after = g.K.Sink.written c.write_all.new.sink in
    let made : IsMade query input output.bytes.items output.counts output.prefixes.items = subst (λ b. IsMade query b output.bytes.items output.counts output.prefixes.items) c.deref.ensures.value c.in_ok-output.ensures.made in
    let few : bytes < length output.bytes.items = subst (λ b. bytes < length b) c.deref-2.ensures.value c.in-Err.ensures.short.0 in
    let appended : Appends before after (take bytes output.bytes.items) = subst (λ b. Appends before after (take bytes b)) c.deref-2.ensures.value c.in-Err.ensures.short.1 in
    let reaches : Reaches output.prefixes.items bytes c.counts_within.result = subst (λ f. Reaches f bytes c.counts_within.result) c.deref-in-Err.ensures.value c.counts_within.ensures in
    of_source (WrotePart query before after c.counts_within.result) (g.S.Source.rest c.args.source.now) input c.in_ok-input.ensures.bytes
    (short_part query input output.bytes.items output.counts c.counts_within.result output.prefixes.items bytes before after made few reaches appended)

pub returns-in-Ok-clause-selected : goal.returns-in-Ok-clause-selected
returns-in-Ok-clause-selected g c =
    let query = c.args.query.now in
    let input = c.in_ok-input.input.items in
    let output = c.in_ok-output.output in
    let before = g.K.Sink.written c.args.sink.now in
    let written = g.K.Sink.written c.write_all.new.sink in
    let after = g.K.Sink.written c.flush.new.self in
    let made : IsMade query input output.bytes.items output.counts output.prefixes.items = subst (λ b. IsMade query b output.bytes.items output.counts output.prefixes.items) c.deref.ensures.value c.in_ok-output.ensures.made in
    let appended : Appends before written output.bytes.items = subst (λ b. Appends before written b) c.deref-2.ensures.value c.in_default.ensures.all in
    of_source (WroteAll query before after output.counts) (g.S.Source.rest c.args.source.now) input c.in_ok-input.ensures.bytes
    (all_selected query input output.bytes.items output.counts output.prefixes.items before written after made appended c.in-Ok.ensures.kept)

pub returns-clause-selected_in_part : goal.returns-clause-selected_in_part
returns-clause-selected_in_part g c =
    let query = c.args.query.now in
    let input = c.in_ok-input.input.items in
    let output = c.in_ok-output.output in
    let before = g.K.Sink.written c.args.sink.now in
    let written = g.K.Sink.written c.write_all.new.sink in
    let after = g.K.Sink.written c.flush.new.self in
    let made : IsMade query input output.bytes.items output.counts output.prefixes.items = subst (λ b. IsMade query b output.bytes.items output.counts output.prefixes.items) c.deref.ensures.value c.in_ok-output.ensures.made in
    let appended : Appends before written output.bytes.items = subst (λ b. Appends before written b) c.deref-2.ensures.value c.in_default.ensures.all in
    of_source (WrotePart query before after output.counts) (g.S.Source.rest c.args.source.now) input c.in_ok-input.ensures.bytes
    (all_part query input output.bytes.items output.counts output.prefixes.items before written after made appended c.in-Err-flush.ensures.kept)
