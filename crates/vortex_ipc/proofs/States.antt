-- The state of a reader after a message was read.
use Rattle.std.proofs.Common.{◌≡◌, inl, inr, ℕ, ◌+◌, ◌-◌, ◌^◌, ◌<◌, ◌≤◌, true, false, List, Option, Some, None, Result, Ok, Err, refl, sym, ap, subst, ◌∙◌, arith}
use Rattle.vortex_stream.specs.Counts.{raised_128}
use Rattle.vortex_stream.specs.declared.counts.SourceCounts.{SourceCounts}
use Rattle.vortex_stream.specs.declared.kind.MessageKind.{MessageKind}
use Rattle.vortex_stream.specs.declared.error.IpcError.{IpcError}
use Rattle.vortex_stream.specs.declared.error.IpcError.TheVariants as error
use Rattle.vortex_ipc.specs.declared.message.DecoderMessage.{DecoderMessage}
use Rattle.vortex_ipc.specs.declared.read_state.Taken.{Taken}
use Rattle.vortex_ipc.specs.Reader.{AllGave, AnswersIn, GoesOn, ReaderState, ReadsMessage, SourceReads, after_call, is_done}
use Rattle.vortex_ipc.specs.inner.Came.{Came}

-- ---- the numbers

limit_all : (old most call : ℕ) → old ≤ most → call ≡ most - old → old + call ≡ most
limit_all old most call le e = omega (arith, le, e)

limit_given : (reads given most call more : ℕ) → reads ≤ given → reads ≤ most → most < 2 ^ 64 → call ≡ most - reads → call ≤ more → most ≤ raised_128 given more
limit_given reads given most call more le within few e each = omega (arith, le, within, few, e, each)

gives : (call given ends faults : ℕ) → call ≤ given + ends + faults → ends ≡ 0 → faults ≡ 0 → call ≤ given
gives call given ends faults le e f = omega (arith, le, e, f)

-- a limit that was reached
at_limit : (wanted : Option MessageKind) (old : ReaderState) (before after : SourceCounts) (rest left : Option (List ℕ)) (answer : Option (Result DecoderMessage IpcError)) (m : ReadsMessage old.held wanted (old.most - old.reads) before after rest left answer)
    → old.reads ≤ old.most → old.reads ≤ old.given → old.most < 2 ^ 64 → answer ≡ Some (Err error.ReadLimit) → (old.reads + m.call.reads ≡ old.most) × (old.most ≤ raised_128 old.given m.call.given)
at_limit wanted old before after rest left answer m within le few e =
    let a = subst (AnswersIn old.held wanted (old.most - old.reads) m.call m.taken left) e m.answers in
    let all : m.call.reads ≡ old.most - old.reads = a.1 in
    let each : m.call.reads ≤ m.call.given = gives m.call.reads m.call.given m.call.ends m.call.faults m.each_gives a.0.0 a.0.1 in
    (limit_all old.reads old.most m.call.reads within all, limit_given old.reads old.given old.most m.call.reads m.call.given le within few all each)

within_most : (old most call : ℕ) → old ≤ most → call ≤ most - old → old + call ≤ most
within_most old most call le few = omega (arith, le, few)

-- ---- one call

-- it read on
pub goes_on : (wanted : Option MessageKind) (old new : ReaderState) (before after : SourceCounts) (rest left : Option (List ℕ)) (t : Taken) → old.done ≡ false → old.reads ≤ old.most → old.reads ≤ old.given → old.most < 2 ^ 64 → Came old.held wanted (old.most - old.reads) before after rest left t
    → new ≡ record { held = old.held; done = is_done t.answer; reads = old.reads + t.reads; given = raised_128 old.given t.given; most = old.most } → SourceReads wanted old new before after rest left t.answer
goes_on wanted old new before after rest left t going within le few c e =
    let reads : t.reads ≡ c.message.call.reads = sym c.reads_are in
    let given : t.given ≡ c.message.call.given = sym c.given_are in
    let state : new ≡ after_call old c.message.call t.answer = e ∙ ap (λ n. record { held = old.held; done = is_done t.answer; reads = old.reads + n; given = raised_128 old.given t.given; most = old.most }) reads ∙ ap (λ n. record { held = old.held; done = is_done t.answer; reads = old.reads + c.message.call.reads; given = raised_128 old.given n; most = old.most }) given in
    inr (subst (λ (s : ReaderState). GoesOn wanted old s before after rest left t.answer) (sym state) (record {
      going = going;
      message = c.message;
      state = refl;
      within = within_most old.reads old.most c.message.call.reads within c.message.few;
      limit = at_limit wanted old before after rest left t.answer c.message within le few;
    }))

-- it was done
pub stays_done : (wanted : Option MessageKind) (old new : ReaderState) (before after : SourceCounts) (rest left : Option (List ℕ)) → old.done ≡ true → new ≡ old → after ≡ before → left ≡ rest → SourceReads wanted old new before after rest left None
stays_done wanted old new before after rest left done same counts kept = inl (record { done = done; none = refl; state = same; counts = counts; kept = kept })

-- no more reads than may be
pub still_within : (held : List (List ℕ)) (wanted : Option MessageKind) (reads most : ℕ) (before after : SourceCounts) (rest left : Option (List ℕ)) (t : Taken) → reads ≤ most → Came held wanted (most - reads) before after rest left t → reads + t.reads ≤ most
still_within held wanted reads most before after rest left t within c = within_most reads most t.reads within (subst (λ n. n ≤ most - reads) c.reads_are c.message.few)

raised_gives : (reads given call more : ℕ) → reads ≤ given → call ≤ more → reads + call < 2 ^ 64 → reads + call ≤ raised_128 given more
raised_gives reads given call more le each few = omega (arith, le, each, few)

all_gave : (held : List (List ℕ)) (wanted : Option MessageKind) (most : ℕ) (call : SourceCounts) (taken : List ℕ) (left : Option (List ℕ)) (answer : Option (Result DecoderMessage IpcError)) → is_done answer ≡ false → AnswersIn held wanted most call taken left answer → AllGave call
all_gave held wanted most call taken left None done a = absurd (not_done done)
  where
    not_done : true ≡ false → ⊥
    not_done e = cc
all_gave held wanted most call taken left (Some (Ok m)) done a = a.0
all_gave held wanted most call taken left (Some (Err e)) done a = absurd (not_done done)
  where
    not_done : true ≡ false → ⊥
    not_done e = cc

-- each read so far gave a byte
pub still_gives : (held : List (List ℕ)) (wanted : Option MessageKind) (reads given most : ℕ) (before after : SourceCounts) (rest left : Option (List ℕ)) (t : Taken) → reads ≤ given → reads + t.reads < 2 ^ 64 → Came held wanted most before after rest left t → is_done t.answer ≡ false → reads + t.reads ≤ raised_128 given t.given
still_gives held wanted reads given most before after rest left t le few c done =
    let g = all_gave held wanted most c.message.call c.message.taken left t.answer done c.message.answers in
    let each = gives c.message.call.reads c.message.call.given c.message.call.ends c.message.call.faults c.message.each_gives g.0 g.1 in
    raised_gives reads given t.reads t.given le (omega (arith, each, c.reads_are, c.given_are)) few
