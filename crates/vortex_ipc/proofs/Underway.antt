-- What holds while a message is read from a source.
use Rattle.std.proofs.Common.{◌≡◌, inl, inr, ℕ, ◌+◌, ◌*◌, ◌<◌, ◌≤◌, Bool, true, false, cond, eqb, ltb, ◌&&◌, List, [], ◌++◌, length, take, Option, Some, None, Result, Ok, Err, refl, sym, ap, subst, ◌∙◌, arith, append_assoc, append-nil, zero, suc, ◌-◌}
use Rattle.std.proofs.Math.Dec.{eqb-suc-zero}
use Rattle.std.proofs.KnownBytes.{Consumes-nil, Consumes-trans, Consumes-kept}
use Rattle.std.proofs.lemmas.List.{length-append, length-take-le, nil_from_length}
use Rattle.std.proofs.lemmas.Bool.{lt-ltb, ne_eqb, eq-eqb}
use Rattle.std.specs.Io.KnownBytes.{Consumes, Keeps, IsAtEnd}
use Rattle.vortex_stream.specs.Counts.{raised_64, raised_128, raised_by}
use Rattle.vortex_stream.specs.declared.counts.SourceCounts.{SourceCounts}
use Rattle.vortex_stream.specs.declared.kind.MessageKind.{MessageKind}
use Rattle.vortex_stream.specs.declared.error.IpcError.{IpcError}
use Rattle.vortex_stream.specs.declared.error.IpcError.TheVariants as error
use Rattle.vortex_ipc.specs.declared.message.DecoderMessage.{DecoderMessage}
use Rattle.vortex_ipc.specs.declared.message.PollRead.TheVariants as poll
use Rattle.vortex_ipc.specs.declared.read_state.Taken.{Taken}
use Rattle.vortex_ipc.specs.Message.{Message, message_of}
use Rattle.vortex_ipc.specs.Decoding.{IsCut, IsLeast, NeedsMore, HasMessage}
use Rattle.vortex_ipc.specs.Decoder.{DecoderState, fresh, FailsBy, ReadsNext}
use Rattle.vortex_ipc.specs.Reader.{AllGave, AnswersIn, FailsIn}
use Rattle.vortex_ipc.specs.inner.Came.{Came, at_end}
use Rattle.vortex_ipc.specs.inner.Pieces.{TookPiece}
use Rattle.vortex_ipc.proofs.Fronts.{exact}
use Rattle.vortex_ipc.proofs.Outcomes.{least, prefix_cut}

-- ---- counts of one call after another

same_64 : (a : ℕ) → raised_64 a 0 ≡ a
same_64 a = omega arith

same_128 : (a : ℕ) → raised_128 a 0 ≡ a
same_128 a = omega arith

none_64 : (a n : ℕ) → raised_64 (raised_64 a 0) n ≡ raised_64 a n
none_64 a n = omega arith

more_128 : (a m n : ℕ) → raised_128 (raised_128 a m) n ≡ raised_128 a (m + n)
more_128 a m n = omega arith

-- a call that counts so
abbrev pub counts : ℕ → ℕ → ℕ → ℕ → SourceCounts
counts faults ends given reads = record { faults = faults; ends = ends; given = given; reads = reads }

raised_none : (c : SourceCounts) → c ≡ raised_by c (counts 0 0 0 0)
raised_none c = rw (same_64 c.faults, same_64 c.ends, same_128 c.given, same_128 c.reads) refl

twice : (c : SourceCounts) (given made faults ends extra : ℕ) → raised_by (raised_by c (counts 0 0 given made)) (counts faults ends extra 1) ≡ raised_by c (counts faults ends (given + extra) (made + 1))
twice c given made faults ends extra = rw (none_64 c.faults faults, none_64 c.ends ends, more_128 c.given given extra, more_128 c.reads made 1) refl

after_read : (before now after : SourceCounts) (given made faults ends extra : ℕ) → now ≡ raised_by before (counts 0 0 given made) → after ≡ raised_by now (counts faults ends extra 1) → after ≡ raised_by before (counts faults ends (given + extra) (made + 1))
after_read before now after given made faults ends extra e f = f ∙ ap (λ (c : SourceCounts). raised_by c (counts faults ends extra 1)) e ∙ twice before given made faults ends extra

-- whether a read of so many bytes tells the end, as a number
abbrev pub ends_of : ℕ → ℕ → ℕ
ends_of count room = cond (eqb count 0 && ltb 0 room) 1 0

some_ends : (count room : ℕ) → (count ≡ 0 → ⊥) → ends_of count room ≡ 0
some_ends count room some = ap (λ t. cond (t && ltb 0 room) 1 0) (ne_eqb count 0 some)

none_ends : (count room : ℕ) → count ≡ 0 → 0 < room → ends_of count room ≡ 1
none_ends count room none long = ap (λ t. cond (t && ltb 0 room) 1 0) (eq-eqb count 0 none) ∙ ap (λ t. cond t 1 0) (lt-ltb 0 room long)

-- ---- the loop

-- So many reads gave so many bytes, all of which the decoder and the queue hold. More are missing of
-- the present part, of which the queue holds what is there.
pub record Underway (held : List (List ℕ)) (wanted : Option MessageKind) (before now : SourceCounts) (rest left : Option (List ℕ)) (d : DecoderState) (q : List ℕ) (made given missing : ℕ) : Type 0 where
  pub counted : now ≡ raised_by before (counts 0 0 given made)
  pub each : made ≤ given
  pub given_is : length (d.begun ++ q) ≡ given
  pub small : given ≤ 65536 * made
  pub taken : Consumes rest left (d.begun ++ q)
  pub going : d.failed ≡ false
  pub holds : d.held ≡ held
  pub size : ℕ
  pub needs : NeedsMore held wanted (d.begun ++ q) size q
  pub missing_is : missing + length q ≡ size

-- before the first read
pub underway_first : (held : List (List ℕ)) (wanted : Option MessageKind) (c : SourceCounts) (rest : Option (List ℕ)) (d : DecoderState) (q : List ℕ) → d ≡ fresh held → q ≡ [] → Underway held wanted c c rest rest d q 0 0 4
underway_first held wanted c rest d q e f = subst (λ (x : DecoderState). Underway held wanted c c rest rest x q 0 0 4) (sym e) (subst (λ (l : List ℕ). Underway held wanted c c rest rest (fresh held) l 0 0 4) (sym f) (record {
  counted = raised_none c;
  each = omega arith;
  given_is = refl;
  small = omega arith;
  taken = Consumes-nil rest;
  going = refl;
  holds = refl;
  size = 4;
  needs = inl (refl, refl, omega arith);
  missing_is = refl;
}))

short : (held : List (List ℕ)) (wanted : Option MessageKind) (b there : List ℕ) (size : ℕ) → NeedsMore held wanted b size there → length there < size
short held wanted b there size (inl n) = n.2
short held wanted b there size (inr (inl n)) = n.1
short held wanted b there size (inr (inr n)) = n.3

-- something is missing
pub some_missing : (held : List (List ℕ)) (wanted : Option MessageKind) (before now : SourceCounts) (rest left : Option (List ℕ)) (d : DecoderState) (q : List ℕ) (made given missing : ℕ) → Underway held wanted before now rest left d q made given missing → 0 < missing
some_missing held wanted before now rest left d q made given missing u = let lt = short held wanted (d.begun ++ q) q u.size u.needs in omega (arith, lt, u.missing_is)

-- ---- ends of the loop

cut_least : (held : List (List ℕ)) (wanted : Option MessageKind) (bytes there : List ℕ) (size : ℕ) → NeedsMore held wanted bytes size there → IsLeast held wanted bytes
cut_least held wanted bytes there size n front back e some = prefix_cut held wanted bytes front back there size n e

-- what a call comes to that counts so and took these bytes
came : (held : List (List ℕ)) (wanted : Option MessageKind) (most : ℕ) (before after : SourceCounts) (rest left : Option (List ℕ)) (t : Taken) (faults ends given reads : ℕ) (taken : List ℕ) (answer : Option (Result DecoderMessage IpcError))
    → t ≡ record { reads = reads; given = given; answer = answer } → after ≡ raised_by before (counts faults ends given reads) → reads ≤ most → reads ≤ given + ends + faults → length taken ≡ given → Consumes rest left taken → IsLeast held wanted taken
    → AnswersIn held wanted most (counts faults ends given reads) taken left answer → Came held wanted most before after rest left t
came held wanted most before after rest left t faults ends given reads taken answer e counted few each given_is consumed all answers = subst (Came held wanted most before after rest left) (sym e) (record {
  message = record {
    call = counts faults ends given reads;
    taken = taken;
    counted = counted;
    few = few;
    each_gives = each;
    given_is = given_is;
    consumed = consumed;
    least = all;
    answers = answers;
  };
  reads_are = refl;
  given_are = refl;
})

end_answers : (held : List (List ℕ)) (wanted : Option MessageKind) (most given reads : ℕ) (taken : List ℕ) (left : Option (List ℕ)) → length taken ≡ given → IsAtEnd left → IsCut held wanted taken → AnswersIn held wanted most (counts 0 1 given reads) taken left (at_end given)
end_answers held wanted most zero reads taken left len at cut = ((refl, refl, at), nil_from_length taken len)
end_answers held wanted most (suc n) reads taken left len at cut =
    let some : at_end (suc n) ≡ Some (Err error.UnexpectedEnd) = ap (λ t. cond t None (Some (Err error.UnexpectedEnd))) (eqb-suc-zero n) in
    subst (AnswersIn held wanted most (counts 0 1 (suc n) reads) taken left) (sym some) ((refl, refl, at), omega (arith, len), cut)

-- the end was told
pub came_end : (held : List (List ℕ)) (wanted : Option MessageKind) (most : ℕ) (before now after : SourceCounts) (rest left next : Option (List ℕ)) (d : DecoderState) (q piece : List ℕ) (made given missing count room : ℕ) (t : Taken)
    → Underway held wanted before now rest left d q made given missing → made < most → count ≡ 0 → 0 < room → after ≡ raised_by now (counts 0 (ends_of count room) count 1) → TookPiece left next piece room count
    → t ≡ record { reads = made + 1; given = given; answer = at_end given } → Came held wanted most before after rest next t
came_end held wanted most before now after rest left next d q piece made given missing count room t u lt none long counted took e =
    let each = u.each in
    let one : after ≡ raised_by now (counts 0 1 0 1) = counted ∙ ap (λ n. raised_by now (counts 0 n count 1)) (none_ends count room none long) ∙ ap (λ n. raised_by now (counts 0 1 n 1)) none in
    let all : given + 0 ≡ given = omega arith in
    let counts_are : after ≡ raised_by before (counts 0 1 given (made + 1)) = after_read before now after given made 0 1 0 u.counted one ∙ ap (λ n. raised_by before (counts 0 1 n (made + 1))) all in
    let joined : Consumes rest next ((d.begun ++ q) ++ take count piece) = Consumes-trans rest left next (d.begun ++ q) (take count piece) u.taken took.0 in
    let taken : Consumes rest next (d.begun ++ q) = subst (Consumes rest next) (ap (λ n. (d.begun ++ q) ++ take n piece) none ∙ append-nil (d.begun ++ q)) joined in
    came held wanted most before after rest next t 0 1 given (made + 1) (d.begun ++ q) (at_end given) e counts_are (omega (arith, lt)) (omega (arith, each)) u.given_is taken (cut_least held wanted (d.begun ++ q) q u.size u.needs)
    (end_answers held wanted most given (made + 1) (d.begun ++ q) next u.given_is (took.1 none long) (u.size, q, u.needs))

-- a read failed
pub came_fault : (held : List (List ℕ)) (wanted : Option MessageKind) (most : ℕ) (before now after : SourceCounts) (rest left next : Option (List ℕ)) (d : DecoderState) (q : List ℕ) (made given missing : ℕ) (t : Taken)
    → Underway held wanted before now rest left d q made given missing → made < most → after ≡ raised_by now (counts 1 0 0 1) → Keeps left next
    → t ≡ record { reads = made + 1; given = given; answer = Some (Err error.ReadFault) } → Came held wanted most before after rest next t
came_fault held wanted most before now after rest left next d q made given missing t u lt counted kept e =
    let each = u.each in
    let all : given + 0 ≡ given = omega arith in
    let counts_are : after ≡ raised_by before (counts 1 0 given (made + 1)) = after_read before now after given made 1 0 0 u.counted counted ∙ ap (λ n. raised_by before (counts 1 0 n (made + 1))) all in
    came held wanted most before after rest next t 1 0 given (made + 1) (d.begun ++ q) (Some (Err error.ReadFault)) e counts_are (omega (arith, lt)) (omega (arith, each)) u.given_is (Consumes-kept rest left next (d.begun ++ q) u.taken kept) (cut_least held wanted (d.begun ++ q) q u.size u.needs)
    (refl, refl, (u.size, q, u.needs))

-- as many reads were made as may be
pub came_limit : (held : List (List ℕ)) (wanted : Option MessageKind) (most : ℕ) (before now : SourceCounts) (rest left : Option (List ℕ)) (d : DecoderState) (q : List ℕ) (made given missing : ℕ) (t : Taken)
    → Underway held wanted before now rest left d q made given missing → made ≡ most → t ≡ record { reads = most; given = given; answer = Some (Err error.ReadLimit) } → Came held wanted most before now rest left t
came_limit held wanted most before now rest left d q made given missing t u all e =
    let each = u.each in
    came held wanted most before now rest left t 0 0 given most (d.begun ++ q) (Some (Err error.ReadLimit)) e (u.counted ∙ ap (λ n. raised_by before (counts 0 0 given n)) all) (omega arith) (omega (arith, each, all)) u.given_is u.taken (cut_least held wanted (d.begun ++ q) q u.size u.needs)
    ((refl, refl), refl, (u.size, q, u.needs))

-- ---- a read that gave some bytes

-- So many reads gave so many bytes, and these are all.
pub record GaveAll (held : List (List ℕ)) (wanted : Option MessageKind) (before after : SourceCounts) (rest next : Option (List ℕ)) (all : List ℕ) (reads given : ℕ) : Type 0 where
  pub counted : after ≡ raised_by before (counts 0 0 given reads)
  pub each : reads ≤ given
  pub given_is : length all ≡ given
  pub small : given ≤ 65536 * reads
  pub taken : Consumes rest next all
  pub least : IsLeast held wanted all

pub gave : (held : List (List ℕ)) (wanted : Option MessageKind) (before now after : SourceCounts) (rest left next : Option (List ℕ)) (d : DecoderState) (q piece : List ℕ) (made given missing count room : ℕ)
    → Underway held wanted before now rest left d q made given missing → (count ≡ 0 → ⊥) → count ≤ length piece → count ≤ 65536 → count ≤ missing → after ≡ raised_by now (counts 0 (ends_of count room) count 1) → TookPiece left next piece room count
    → GaveAll held wanted before after rest next (d.begun ++ (q ++ take count piece)) (made + 1) (given + count)
gave held wanted before now after rest left next d q piece made given missing count room u some le few missed counted took =
    let each = u.each in
    let small = u.small in
    let size = u.missing_is in
    let same : (d.begun ++ q) ++ take count piece ≡ d.begun ++ (q ++ take count piece) = append_assoc d.begun q (take count piece) in
    let len : length (d.begun ++ (q ++ take count piece)) ≡ given + count = ap length (sym same) ∙ length-append (d.begun ++ q) (take count piece) ∙ ap (λ n. n + length (take count piece)) u.given_is ∙ ap (λ n. given + n) (length-take-le count piece le) in
    record {
      counted = after_read before now after given made 0 0 count u.counted (counted ∙ ap (λ n. raised_by now (counts 0 n count 1)) (some_ends count room some));
      each = omega (arith, each, some);
      given_is = len;
      small = omega (arith, small, few);
      taken = subst (Consumes rest next) same (Consumes-trans rest left next (d.begun ++ q) (take count piece) u.taken took.0);
      least = λ front back e long. least held wanted (d.begun ++ q) q (take count piece) front back u.size u.needs (omega (arith, missed, size, length-append q (take count piece), length-take-le count piece le)) (same ∙ e) long;
    }

-- it failed behind these bytes
came_failed : (held : List (List ℕ)) (wanted : Option MessageKind) (most : ℕ) (before after : SourceCounts) (rest next : Option (List ℕ)) (all : List ℕ) (reads given : ℕ) (t : Taken) (e : IpcError)
    → GaveAll held wanted before after rest next all reads given → reads ≤ most → t ≡ record { reads = reads; given = given; answer = Some (Err e) } → FailsIn held wanted most (counts 0 0 given reads) all next e → Came held wanted most before after rest next t
came_failed held wanted most before after rest next all reads given t e g few is fails =
    let each = g.each in
    came held wanted most before after rest next t 0 0 given reads all (Some (Err e)) is g.counted few (omega (arith, each)) g.given_is g.taken g.least fails

-- for lack of memory
pub came_memory : (held : List (List ℕ)) (wanted : Option MessageKind) (most : ℕ) (before after : SourceCounts) (rest next : Option (List ℕ)) (all : List ℕ) (reads given : ℕ) (t : Taken) (e : IpcError)
    → GaveAll held wanted before after rest next all reads given → reads ≤ most → t ≡ record { reads = reads; given = given; answer = Some (Err e) } → e ≡ error.OutOfMemory → Came held wanted most before after rest next t
came_memory held wanted most before after rest next all reads given t e g few is memory =
    came_failed held wanted most before after rest next all reads given t e g few is (subst (FailsIn held wanted most (counts 0 0 given reads) all next) (sym memory) (refl, refl))

decoder_fails : (wanted : Option MessageKind) (most : ℕ) (call : SourceCounts) (old new : DecoderState) (before after : List ℕ) (left : Option (List ℕ)) (e : IpcError) → AllGave call → old.failed ≡ false → FailsBy wanted old before e new after → FailsIn old.held wanted most call (old.begun ++ before) left e
decoder_fails wanted most call old new before after left error.Failed g going h = absurd (not_failed old.failed going h.0)
  where
    not_failed : (b : Bool) → b ≡ false → b ≡ true → ⊥
    not_failed true e f = cc
    not_failed false e f = cc
decoder_fails wanted most call old new before after left error.OutOfMemory g going h = g
decoder_fails wanted most call old new before after left error.MalformedHeader g going h = (g, h.1)
decoder_fails wanted most call old new before after left (error.WrongKind kind) g going h = (g, h.1)
decoder_fails wanted most call old new before after left error.MalformedDType g going h = (g, h.1)
decoder_fails wanted most call old new before after left error.UnknownEncoding g going h = (g, h.1)
decoder_fails wanted most call old new before after left error.MalformedArray g going h = (g, h.1)
decoder_fails wanted most call old new before after left error.UnexpectedEnd g going h = absurd h
decoder_fails wanted most call old new before after left error.ReadFault g going h = absurd h
decoder_fails wanted most call old new before after left error.ReadLimit g going h = absurd h
decoder_fails wanted most call old new before after left error.WriteFault g going h = absurd h
decoder_fails wanted most call old new before after left error.TooLarge g going h = absurd h

-- a decoder that failed holds what it held
pub fails_holds : (wanted : Option MessageKind) (old new : DecoderState) (before after : List ℕ) (e : IpcError) → FailsBy wanted old before e new after → new.held ≡ old.held
fails_holds wanted old new before after error.Failed h = ap (λ (d : DecoderState). d.held) h.1
fails_holds wanted old new before after error.OutOfMemory h = h.1.1
fails_holds wanted old new before after error.MalformedHeader h = h.2.1
fails_holds wanted old new before after (error.WrongKind kind) h = h.2.1
fails_holds wanted old new before after error.UnknownEncoding h = h.2.1
fails_holds wanted old new before after error.MalformedDType h = h.2.1
fails_holds wanted old new before after error.MalformedArray h = h.2.1
fails_holds wanted old new before after error.UnexpectedEnd h = absurd h
fails_holds wanted old new before after error.ReadFault h = absurd h
fails_holds wanted old new before after error.ReadLimit h = absurd h
fails_holds wanted old new before after error.WriteFault h = absurd h
fails_holds wanted old new before after error.TooLarge h = absurd h

-- as the decoder did
pub came_refused : (held : List (List ℕ)) (wanted : Option MessageKind) (most : ℕ) (before after : SourceCounts) (rest next : Option (List ℕ)) (old new : DecoderState) (q left : List ℕ) (reads given : ℕ) (t : Taken) (e : IpcError)
    → GaveAll held wanted before after rest next (old.begun ++ q) reads given → reads ≤ most → old.failed ≡ false → old.held ≡ held → FailsBy wanted old q e new left → t ≡ record { reads = reads; given = given; answer = Some (Err e) } → Came held wanted most before after rest next t
came_refused held wanted most before after rest next old new q left reads given t e g few going holds h is =
    came_failed held wanted most before after rest next (old.begun ++ q) reads given t e g few is (subst (λ (x : List (List ℕ)). FailsIn x wanted most (counts 0 0 given reads) (old.begun ++ q) next e) holds (decoder_fails wanted most (counts 0 0 given reads) old new q left next e (refl, refl) going h))

-- nothing is behind the message
pub nothing_behind : (held : List (List ℕ)) (wanted : Option MessageKind) (before now : SourceCounts) (rest left : Option (List ℕ)) (d : DecoderState) (q piece : List ℕ) (made given missing count : ℕ) (message : Message) (behind : List ℕ)
    → Underway held wanted before now rest left d q made given missing → count ≤ length piece → count ≤ missing → HasMessage held wanted (d.begun ++ (q ++ take count piece)) message behind → behind ≡ []
nothing_behind held wanted before now rest left d q piece made given missing count message behind u le few h =
    let size = u.missing_is in
    let len : length (q ++ take count piece) ≡ length q + count = length-append q (take count piece) ∙ ap (λ n. length q + n) (length-take-le count piece le) in
    exact held wanted (d.begun ++ q) q (take count piece) u.size message behind u.needs (omega (arith, len, few, size)) (subst (λ (l : List ℕ). HasMessage held wanted l message behind) (sym (append_assoc d.begun q (take count piece))) h)

-- the message is all of the bytes
pub came_message : (held : List (List ℕ)) (wanted : Option MessageKind) (most : ℕ) (before after : SourceCounts) (rest next : Option (List ℕ)) (all behind : List ℕ) (reads given : ℕ) (message : DecoderMessage)
    → GaveAll held wanted before after rest next all reads given → reads ≤ most → HasMessage held wanted all (message_of message) behind → behind ≡ [] → Came held wanted most before after rest next (record { reads = reads; given = given; answer = Some (Ok message) })
came_message held wanted most before after rest next all behind reads given message g few h none =
    let each = g.each in
    came held wanted most before after rest next (record { reads = reads; given = given; answer = Some (Ok message) }) 0 0 given reads all (Some (Ok message)) refl g.counted few (omega (arith, each)) g.given_is g.taken g.least
    ((refl, refl), subst (HasMessage held wanted all (message_of message)) none h)

-- more is missing
pub underway_more : (held : List (List ℕ)) (wanted : Option MessageKind) (before after : SourceCounts) (rest next : Option (List ℕ)) (old new : DecoderState) (q left : List ℕ) (reads given size missing : ℕ)
    → GaveAll held wanted before after rest next (old.begun ++ q) reads given → old.held ≡ held → ReadsNext wanted old q (Ok (poll.NeedMore size)) new left → missing ≡ size - length left → Underway held wanted before after rest next new left reads given missing
underway_more held wanted before after rest next old new q left reads given size missing g holds h e =
    let same : new.begun ++ left ≡ old.begun ++ q = h.3 in
    let asked : NeedsMore held wanted (old.begun ++ q) size left = subst (λ (x : List (List ℕ)). NeedsMore x wanted (old.begun ++ q) size left) holds h.1 in
    let needs : NeedsMore held wanted (new.begun ++ left) size left = subst (λ (l : List ℕ). NeedsMore held wanted l size left) (sym same) asked in
    let lt = short held wanted (new.begun ++ left) left size needs in
    record {
      counted = g.counted;
      each = g.each;
      given_is = ap length same ∙ g.given_is;
      small = g.small;
      taken = subst (Consumes rest next) (sym same) g.taken;
      going = h.2;
      holds = h.4 ∙ holds;
      size = size;
      needs = needs;
      missing_is = omega (arith, e, lt);
    }
