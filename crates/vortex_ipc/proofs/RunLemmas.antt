-- A run reads what the pushed bytes come to.
use Rattle.std.proofs.Common.{◌≡◌, ℕ, Bool, true, false, List, [], ◌∷◌, ◌++◌, None, Result, Ok, Err, refl, sym, ap, subst, ◌∙◌, append_assoc, append-nil}
use Rattle.vortex_stream.specs.declared.error.IpcError.{IpcError}
use Rattle.vortex_stream.specs.declared.error.IpcError.TheVariants as error
use Rattle.vortex_ipc.specs.declared.message.PollRead.{PollRead}
use Rattle.vortex_ipc.specs.declared.message.PollRead.TheVariants as poll
use Rattle.vortex_ipc.specs.Message.{Message, message_of}
use Rattle.vortex_ipc.specs.Decoding.{Outcome, more, refused, found, Decodes}
use Rattle.vortex_ipc.specs.Decoder.{DecoderState, fresh, FailsBy, ReadsNext}
use Rattle.vortex_ipc.specs.Cutting.{DecodesAll, IsLast}
use Rattle.vortex_ipc.specs.Runs.{Event, pushed, waited, read, pushed_bytes, read_messages, Runs, IsFinal}
use Rattle.vortex_ipc.proofs.Outcomes.{one_reading, settled}

-- the answer to an outcome that is no message
abbrev answer_to : Result PollRead IpcError → Outcome → Result PollRead IpcError
answer_to a (more size there) = Ok (poll.NeedMore size)
answer_to a (refused e) = Err e
answer_to a (found m rest) = a

-- the bytes come to these messages, and at last to this answer
record ComesTo (held : List (List ℕ)) (bytes : List ℕ) (messages : List Message) (a : Result PollRead IpcError) : Type 0 where
  end : Outcome
  last : IsLast end
  all : DecodesAll held bytes messages end
  answer : (b : Result PollRead IpcError) → answer_to b end ≡ a

comes_refused : (s new : DecoderState) (q left : List ℕ) (e : IpcError) → s.failed ≡ false → IsFinal (Err e) → FailsBy None s q e new left → ComesTo s.held (s.begun ++ q) [] (Err e)
comes_refused s new q left error.Failed going f h = absurd (not_failed s.failed going h.0)
  where
    not_failed : (b : Bool) → b ≡ false → b ≡ true → ⊥
    not_failed true x y = cc
    not_failed false x y = cc
comes_refused s new q left error.OutOfMemory going f h = absurd f
comes_refused s new q left error.MalformedHeader going f h = record { end = refused error.MalformedHeader; last = tt; all = h.1; answer = λ b. refl }
comes_refused s new q left (error.WrongKind kind) going f h = record { end = refused (error.WrongKind kind); last = tt; all = h.1; answer = λ b. refl }
comes_refused s new q left error.MalformedDType going f h = record { end = refused error.MalformedDType; last = tt; all = h.1; answer = λ b. refl }
comes_refused s new q left error.UnknownEncoding going f h = record { end = refused error.UnknownEncoding; last = tt; all = h.1; answer = λ b. refl }
comes_refused s new q left error.MalformedArray going f h = record { end = refused error.MalformedArray; last = tt; all = h.1; answer = λ b. refl }
comes_refused s new q left error.UnexpectedEnd going f h = absurd h
comes_refused s new q left error.ReadFault going f h = absurd h
comes_refused s new q left error.ReadLimit going f h = absurd h
comes_refused s new q left error.WriteFault going f h = absurd h
comes_refused s new q left error.TooLarge going f h = absurd h

comes_last : (s new : DecoderState) (q left : List ℕ) (a : Result PollRead IpcError) → s.failed ≡ false → IsFinal a → ReadsNext None s q a new left → ComesTo s.held (s.begun ++ q) [] a
comes_last s new q left (Ok (poll.Some message)) going f h = absurd f
comes_last s new q left (Ok (poll.NeedMore size)) going f h = record { end = more size left; last = tt; all = h.1; answer = λ b. refl }
comes_last s new q left (Err e) going f h = comes_refused s new q left e going f h

comes_first : (held : List (List ℕ)) (bytes rest : List ℕ) (m : Message) (ms : List Message) (a : Result PollRead IpcError) → Decodes held None bytes (found m rest) → ComesTo held rest ms a → ComesTo held bytes (m ∷ ms) a
comes_first held bytes rest m ms a h c = record { end = c.end; last = c.last; all = (rest, h, c.all); answer = c.answer }

run_comes : (events : List Event) (s : DecoderState) (q : List ℕ) (a : Result PollRead IpcError) → s.failed ≡ false → IsFinal a → Runs s q events a → ComesTo s.held ((s.begun ++ q) ++ pushed_bytes events) (read_messages events) a
run_comes [] s q a going f r = subst (λ (l : List ℕ). ComesTo s.held l [] a) (sym (append-nil (s.begun ++ q))) (comes_last s r.0 q r.1 a going f r.2)
run_comes (pushed piece ∷ events) s q a going f r =
    let same : (s.begun ++ (q ++ piece)) ++ pushed_bytes events ≡ (s.begun ++ q) ++ (piece ++ pushed_bytes events) = ap (λ (l : List ℕ). l ++ pushed_bytes events) (sym (append_assoc s.begun q piece)) ∙ append_assoc (s.begun ++ q) piece (pushed_bytes events) in
    subst (λ (l : List ℕ). ComesTo s.held l (read_messages events) a) same (run_comes events s (q ++ piece) a going f r)
run_comes (waited size ∷ events) s q a going f r =
    let h = r.2 in
    subst (λ (l : List ℕ). ComesTo s.held (l ++ pushed_bytes events) (read_messages events) a) h.3 (subst (λ (x : List (List ℕ)). ComesTo x ((r.0.begun ++ r.1) ++ pushed_bytes events) (read_messages events) a) h.4 (run_comes events r.0 r.1 a h.2 f r.3))
run_comes (read message ∷ events) s q a going f r =
    let h = r.2 in
    let first : Decodes s.held None ((s.begun ++ q) ++ pushed_bytes events) (found (message_of message) (r.1 ++ pushed_bytes events)) = settled s.held None (s.begun ++ q) (pushed_bytes events) (found (message_of message) r.1) tt h.1 in
    let others = run_comes events r.0 r.1 a (ap (λ (x : DecoderState). x.failed) h.2) f r.3 in
    comes_first s.held ((s.begun ++ q) ++ pushed_bytes events) (r.1 ++ pushed_bytes events) (message_of message) (read_messages events) a first
    (subst (λ (x : DecoderState). ComesTo x.held ((x.begun ++ r.1) ++ pushed_bytes events) (read_messages events) a) h.2 others)

one_end : (held : List (List ℕ)) (bytes : List ℕ) (ms ns : List Message) (a b : Result PollRead IpcError) → ComesTo held bytes ms a → ComesTo held bytes ns b → (ms ≡ ns) × (a ≡ b)
one_end held bytes ms ns a b c d =
    let same = one_reading held bytes ms ns c.end d.end c.last d.last c.all d.all in
    (same.0, sym (c.answer a) ∙ ap (answer_to a) same.1 ∙ d.answer a)

-- runs to which the same bytes are pushed read the same
pub same_runs : (held : List (List ℕ)) (events others : List Event) (a b : Result PollRead IpcError) → pushed_bytes events ≡ pushed_bytes others → IsFinal a → IsFinal b → Runs (fresh held) [] events a → Runs (fresh held) [] others b → (read_messages events ≡ read_messages others) × (a ≡ b)
same_runs held events others a b same f g r t =
    one_end held (pushed_bytes others) (read_messages events) (read_messages others) a b (subst (λ (l : List ℕ). ComesTo held l (read_messages events) a) same (run_comes events (fresh held) [] a refl f r)) (run_comes others (fresh held) [] b refl g t)
