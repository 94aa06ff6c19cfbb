-- What a decoder between two messages makes of bytes in hand.
use Rattle.std.proofs.Common.{◌≡◌, ℕ, true, false, List, None, Ok, Err, ap, subst}
use Rattle.vortex_stream.specs.declared.error.IpcError.{IpcError}
use Rattle.vortex_stream.specs.declared.error.IpcError.TheVariants as error
use Rattle.vortex_ipc.specs.declared.message.DecoderMessage.{DecoderMessage}
use Rattle.vortex_ipc.specs.declared.message.PollRead.TheVariants as poll
use Rattle.vortex_ipc.specs.Message.{message_of}
use Rattle.vortex_ipc.specs.Decoding.{IsCut, Decodes, found}
use Rattle.vortex_ipc.specs.Decoder.{DecoderState, fresh, FailsBy, ReadsNext}
use Rattle.vortex_ipc.specs.Reader.{FailsOn}
use Rattle.vortex_ipc.proofs.Underway.{fails_holds}

-- a message
pub buf_message : (d new : DecoderState) (q after : List ℕ) (m : DecoderMessage) → d ≡ fresh d.held → ReadsNext None d q (Ok (poll.Some m)) new after → Decodes d.held None q (found (message_of m) after)
buf_message d new q after m e h = (subst (λ (x : DecoderState). ReadsNext None x q (Ok (poll.Some m)) new after) e h).1

-- after it the decoder is between two messages again
pub buf_fresh : (d new : DecoderState) (q after : List ℕ) (m : DecoderMessage) → ReadsNext None d q (Ok (poll.Some m)) new after → new ≡ fresh d.held
buf_fresh d new q after m h = h.2

-- it holds what it held
pub buf_message_holds : (d new : DecoderState) (q after : List ℕ) (m : DecoderMessage) → ReadsNext None d q (Ok (poll.Some m)) new after → new.held ≡ d.held
buf_message_holds d new q after m h = ap (λ (x : DecoderState). x.held) h.2

pub buf_cut_holds : (d new : DecoderState) (q after : List ℕ) (size : ℕ) → ReadsNext None d q (Ok (poll.NeedMore size)) new after → new.held ≡ d.held
buf_cut_holds d new q after size h = h.4

pub buf_fails_holds : (d new : DecoderState) (q after : List ℕ) (e : IpcError) → ReadsNext None d q (Err e) new after → new.held ≡ d.held
buf_fails_holds d new q after e h = fails_holds None d new q after e h

-- a message that is cut
pub buf_cut : (d new : DecoderState) (q after : List ℕ) (size : ℕ) → d ≡ fresh d.held → ReadsNext None d q (Ok (poll.NeedMore size)) new after → IsCut d.held None q
buf_cut d new q after size e h = (size, after, (subst (λ (x : DecoderState). ReadsNext None x q (Ok (poll.NeedMore size)) new after) e h).1)

fresh_fails : (held : List (List ℕ)) (new : DecoderState) (q after : List ℕ) (e : IpcError) → FailsBy None (fresh held) q e new after → FailsOn held None q e
fresh_fails held new q after error.Failed h = absurd (not_failed h.0)
  where
    not_failed : false ≡ true → ⊥
    not_failed e = cc
fresh_fails held new q after error.OutOfMemory h = tt
fresh_fails held new q after error.MalformedHeader h = h.1
fresh_fails held new q after (error.WrongKind kind) h = h.1
fresh_fails held new q after error.MalformedDType h = h.1
fresh_fails held new q after error.UnknownEncoding h = h.1
fresh_fails held new q after error.MalformedArray h = h.1
fresh_fails held new q after error.UnexpectedEnd h = absurd h
fresh_fails held new q after error.ReadFault h = absurd h
fresh_fails held new q after error.ReadLimit h = absurd h
fresh_fails held new q after error.WriteFault h = absurd h
fresh_fails held new q after error.TooLarge h = absurd h

-- a message that is refused
pub buf_fails : (d new : DecoderState) (q after : List ℕ) (e : IpcError) → d ≡ fresh d.held → ReadsNext None d q (Err e) new after → FailsOn d.held None q e
buf_fails d new q after e is h = fresh_fails d.held new q after e (subst (λ (x : DecoderState). ReadsNext None x q (Err e) new after) is h)
