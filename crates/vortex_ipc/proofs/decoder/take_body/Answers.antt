use Rattle.std.proofs.Common.{◌≡◌, ℕ, List, true, false, refl, subst, rules}
use Rattle.vortex_encodings.specs.Encodings.{names_of}
use Rattle.vortex_ipc.specs.Decoding.{is_answered}
use Rattle.vortex_ipc.specs.inner.Begun.{HeadStandsFor}
use Rattle.vortex_ipc.proofs.GoneLemmas.{gone_body, gone_none}
use Rattle.vortex_ipc.proofs.TakenLemmas.{has_message, other_kind, stops_by_body, unknown_encoding}
use Rattle.vortex_ipc.proofs.decoder.take_body.Goals as goal

pub returns-then-not-is_answered-clause-stopped : goal.returns-then-not-is_answered-clause-stopped
returns-then-not-is_answered-clause-stopped c =
    let other : is_answered c.args.wanted c.args.taken.head.content.kind ≡ false = search rules in
    (other_kind (names_of c.args.registry) c.args.wanted c.args.taken c.args.bytes.now _ c.requires refl other, gone_none (names_of c.args.registry) c.args.wanted c.args.taken c.args.bytes.now _ c.requires)

pub returns-in-Ok-message_of-clause-answered : goal.returns-in-Ok-message_of-clause-answered
returns-in-Ok-message_of-clause-answered c =
    let asked : is_answered c.args.wanted c.args.taken.head.content.kind ≡ true = search rules in
    let known : c.args.taken.head.content.held ≡ true = search rules in
    (has_message (names_of c.args.registry) c.args.wanted c.args.taken c.args.bytes.now c.in-Ok.body.bytes c.take.new.self c.in-Ok-message_of.message c.requires asked known c.in-Ok.ensures.parts c.in-Ok.ensures.len (subst (λ (l : List ℕ). HeadStandsFor l c.in-Ok.body.bytes c.in-Ok-message_of.message) c.as_slice.ensures c.in-Ok-message_of.ensures.message), refl)

pub returns-clause-stopped : goal.returns-clause-stopped
returns-clause-stopped c =
    let asked : is_answered c.args.wanted c.args.taken.head.content.kind ≡ true = search rules in
    let known : c.args.taken.head.content.held ≡ true = search rules in (
      stops_by_body (names_of c.args.registry) c.args.wanted c.args.taken c.args.bytes.now c.in-Ok.body.bytes c.take.new.self c.in-Err.error c.in-Err.error c.requires asked known c.in-Ok.ensures.parts c.in-Ok.ensures.len c.in-Err.ensures.stopped refl,
      gone_body (names_of c.args.registry) c.args.wanted c.args.taken c.args.bytes.now c.in-Ok.body.bytes c.take.new.self c.in-Err.error c.requires asked known c.in-Ok.ensures.parts c.in-Ok.ensures.len,
    )

pub returns-then-not-head-clause-stopped : goal.returns-then-not-head-clause-stopped
returns-then-not-head-clause-stopped c =
    let asked : is_answered c.args.wanted c.args.taken.head.content.kind ≡ true = search rules in
    let unknown : c.args.taken.head.content.held ≡ false = search rules in
    (unknown_encoding (names_of c.args.registry) c.args.wanted c.args.taken c.args.bytes.now _ c.requires refl asked unknown, gone_none (names_of c.args.registry) c.args.wanted c.args.taken c.args.bytes.now _ c.requires)
