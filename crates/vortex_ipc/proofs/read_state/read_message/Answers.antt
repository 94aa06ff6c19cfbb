use Rattle.std.proofs.Common.{◌≡◌, ◌+◌, ◌-◌, ◌<◌, ◌≤◌, ◌++◌, ℕ, List, length, take, Ok, sym, ap, subst, ◌∙◌, arith}
use Rattle.std.specs.Prelude.{min}
use Rattle.vortex_ipc.specs.declared.message.PollRead.{PollRead}
use Rattle.vortex_ipc.specs.Decoder.{DecoderState, fresh, ReadsNext}
use Rattle.vortex_ipc.specs.Decoding.{HasMessage}
use Rattle.vortex_ipc.specs.Message.{message_of}
use Rattle.vortex_ipc.proofs.Underway.{GaveAll, came_end, came_fault, came_limit, came_memory, came_message, came_refused, fails_holds, gave, nothing_behind, some_missing, underway_more}
use Rattle.vortex_ipc.proofs.read_state.read_message.Goals as goal

pub returns-in-Ok-eq0-clause-came : goal.returns-in-Ok-eq0-clause-came
returns-in-Ok-eq0-clause-came g c =
    let counts = g.S.Source.counts in
    let rest = g.S.Source.rest in
    let l = c.loop-made in
    let missing : 0 < l.missing = some_missing c.args.decoder.now.held c.args.wanted (counts c.args.source.now) (counts l.source) (rest c.args.source.now) (rest l.source) l.decoder l.queue l.made l.given l.missing l.invariant.0 in
    let full = l.invariant.1 in
    came_end c.args.decoder.now.held c.args.wanted c.args.most (counts c.args.source.now) (counts l.source) (counts c.read_piece.new.source) (rest c.args.source.now) (rest l.source) (rest c.read_piece.new.source) l.decoder l.queue c.read_piece.new.piece l.made l.given l.missing c.in-Ok-eq0.field-0 (min l.missing (length l.piece)) c.ended.result
    l.invariant.0 (omega arith) c.in-Ok-eq0.field-0-test (omega (arith, missing, full)) c.in-Ok-eq0.ensures.counted c.in-Ok-eq0.ensures.bytes c.ended.ensures

pub returns-in-Err-clause-came : goal.returns-in-Err-clause-came
returns-in-Err-clause-came g c =
    let counts = g.S.Source.counts in
    let rest = g.S.Source.rest in
    let l = c.loop-made in
    came_fault c.args.decoder.now.held c.args.wanted c.args.most (counts c.args.source.now) (counts l.source) (counts c.read_piece.new.source) (rest c.args.source.now) (rest l.source) (rest c.read_piece.new.source) l.decoder l.queue l.made l.given l.missing c.failed.result
    l.invariant.0 (omega arith) c.in-Err.ensures.counted c.in-Err.ensures.bytes c.failed.ensures

pub returns-in-Err-push-clause-came : goal.returns-in-Err-push-clause-came
returns-in-Err-push-clause-came g c =
    let counts = g.S.Source.counts in
    let rest = g.S.Source.rest in
    let l = c.loop-made in
    let len : length c.read_piece.new.piece ≡ length l.piece = c.read_piece.ensures.len in
    let full = l.invariant.1 in
    let bound : c.in-Ok.count ≤ min l.missing (length l.piece) = c.in-Ok.ensures.bound in
    let le : c.in-Ok.count ≤ length c.read_piece.new.piece = omega (arith, bound, len) in
    let missed : c.in-Ok.count ≤ l.missing = omega (arith, bound) in
    let all = gave c.args.decoder.now.held c.args.wanted (counts c.args.source.now) (counts l.source) (counts c.read_piece.new.source) (rest c.args.source.now) (rest l.source) (rest c.read_piece.new.source) l.decoder l.queue c.read_piece.new.piece l.made l.given l.missing c.in-Ok.count (min l.missing (length l.piece)) l.invariant.0 c.in-Ok.count-test.1 le (omega (arith, bound, full)) missed c.in-Ok.ensures.counted c.in-Ok.ensures.bytes in
    came_memory c.args.decoder.now.held c.args.wanted c.args.most (counts c.args.source.now) (counts c.read_piece.new.source) (rest c.args.source.now) (rest c.read_piece.new.source) _ _ _ c.failed-in-Err-push.result c.in-Err-push.error all (omega arith) c.failed-in-Err-push.ensures c.in-Err-push.ensures.kept.0

pub returns-in-Ok-Some-clause-came : goal.returns-in-Ok-Some-clause-came
returns-in-Ok-Some-clause-came g c =
    let counts = g.S.Source.counts in
    let rest = g.S.Source.rest in
    let l = c.loop-made in
    let len : length c.read_piece.new.piece ≡ length l.piece = c.read_piece.ensures.len in
    let full = l.invariant.1 in
    let bound : c.in-Ok.count ≤ min l.missing (length l.piece) = c.in-Ok.ensures.bound in
    let le : c.in-Ok.count ≤ length c.read_piece.new.piece = omega (arith, bound, len) in
    let missed : c.in-Ok.count ≤ l.missing = omega (arith, bound) in
    let all = gave c.args.decoder.now.held c.args.wanted (counts c.args.source.now) (counts l.source) (counts c.read_piece.new.source) (rest c.args.source.now) (rest l.source) (rest c.read_piece.new.source) l.decoder l.queue c.read_piece.new.piece l.made l.given l.missing c.in-Ok.count (min l.missing (length l.piece)) l.invariant.0 c.in-Ok.count-test.1 le (omega (arith, bound, full)) missed c.in-Ok.ensures.counted c.in-Ok.ensures.bytes in
    let pushed : c.push.new.self ≡ l.queue ++ take c.in-Ok.count c.read_piece.new.piece = c.in_default.ensures.pushed in
    let r = subst (λ (p : PollRead). ReadsNext c.args.wanted l.decoder c.push.new.self (Ok p) c.read_wanted.new.self c.read_wanted.new.bytes) c.in-Ok-Some.field-0-is c.in-Ok-Some.ensures in
    let has = subst (λ (x : List ℕ). HasMessage c.args.decoder.now.held c.args.wanted (l.decoder.begun ++ x) (message_of c.in-Ok-Some.message) c.read_wanted.new.bytes) pushed (subst (λ (x : List (List ℕ)). HasMessage x c.args.wanted (l.decoder.begun ++ c.push.new.self) (message_of c.in-Ok-Some.message) c.read_wanted.new.bytes) l.invariant.0.holds r.1) in
    let none = nothing_behind c.args.decoder.now.held c.args.wanted (counts c.args.source.now) (counts l.source) (rest c.args.source.now) (rest l.source) l.decoder l.queue c.read_piece.new.piece l.made l.given l.missing c.in-Ok.count (message_of c.in-Ok-Some.message) c.read_wanted.new.bytes l.invariant.0 le missed has in
    came_message c.args.decoder.now.held c.args.wanted c.args.most (counts c.args.source.now) (counts c.read_piece.new.source) (rest c.args.source.now) (rest c.read_piece.new.source) _ c.read_wanted.new.bytes _ _ c.in-Ok-Some.message all (omega arith) has none

pub returns-in-Ok-Some-clause-ready : goal.returns-in-Ok-Some-clause-ready
returns-in-Ok-Some-clause-ready g c =
    let counts = g.S.Source.counts in
    let rest = g.S.Source.rest in
    let l = c.loop-made in
    let len : length c.read_piece.new.piece ≡ length l.piece = c.read_piece.ensures.len in
    let full = l.invariant.1 in
    let bound : c.in-Ok.count ≤ min l.missing (length l.piece) = c.in-Ok.ensures.bound in
    let le : c.in-Ok.count ≤ length c.read_piece.new.piece = omega (arith, bound, len) in
    let missed : c.in-Ok.count ≤ l.missing = omega (arith, bound) in
    let pushed : c.push.new.self ≡ l.queue ++ take c.in-Ok.count c.read_piece.new.piece = c.in_default.ensures.pushed in
    let r = subst (λ (p : PollRead). ReadsNext c.args.wanted l.decoder c.push.new.self (Ok p) c.read_wanted.new.self c.read_wanted.new.bytes) c.in-Ok-Some.field-0-is c.in-Ok-Some.ensures in
    let has = subst (λ (x : List ℕ). HasMessage c.args.decoder.now.held c.args.wanted (l.decoder.begun ++ x) (message_of c.in-Ok-Some.message) c.read_wanted.new.bytes) pushed (subst (λ (x : List (List ℕ)). HasMessage x c.args.wanted (l.decoder.begun ++ c.push.new.self) (message_of c.in-Ok-Some.message) c.read_wanted.new.bytes) l.invariant.0.holds r.1) in
    let none = nothing_behind c.args.decoder.now.held c.args.wanted (counts c.args.source.now) (counts l.source) (rest c.args.source.now) (rest l.source) l.decoder l.queue c.read_piece.new.piece l.made l.given l.missing c.in-Ok.count (message_of c.in-Ok-Some.message) c.read_wanted.new.bytes l.invariant.0 le missed has in
    λ same. (subst (λ (x : List (List ℕ)). c.read_wanted.new.self ≡ fresh x) l.invariant.0.holds r.2, none)

pub returns-in-Ok-Some-clause-held : goal.returns-in-Ok-Some-clause-held
returns-in-Ok-Some-clause-held g c =
    let l = c.loop-made in
    let r = subst (λ (p : PollRead). ReadsNext c.args.wanted l.decoder c.push.new.self (Ok p) c.read_wanted.new.self c.read_wanted.new.bytes) c.in-Ok-Some.field-0-is c.in-Ok-Some.ensures in
    ap (λ (d : DecoderState). d.held) r.2 ∙ l.invariant.0.holds

pub returns-in-Err-read_wanted-clause-held : goal.returns-in-Err-read_wanted-clause-held
returns-in-Err-read_wanted-clause-held g c =
    let l = c.loop-made in
    fails_holds c.args.wanted l.decoder c.read_wanted.new.self c.push.new.self c.read_wanted.new.bytes c.in-Err-read_wanted.error c.in-Err-read_wanted.ensures ∙ l.invariant.0.holds

pub returns-in-Err-read_wanted-clause-came : goal.returns-in-Err-read_wanted-clause-came
returns-in-Err-read_wanted-clause-came g c =
    let counts = g.S.Source.counts in
    let rest = g.S.Source.rest in
    let l = c.loop-made in
    let len : length c.read_piece.new.piece ≡ length l.piece = c.read_piece.ensures.len in
    let full = l.invariant.1 in
    let bound : c.in-Ok.count ≤ min l.missing (length l.piece) = c.in-Ok.ensures.bound in
    let le : c.in-Ok.count ≤ length c.read_piece.new.piece = omega (arith, bound, len) in
    let missed : c.in-Ok.count ≤ l.missing = omega (arith, bound) in
    let all = gave c.args.decoder.now.held c.args.wanted (counts c.args.source.now) (counts l.source) (counts c.read_piece.new.source) (rest c.args.source.now) (rest l.source) (rest c.read_piece.new.source) l.decoder l.queue c.read_piece.new.piece l.made l.given l.missing c.in-Ok.count (min l.missing (length l.piece)) l.invariant.0 c.in-Ok.count-test.1 le (omega (arith, bound, full)) missed c.in-Ok.ensures.counted c.in-Ok.ensures.bytes in
    let pushed : c.push.new.self ≡ l.queue ++ take c.in-Ok.count c.read_piece.new.piece = c.in_default.ensures.pushed in
    let given = subst (λ (x : List ℕ). GaveAll c.args.decoder.now.held c.args.wanted (counts c.args.source.now) (counts c.read_piece.new.source) (rest c.args.source.now) (rest c.read_piece.new.source) (l.decoder.begun ++ x) (l.made + 1) (l.given + c.in-Ok.count)) (sym pushed) all in
    came_refused c.args.decoder.now.held c.args.wanted c.args.most (counts c.args.source.now) (counts c.read_piece.new.source) (rest c.args.source.now) (rest c.read_piece.new.source) l.decoder c.read_wanted.new.self c.push.new.self c.read_wanted.new.bytes _ _ c.failed-in-Err-read_wanted.result c.in-Err-read_wanted.error given (omega arith) l.invariant.0.going l.invariant.0.holds c.in-Err-read_wanted.ensures c.failed-in-Err-read_wanted.ensures

pub loop-made-preserved : goal.loop-made-preserved
loop-made-preserved g c =
    let counts = g.S.Source.counts in
    let rest = g.S.Source.rest in
    let l = c.loop-made in
    let len : length c.read_piece.new.piece ≡ length l.piece = c.read_piece.ensures.len in
    let full = l.invariant.1 in
    let bound : c.in-Ok.count ≤ min l.missing (length l.piece) = c.in-Ok.ensures.bound in
    let le : c.in-Ok.count ≤ length c.read_piece.new.piece = omega (arith, bound, len) in
    let missed : c.in-Ok.count ≤ l.missing = omega (arith, bound) in
    let all = gave c.args.decoder.now.held c.args.wanted (counts c.args.source.now) (counts l.source) (counts c.read_piece.new.source) (rest c.args.source.now) (rest l.source) (rest c.read_piece.new.source) l.decoder l.queue c.read_piece.new.piece l.made l.given l.missing c.in-Ok.count (min l.missing (length l.piece)) l.invariant.0 c.in-Ok.count-test.1 le (omega (arith, bound, full)) missed c.in-Ok.ensures.counted c.in-Ok.ensures.bytes in
    let pushed : c.push.new.self ≡ l.queue ++ take c.in-Ok.count c.read_piece.new.piece = c.in_default.ensures.pushed in
    let given = subst (λ (x : List ℕ). GaveAll c.args.decoder.now.held c.args.wanted (counts c.args.source.now) (counts c.read_piece.new.source) (rest c.args.source.now) (rest c.read_piece.new.source) (l.decoder.begun ++ x) (l.made + 1) (l.given + c.in-Ok.count)) (sym pushed) all in
    let r = subst (λ (p : PollRead). ReadsNext c.args.wanted l.decoder c.push.new.self (Ok p) c.read_wanted.new.self c.read_wanted.new.bytes) c.in-Ok-NeedMore.field-0-is c.in-Ok-NeedMore.ensures in
    (underway_more c.args.decoder.now.held c.args.wanted (counts c.args.source.now) (counts c.read_piece.new.source) (rest c.args.source.now) (rest c.read_piece.new.source) l.decoder c.read_wanted.new.self c.push.new.self c.read_wanted.new.bytes _ _ c.in-Ok-NeedMore.size (c.in-Ok-NeedMore.size - c.len.result) given l.invariant.0.holds r (ap (λ n. c.in-Ok-NeedMore.size - n) c.len.ensures), len ∙ full)

pub returns-clause-came : goal.returns-clause-came
returns-clause-came g c =
    let counts = g.S.Source.counts in
    let rest = g.S.Source.rest in
    let l = c.loop-made in
    came_limit c.args.decoder.now.held c.args.wanted c.args.most (counts c.args.source.now) (counts l.source) (rest c.args.source.now) (rest l.source) l.decoder l.queue l.made l.given l.missing c.failed-2.result l.invariant.0 (omega arith) c.failed-2.ensures
