use Rattle.std.proofs.Common.{◌≡◌, ◌++◌, ℕ, List, true, false, ap, subst, rules}
use Rattle.vortex_encodings.specs.Encodings.{names_of}
use Rattle.vortex_ipc.specs.inner.Begun.{Gone, StopsBy, begun_bytes, has_failed}
use Rattle.vortex_ipc.proofs.Steps.{fails_by}
use Rattle.vortex_ipc.proofs.decoder.MessageDecoder.read_wanted.Goals as goal

pub returns-in-Err : goal.returns-in-Err
returns-in-Err c =
    let old = c.args.self.now in
    let going : old.failed ≡ false = search rules in
    let begun : begun_bytes c.replace-begun.result ≡ old.begun = search rules in
    let failed : has_failed c.replace-begun.new.dest ≡ true = ap has_failed c.replace-begun.ensures.after in
    let held : names_of c.self.inside.registry ≡ old.held = search rules in
    let stops = subst (λ (l : List ℕ). StopsBy (names_of c.self.inside.registry) c.args.wanted (l ++ c.args.bytes.now) c.in-Err.error) begun c.in-Err.ensures.stopped.0 in
    let gone = subst (λ (l : List ℕ). Gone (names_of c.self.inside.registry) c.args.wanted l c.args.bytes.now c.in-Err.error c.step.new.bytes) begun c.in-Err.ensures.stopped.1 in
    fails_by c.args.wanted old _ c.args.bytes.now c.step.new.bytes c.in-Err.error going (failed, held)
    (subst (λ (h : List (List ℕ)). StopsBy h c.args.wanted (old.begun ++ c.args.bytes.now) c.in-Err.error) held stops)
    (subst (λ (h : List (List ℕ)). Gone h c.args.wanted old.begun c.args.bytes.now c.in-Err.error c.step.new.bytes) held gone)
