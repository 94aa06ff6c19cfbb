use Rattle.std.proofs.Common.{◌≡◌, ◌<◌, ℕ, List, None, false, length, refl, subst, ◌∙◌, rules}
use Rattle.vortex_ipc.specs.Decoder.{fresh}
use Rattle.vortex_ipc.specs.Reader.{FailsOn}
use Rattle.vortex_ipc.proofs.BufLemmas.{buf_fails}
use Rattle.vortex_ipc.proofs.Underway.{fails_holds}
use Rattle.vortex_ipc.proofs.buf_reader.BufMessageReader.next.Goals as goal

pub returns-in-Err : goal.returns-in-Err
returns-in-Err c =
    let going : c.args.self.now.done ≡ false = search rules in
    let some : 0 < length c.args.self.now.rest = search rules in
    let between : c.self.inside.decoder ≡ fresh c.self.inside.decoder.held = search rules in
    let bytes : c.self.inside.bytes ≡ c.args.self.now.rest = search rules in
    let fails = buf_fails c.self.inside.decoder c.read_next-poll.new.self c.self.inside.bytes c.read_next-poll.new.bytes c.in-Err.error between c.in-Err.ensures in
    let held : c.self.inside.decoder.held ≡ c.args.self.now.held = search rules in
    let on = subst (λ (l : List ℕ). FailsOn c.self.inside.decoder.held None l c.in-Err.error) bytes fails in
    (going, some, refl, subst (λ (h : List (List ℕ)). FailsOn h None c.args.self.now.rest c.in-Err.error) held on, fails_holds None c.self.inside.decoder c.read_next-poll.new.self c.self.inside.bytes c.read_next-poll.new.bytes c.in-Err.error c.in-Err.ensures ∙ held)
