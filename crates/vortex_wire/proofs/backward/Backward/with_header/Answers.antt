use Rattle.std.proofs.Common.{◌≡◌, ◌++◌, ◌+◌, ◌-◌, ◌*◌, List, ℕ, IfOk, sym, ap, ◌∙◌, subst}
use Rattle.vortex_wire.specs.Varint.{varint}
use Rattle.vortex_wire.proofs.Headers.{header_written}
use Rattle.vortex_wire.proofs.backward.Backward.with_header.Goals as goal

pub returns-clause-written : goal.returns-clause-written
returns-clause-written c =
    let inside = c.in_ok-inside.ensures.written ∙ ap (λ (n : ℕ). varint (n - c.args.before) ++ c.args.self) c.len.ensures in
    let key = ap (λ (n : ℕ). varint (n * 8 + 2) ++ c.in_ok-inside.inside) c.from.ensures in
    let whole = ap (λ (bytes : List ℕ). varint (c.args.number * 8 + 2) ++ bytes) inside ∙ sym (header_written c.args.number c.args.before c.args.self c.requires.within) in
    subst (λ (bytes : List ℕ). IfOk c.with_varint-2.result (λ b. b ≡ bytes)) (key ∙ whole) c.with_varint-2.ensures.written
