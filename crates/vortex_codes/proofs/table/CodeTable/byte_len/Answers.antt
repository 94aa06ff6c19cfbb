use Rattle.std.proofs.Common.{rules, ◌≡◌, length, sym, ◌∙◌, arith}
use Rattle.vortex_codes.proofs.TableLemmas.{found_parted}
use Rattle.vortex_codes.proofs.table.CodeTable.byte_len.Goals as goal

pub returns-clause-sum : goal.returns-clause-sum
returns-clause-sum g c =
    let t = c.self.inside in
    let p = found_parted _ _ _ _ _ t.ordered c.self.invariant in
    let few : c.len.result ≡ length t.bytes.items = search rules in
    rw (← c.self.view_is) (few ∙ sym p.size)

pub returns-clause-small : goal.returns-clause-small
returns-clause-small g c =
    let t = c.self.inside in
    let p = found_parted _ _ _ _ _ t.ordered c.self.invariant in
    let few : c.len.result ≡ length t.bytes.items = search rules in
    omega (arith, p.small, few)
