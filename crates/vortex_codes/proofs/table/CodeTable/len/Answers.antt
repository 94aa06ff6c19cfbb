use Rattle.std.proofs.Common.{rules, ◌≡◌, length, arith}
use Rattle.vortex_codes.proofs.KeyLemmas.{length-keys_of}
use Rattle.vortex_codes.proofs.TableLemmas.{found_parted}
use Rattle.vortex_codes.proofs.table.CodeTable.len.Goals as goal

pub returns-clause-count : goal.returns-clause-count
returns-clause-count g c =
    let t = c.self.inside in
    let n = length-keys_of t.bytes.items t.offsets.items t.null in
    let few : c.len.result ≡ length t.offsets.items = search rules in
    rw (← c.self.view_is) (omega (arith, n, few))

pub returns-clause-small : goal.returns-clause-small
returns-clause-small g c =
    let t = c.self.inside in
    let p = found_parted _ _ _ _ _ t.ordered c.self.invariant in
    let few : c.len.result ≡ length t.offsets.items = search rules in
    omega (arith, p.few, few)
