use Rattle.std.proofs.Common.{sym}
use Rattle.std.proofs.lemmas.Grind.{get_or_default_zero}
use Rattle.vortex_terms.specs.TestLaws.{are_bytes-Decides}
use Rattle.vortex_value_rows.proofs.leaf.is_binary.Goals as goal

pub returns : goal.returns
returns c =
    sym ((are_bytes-Decides c.args.bytes.now).1 (λ k d within.
    rw (get_or_default_zero c.args.bytes.now k d within) (c.type_inv.bytes k).fits))
