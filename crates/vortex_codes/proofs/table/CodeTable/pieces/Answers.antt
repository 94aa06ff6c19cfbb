use Rattle.std.proofs.Common.{◌-◌, ◌^◌, ◌∙◌, refl}
use Rattle.vortex_codes.proofs.NullLemmas.{null_placed}
use Rattle.vortex_codes.proofs.TableLemmas.{found_parted, found_apart}
use Rattle.vortex_codes.proofs.table.CodeTable.pieces.Goals as goal

pub returns-clause-null : goal.returns-clause-null
returns-clause-null g c =
    let t = c.self.inside in
    let parted = found_parted _ _ _ _ _ t.ordered c.self.invariant in
    let apart = found_apart _ _ _ _ _ t.ordered c.self.invariant in
    rw (← c.self.view_is) (c.null_of.ensures.value ∙ null_placed _ _ _ (2 ^ 32 - 1) refl parted apart)
