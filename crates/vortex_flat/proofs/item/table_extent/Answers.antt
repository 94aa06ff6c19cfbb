use Rattle.std.proofs.Common.{ℕ, ◌+◌, ◌*◌, min, length, refl, ap, ◌∙◌}
use Rattle.std.specs.Prelude.{◌&&◌, nat_le}
use Rattle.vortex_flat.specs.Layout.{round_up}
use Rattle.vortex_flat.proofs.ItemLemmas.{table_measured, large_measured}
use Rattle.vortex_flat.proofs.item.table_extent.Goals as goal

pub returns-then-slots-ge-LIMIT : goal.returns-then-slots-ge-LIMIT
returns-then-slots-ge-LIMIT c = large_measured _ c.args.slots.now c.if-slots-ge-LIMIT.true refl refl

pub returns : goal.returns
returns c =
    let n : ℕ = length c.args.slots.now in
    let inline = c.inline_size-inline_size.ensures in
    table_measured c.and.result c.own_extent.result c.targets_extent.result c.args.slots.now c.of.result c.of.ensures.counted
    (c.own_extent.ensures.size ∙ ap (λ (k : ℕ). min (round_up (4 + 2 * n) + round_up k) 4294967296) inline)
    (c.own_extent.ensures.fits ∙ ap (λ (k : ℕ). nat_le (4 + 2 * n) 65535 && nat_le k 65535) inline)
    c.targets_extent.ensures c.and.ensures.size c.and.ensures.fits
