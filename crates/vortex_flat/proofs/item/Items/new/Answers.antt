use Rattle.std.proofs.Common.{List, true, refl, subst, arith}
use Rattle.vortex_flat.specs.declared.item.Item.{Item}
use Rattle.vortex_flat.specs.Item.{trees_from}
use Rattle.vortex_flat.specs.inner.Extent.{MeasuresTrees}
use Rattle.vortex_flat.proofs.ItemLemmas.{items_measured}
use Rattle.vortex_flat.proofs.item.Items.new.Goals as goal

pub invariant_of-result : goal.invariant_of-result
invariant_of-result c =
    let trees : MeasuresTrees c.trees_extent.result (trees_from c.args.items.items) = subst (λ (xs : List Item). MeasuresTrees c.trees_extent.result (trees_from xs)) c.deref.ensures.value c.trees_extent.ensures in
    items_measured c.and-extent.result (record { size = c.block_size.result; fits = true }) c.trees_extent.result c.args.items.items c.len.result (omega arith) c.block_size.ensures refl trees c.and-extent.ensures.size c.and-extent.ensures.fits
