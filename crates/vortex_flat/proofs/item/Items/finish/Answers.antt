use Rattle.std.proofs.Common.{◌≡◌, Some, sym, ap, ◌∙◌, arith}
use Rattle.vortex_flat.specs.Item.{tree_of}
use Rattle.vortex_flat.specs.Layout.{layout_of}
use Rattle.vortex_flat.proofs.Finished.{again, is_fit, is_unfit, unfit_none, long_none, fits_layout, whole_laid}
use Rattle.vortex_flat.proofs.item.Items.finish.Goals as goal
use Rattle.vortex_flat.proofs.item.Items.finish.Goals.{then-not-extent-via-then-not-extent, then-not-extent-via-else-not-extent+then-extent}

pub returns-then-not-extent-clause-laid : goal.returns-then-not-extent-clause-laid
returns-then-not-extent-clause-laid c =
    elim c.then-not-extent.branch [
      | then-not-extent-via-then-not-extent w ↦ unfit_none c.extent-extent.result (tree_of c.args.root.now) c.extent-extent.ensures (is_unfit _ w.if-not-extent.true)
      | then-not-extent-via-else-not-extent+then-extent w ↦ long_none c.extent-extent.result (tree_of c.args.root.now) c.extent-extent.ensures (omega arith)
    ]

pub returns-clause-laid : goal.returns-clause-laid
returns-clause-laid c =
    let t = tree_of c.args.root.now in
    fits_layout c.extent-extent.result t c.extent-extent.ensures (is_fit _ c.if-not-extent.false) (omega arith)
    ∙ ap Some (sym (whole_laid c.in_ok-out.out.items c.put_u32.new.out.items c.put_u32-2.new.out.items c.put_item.new.out.items t c.head.result c.in_ok-out.ensures.items c.head.ensures c.in_ok-put_u32.ensures c.in_ok-put_u32-2.ensures c.in_ok-put_item.ensures.laid))

pub returns-clause-reads : goal.returns-clause-reads
returns-clause-reads c =
    let t = tree_of c.args.root.now in
    let laid : layout_of t ≡ Some c.put_item.new.out.items =
    fits_layout c.extent-extent.result t c.extent-extent.ensures (is_fit _ c.if-not-extent.false) (omega arith)
    ∙ ap Some (sym (whole_laid c.in_ok-out.out.items c.put_u32.new.out.items c.put_u32-2.new.out.items c.put_item.new.out.items t c.head.result c.in_ok-out.ensures.items c.head.ensures c.in_ok-put_u32.ensures c.in_ok-put_u32-2.ensures c.in_ok-put_item.ensures.laid)) in
    again t c.put_item.new.out.items c.requires c.in_ok-put_item.ensures.range laid
