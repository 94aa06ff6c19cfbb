use Rattle.std.proofs.Common.{rules, ◌<◌, length, [], true, false, sym, ◌∙◌}
use Rattle.vortex_leaves.proofs.KeptRows.{row_kept, row_left}
use Rattle.vortex_leaves.proofs.select_chunks.kept_rows.Goals as goal
use Rattle.vortex_leaves.proofs.select_chunks.kept_rows.Goals.{then-value+in_ok-extend_from_slice, else-value}

pub loop-i-preserved : goal.loop-i-preserved
loop-i-preserved g c =
    let l : c.loop-i.i < length c.args.rows.now = search rules in
    elim c.if-value.branch [
      | then-value+in_ok-extend_from_slice w ↦ rw w.bytes-is (row_kept c.args.mask.now c.args.rows.now c.loop-i.i c.index-rows-i.result c.loop-i.bytes.items w.extend_from_slice.new.self.items c.requires.as_many l (sym c.value.ensures ∙ w.if-value.true) c.index-rows-i.is c.loop-i.invariant w.in_ok-extend_from_slice.ensures.items)
      | else-value w ↦ rw w.bytes-is (row_left c.args.mask.now c.args.rows.now c.loop-i.i c.loop-i.bytes.items c.requires.as_many l (sym c.value.ensures ∙ w.if-value.false) c.loop-i.invariant)
    ]
