use Rattle.std.proofs.Common.{◌+◌, ◌*◌, length, refl, arith}
use Rattle.vortex_flat.proofs.ItemLemmas.{tree_count-trees_from}
use Rattle.vortex_flat.proofs.TreesLemmas.{offsets_laid}
use Rattle.vortex_flat.proofs.vectors.put_offsets.Goals as goal

pub put_u32-requires : goal.put_u32-requires
put_u32-requires c = omega (arith, tree_count-trees_from c.args.items.now, c.requires.short)

pub put_each_offset-requires-clause-order : goal.put_each_offset-requires-clause-order
put_each_offset-requires-clause-order c = omega (arith, tree_count-trees_from c.args.items.now)

pub put_each_offset-requires-clause-short : goal.put_each_offset-requires-clause-short
put_each_offset-requires-clause-short c = omega (arith, tree_count-trees_from c.args.items.now, c.requires.short)

pub returns : goal.returns
returns c =
    let n = length c.args.items.now in
    offsets_laid c.args.out.now.items c.put_u32.new.out.items c.put_each_offset.new.out.items c.put_padding.new.out.items c.args.items.now n c.round_up.result (4 + 4 * n) refl c.round_up.ensures refl c.in_ok-put_u32.ensures c.in_ok-put_each_offset.ensures c.in_ok-put_padding.ensures
