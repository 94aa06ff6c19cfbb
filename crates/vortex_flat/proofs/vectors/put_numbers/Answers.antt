use Rattle.std.proofs.Common.{◌+◌, ◌*◌, ◌^◌, length, arith}
use Rattle.vortex_flat.specs.Layout.{numbers_of}
use Rattle.vortex_flat.proofs.Lengths.{length-numbers_of}
use Rattle.vortex_flat.proofs.TreesLemmas.{vector_laid, all_below}
use Rattle.vortex_flat.proofs.vectors.put_numbers.Goals as goal

pub returns-clause-laid : goal.returns-clause-laid
returns-clause-laid c =
    let n = length c.args.content.now in
    vector_laid c.args.out.now.items c.put_u32.new.out.items c.put_each_u32.new.out.items c.put_padding.new.out.items (numbers_of 4 c.args.content.now) n (4 + 4 * n) c.in_ok-put_u32.ensures c.in_ok-put_each_u32.ensures c.in_ok-put_padding.ensures
    (omega (arith, length-numbers_of 4 c.args.content.now))

pub returns-clause-range : goal.returns-clause-range
returns-clause-range c = all_below (2 ^ 32) c.args.content.now (λ i lt. omega (arith, c.type_inv.content i))
