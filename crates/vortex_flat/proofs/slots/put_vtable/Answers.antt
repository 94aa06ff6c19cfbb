use Rattle.std.proofs.Common.{length, refl, arith}
use Rattle.vortex_flat.specs.inner.SlotBytes.{places_of}
use Rattle.vortex_flat.proofs.PutLemmas.{vtable_laid, vtable_small}
use Rattle.vortex_flat.proofs.slots.put_vtable.Goals as goal

pub put_u16-requires : goal.put_u16-requires
put_u16-requires c =
    let small = vtable_small c.args.slots.now c.requires.vtable in
    omega arith

pub returns : goal.returns
returns c =
    vtable_laid c.args.out.now.items c.put_u16.new.out.items c.put_u16-2.new.out.items c.put_entries.new.out.items c.put_padding.new.out.items c.args.slots.now c.args.counts (length c.args.slots.now) c.inline_size.result (places_of c.first_places.result)
    c.requires.counted refl c.inline_size.ensures c.first_places.ensures c.in_ok-put_u16.ensures c.in_ok-put_u16-2.ensures c.in_ok-put_entries.ensures c.in_ok-put_padding.ensures
