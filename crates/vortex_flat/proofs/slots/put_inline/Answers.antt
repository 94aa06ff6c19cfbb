use Rattle.std.proofs.Common.{◌≡◌, ◌+◌, ◌++◌, ℕ, ap, ◌∙◌, arith}
use Rattle.vortex_flat.specs.Layout.{round_up, fours_of}
use Rattle.vortex_flat.specs.Item.{slots_from}
use Rattle.vortex_flat.specs.inner.SlotBytes.{places_of}
use Rattle.vortex_flat.proofs.PutLemmas.{inline_laid, vtable_small, behind_is}
use Rattle.vortex_flat.proofs.slots.put_inline.Goals as goal

pub put_u32-requires : goal.put_u32-requires
put_u32-requires c =
    let small = vtable_small c.args.slots.now c.requires.vtable in
    omega arith

pub put_fours-requires-clause-short : goal.put_fours-requires-clause-short
put_fours-requires-clause-short c =
    let behind = behind_is c.args.slots.now c.args.counts c.round_up-head.result c.round_up.result c.inline_size-size.result c.requires.counted c.round_up-head.ensures c.inline_size-size.ensures c.round_up.ensures in
    omega (arith, behind, c.requires.short)

pub returns : goal.returns
returns c =
    let fours : c.put_fours.new.out.items ≡ c.put_eights.new.out.items ++ fours_of (slots_from c.args.slots.now) (c.round_up-head.result + c.first_places-first.result.fours) (c.round_up-head.result + round_up c.inline_size-size.result) =
    c.in_ok-put_fours.ensures ∙ ap (λ (r : ℕ). c.put_eights.new.out.items ++ fours_of (slots_from c.args.slots.now) (c.round_up-head.result + c.first_places-first.result.fours) (c.round_up-head.result + r)) c.round_up.ensures in
    inline_laid c.args.out.now.items c.put_u32.new.out.items c.put_zeros.new.out.items c.put_eights.new.out.items c.put_fours.new.out.items c.put_twos.new.out.items c.put_ones.new.out.items c.put_padding.new.out.items c.args.slots.now c.args.counts
    c.round_up-head.result c.inline_size-size.result (places_of c.first_places-first.result) c.requires.counted c.round_up-head.ensures c.inline_size-size.ensures c.first_places-first.ensures
    c.in_ok-put_u32.ensures c.in_ok-put_zeros.ensures c.in_ok-put_eights.ensures fours c.in_ok-put_twos.ensures c.in_ok-put_ones.ensures c.in_ok-put_padding.ensures
