use Rattle.std.proofs.Common.{◌≡◌, ◌+◌, ◌*◌, ap, ◌∙◌, arith, length, ℕ}
use Rattle.vortex_flat.specs.Layout.{round_up}
use Rattle.vortex_flat.proofs.ItemLemmas.{head_small, head_is}
use Rattle.vortex_flat.proofs.item.Slots.head.Goals as goal

pub overflow_add-len : goal.overflow_add-len
overflow_add-len c =
    let small = head_small c.self.inside.slots.items c.args.self.now c.self.view_is c.requires in
    omega arith

pub round_up-requires : goal.round_up-requires
round_up-requires c =
    let small = head_small c.self.inside.slots.items c.args.self.now c.self.view_is c.requires in
    omega arith

pub returns : goal.returns
returns c =
    let same : c.len.result ≡ length c.self.inside.slots.items = omega arith in
    c.round_up.ensures ∙ ap (λ (n : ℕ). round_up (4 + 2 * n)) same ∙ head_is c.self.inside.slots.items c.args.self.now c.self.view_is
