use Rattle.std.proofs.Common.{◌∙◌, sym, ap, ℕ, replicate, false}
use Rattle.vortex_mask.proofs.Ands.{both_all_true, both_all_false}
use Rattle.vortex_mask.proofs.mask.Mask.and_all.Goals as goal

pub returns-then-every : goal.returns-then-every
returns-then-every c = rw (both_all_true c.args.self.now c.args.every c.if-every.true) c.try_clone.ensures

pub returns : goal.returns
returns c = c.new_false.ensures ∙ ap (λ (n : ℕ). replicate n false) c.len.ensures ∙ sym (both_all_false c.args.self.now c.args.every c.if-every.false)
