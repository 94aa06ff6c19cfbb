use Rattle.vortex_mask.proofs.Filters.{kept_by_true, kept_by_false, kept_of_same}
use Rattle.std.proofs.Common.{◌≡◌, ◌∙◌, sym}
use Rattle.vortex_mask.specs.Truths.{kept}
use Rattle.vortex_mask.proofs.mask.Mask.filter.Goals as goal

pub returns-then-every : goal.returns-then-every
returns-then-every c =
    let e : kept c.args.keep.now c.args.self.now ≡ c.args.self.now = kept_by_true c.args.keep.now c.args.self.now c.in-Some.every c.in-Some.ensures c.if-every.true c.requires.same_len in
    rw e c.try_clone.ensures

pub returns-else-every : goal.returns-else-every
returns-else-every c = c.new_false.ensures ∙ sym (kept_by_false c.args.keep.now c.args.self.now c.in-Some.every c.in-Some.ensures c.if-every.false)

pub returns-in-Some-only : goal.returns-in-Some-only
returns-in-Some-only c = kept_of_same c.args.keep.now c.args.self.now c.true_count.result c.in-Some-only.value c.true_count.ensures c.in-Some-only.ensures c.requires.same_len
