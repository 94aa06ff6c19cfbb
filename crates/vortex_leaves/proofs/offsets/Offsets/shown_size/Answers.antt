use Rattle.std.proofs.Common.{◌∙◌, sym}
use Rattle.std.specs.Option.{option_map}
use Rattle.vortex_leaves.proofs.Rising.{ends_within}
use Rattle.vortex_leaves.proofs.Joined.{hidden_none, shown_whole}
use Rattle.vortex_leaves.proofs.offsets.Offsets.shown_size.Goals as goal

pub overflow_sub-result : goal.overflow_sub-result
overflow_sub-result c =
    (ends_within 0 c.args.self.now _ _ _ c.law.ensures.rise c.bounds-from.ensures.from c.bounds-from.ensures.to).0

pub returns-then-shows : goal.returns-then-shows
returns-then-shows c =
    shown_whole (option_map (λ m. m.now) c.args.valid) c.args.self.now c.args.i c.bounds-from.result.0 c.bounds-from.result.1
    (sym c.shows.ensures ∙ c.if-shows.true) c.bounds-from.ensures.from c.bounds-from.ensures.to

pub returns : goal.returns
returns c =
    hidden_none (option_map (λ m. m.now) c.args.valid) c.args.self.now c.args.i (sym c.shows.ensures ∙ c.if-shows.false)
