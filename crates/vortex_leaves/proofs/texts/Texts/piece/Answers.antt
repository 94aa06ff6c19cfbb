use Rattle.std.proofs.Common.{◌≡◌, ◌≤◌, length, arith, ap}
use Rattle.vortex_terms.specs.FromColumns.{last_from}
use Rattle.vortex_leaves.proofs.Rising.{ends_within, part_there}
use Rattle.vortex_leaves.proofs.texts.Texts.piece.Goals as goal

pub part-requires-clause-rise : goal.part-requires-clause-rise
part-requires-clause-rise c = (ends_within 0 c.self.inside.offsets c.args.i _ _ c.self.invariant.offsets.rise c.bounds-from.ensures.from c.bounds-from.ensures.to).0

pub part-requires-clause-within : goal.part-requires-clause-within
part-requires-clause-within c =
    let last : c.bounds-from.result.1 ≤ last_from 0 c.self.inside.offsets = (ends_within 0 c.self.inside.offsets c.args.i _ _ c.self.invariant.offsets.rise c.bounds-from.ensures.from c.bounds-from.ensures.to).1 in
    let long : length c.as_slice.result.now ≡ length c.self.inside.bytes = ap length c.as_slice.ensures in
    omega (arith, last, c.self.invariant.offsets.within, long)

pub returns : goal.returns
returns c = part_there c.args.self.now c.self.inside.offsets c.self.inside.bytes c.as_slice.result.now c.part.result.now c.args.i _ _ c.self.view_is c.as_slice.ensures c.bounds-from.ensures.from c.bounds-from.ensures.to c.part.ensures
