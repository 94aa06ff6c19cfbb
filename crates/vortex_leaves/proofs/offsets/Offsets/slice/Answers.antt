use Rattle.std.proofs.Common.{◌≤◌, ◌+◌, ◌*◌, length, arith, rules, Fits, w64}
use Rattle.vortex_leaves.proofs.Rising.{held_top}
use Rattle.vortex_leaves.proofs.Ranges.{held_range, range_held}
use Rattle.vortex_leaves.proofs.offsets.Offsets.slice.Goals as goal

pub overflow_mul-from : goal.overflow_mul-from
overflow_mul-from c =
    let top : (c.args.to + 1) * 4 ≤ length c.self.inside.bytes = held_top c.self.inside.len c.args.to c.self.inside.bytes c.args.self.now c.self.view_is c.self.invariant.exact c.requires.within in
    let size : Fits w64 c.len-size.result = search rules in
    omega (arith, top, size, c.len-size.ensures, c.requires.rise)

pub overflow_add-to : goal.overflow_add-to
overflow_add-to c =
    let top : (c.args.to + 1) * 4 ≤ length c.self.inside.bytes = held_top c.self.inside.len c.args.to c.self.inside.bytes c.args.self.now c.self.view_is c.self.invariant.exact c.requires.within in
    let size : Fits w64 c.len-size.result = search rules in
    omega (arith, top, size, c.len-size.ensures)

pub overflow_mul-to : goal.overflow_mul-to
overflow_mul-to c =
    let top : (c.args.to + 1) * 4 ≤ length c.self.inside.bytes = held_top c.self.inside.len c.args.to c.self.inside.bytes c.args.self.now c.self.view_is c.self.invariant.exact c.requires.within in
    let size : Fits w64 c.len-size.result = search rules in
    omega (arith, top, size, c.len-size.ensures)

pub slice-requires-clause-in_bounds : goal.slice-requires-clause-in_bounds
slice-requires-clause-in_bounds c = held_top c.self.inside.len c.args.to c.self.inside.bytes c.args.self.now c.self.view_is c.self.invariant.exact c.requires.within

pub invariant_of-result : goal.invariant_of-result
invariant_of-result c =
    range_held c.self.inside.len c.args.from c.args.to c.self.inside.bytes c.args.self.now c.in_ok-bytes.bytes c.requires.rise c.requires.within c.self.view_is c.self.invariant c.in_ok-bytes.ensures.ok

pub returns : goal.returns
returns c =
    held_range c.self.inside.len c.args.from c.args.to c.self.inside.bytes c.args.self.now c.in_ok-bytes.bytes c.requires.rise c.requires.within c.self.view_is c.in_ok-bytes.ensures.ok
