use Rattle.std.proofs.Common.{rules, ◌≡◌, ◌^◌, ◌≤◌, map}
use Rattle.std.specs.List.{sum}
use Rattle.std.specs.Option.{option_map}
use Rattle.vortex_leaves.specs.Selected.{joined_offsets, shown_size}
use Rattle.vortex_leaves.proofs.Joined.{held_large, held_taken}
use Rattle.vortex_leaves.proofs.texts.Texts.take.Goals as goal

pub returns-in_default : goal.returns-in_default
returns-in_default c =
    let large : 2 ^ 32 ≤ sum (map (shown_size (option_map (λ m. m.now) c.args.valid) c.self.inside.offsets) c.args.places.now) = search rules in
    held_large (option_map (λ m. m.now) c.args.valid) c.self.inside.offsets c.self.inside.bytes c.args.places.now (2 ^ 32)
    c.args.self.now c.self.view_is c.self.invariant c.requires.in_range large

pub invariant_of-result : goal.invariant_of-result
invariant_of-result c =
    let from : c.in-Some.offsets ≡ joined_offsets (map (shown_size (option_map (λ m. m.now) c.args.valid) c.self.inside.offsets) c.args.places.now) = search rules in
    (held_taken (option_map (λ m. m.now) c.args.valid) c.self.inside.offsets c.self.inside.bytes c.in-Some.offsets
    c.in_ok-taken_bytes.field-0.items c.in_ok-bytes.bytes c.as_slice.result.now c.args.places.now c.args.self.now
    c.self.view_is c.self.invariant c.requires.in_range from c.in_ok-taken_bytes.ensures c.in_ok-bytes.ensures.ok
    c.as_slice.ensures c.are_bytes.ensures).0

pub returns : goal.returns
returns c =
    let from : c.in-Some.offsets ≡ joined_offsets (map (shown_size (option_map (λ m. m.now) c.args.valid) c.self.inside.offsets) c.args.places.now) = search rules in
    (held_taken (option_map (λ m. m.now) c.args.valid) c.self.inside.offsets c.self.inside.bytes c.in-Some.offsets
    c.in_ok-taken_bytes.field-0.items c.in_ok-bytes.bytes c.as_slice.result.now c.args.places.now c.args.self.now
    c.self.view_is c.self.invariant c.requires.in_range from c.in_ok-taken_bytes.ensures c.in_ok-bytes.ensures.ok
    c.as_slice.ensures c.are_bytes.ensures).1
