use Rattle.std.proofs.Common.{rules, ◌≡◌, ◌≤◌, ◌+◌, ◌^◌, take, slice_index_or, refl, arith}
use Rattle.std.specs.Option.{option_map}
use Rattle.vortex_leaves.specs.Selected.{shown_size}
use Rattle.vortex_leaves.proofs.Joined.{joined_last, sized_large, sized_more}
use Rattle.vortex_leaves.proofs.offsets.Offsets.take.Goals as goal

pub returns-in_default : goal.returns-in_default
returns-in_default c =
    let large : 2 ^ 32 ≤ c.loop-place.end + c.shown_size.result = omega (arith, c.in_default.ensures) in
    sized_large (shown_size (option_map (λ m. m.now) c.args.valid) c.args.self.now) c.args.places.now c.loop-place.place-index
    (slice_index_or c.args.places.now c.loop-place.place-index 0) c.loop-place.offsets c.loop-place.end
    c.shown_size.result (2 ^ 32) c.loop-place.invariant c.loop-place-test.true refl c.shown_size.ensures large

pub push-requires : goal.push-requires
push-requires c =
    let next : c.in-Some.next ≡ c.loop-place.end + c.shown_size.result = search rules in
    record {
      rise = omega (arith, next, joined_last (shown_size (option_map (λ m. m.now) c.args.valid) c.args.self.now) (take c.loop-place.place-index c.args.places.now) c.loop-place.offsets c.loop-place.end c.loop-place.invariant);
    }

pub loop-place-preserved : goal.loop-place-preserved
loop-place-preserved c =
    let next : c.in-Some.next ≡ c.loop-place.end + c.shown_size.result = search rules in
    sized_more (shown_size (option_map (λ m. m.now) c.args.valid) c.args.self.now) c.args.places.now c.loop-place.place-index
    (slice_index_or c.args.places.now c.loop-place.place-index 0) c.loop-place.offsets c.push.new.self c.loop-place.end
    c.shown_size.result c.in-Some.next c.loop-place.invariant c.loop-place-test.true refl c.shown_size.ensures next
    c.in_ok-push.ensures.pushed
