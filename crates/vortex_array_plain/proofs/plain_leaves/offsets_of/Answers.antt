use Rattle.std.proofs.Common.{inr, refl, ◌≡◌, ◌≤◌, ◌<◌, ◌+◌, take, slice_index_or, arith}
use Rattle.vortex_node_rows.specs.RowsOf.{most_rows}
use Rattle.vortex_leaves.proofs.Joined.{joined_last}
use Rattle.vortex_array_plain.proofs.PlainLeaves.{size_more}
use Rattle.vortex_array_plain.proofs.ValueRefusals.{sizes_pass}
use Rattle.vortex_array_plain.proofs.plain_leaves.offsets_of.Goals as goal

pub push-requires : goal.push-requires
push-requires c =
    let few : c.saturating_add-next.result ≤ most_rows = omega (arith, c.if-next-gt-MOST_ROWS.false) in
    let next : c.saturating_add-next.result ≡ c.loop-size.end + slice_index_or c.args.sizes.now c.loop-size.size-index 0 =
    omega (arith, c.saturating_add-next.ensures, few) in
    record {
      rise = omega (arith, next, joined_last (λ n. n) (take c.loop-size.size-index c.args.sizes.now) c.loop-size.offsets c.loop-size.end c.loop-size.invariant.joined);
    }

pub loop-size-preserved : goal.loop-size-preserved
loop-size-preserved c =
    let few : c.saturating_add-next.result ≤ most_rows = omega (arith, c.if-next-gt-MOST_ROWS.false) in
    let next : c.saturating_add-next.result ≡ c.loop-size.end + slice_index_or c.args.sizes.now c.loop-size.size-index 0 =
    omega (arith, c.saturating_add-next.ensures, few) in
    record {
      joined = size_more c.args.sizes.now c.loop-size.size-index c.loop-size.offsets c.push.new.self c.loop-size.end
          c.saturating_add-next.result c.loop-size.invariant.joined c.loop-size-test.true next c.in_ok-push.ensures.pushed;
      few = few;
    }

pub returns-then-next-gt-MOST_ROWS : goal.returns-then-next-gt-MOST_ROWS
returns-then-next-gt-MOST_ROWS c =
    let many : most_rows < c.loop-size.end + slice_index_or c.args.sizes.now c.loop-size.size-index 0 =
    omega (arith, c.if-next-gt-MOST_ROWS.true, c.saturating_add-next.ensures) in
    inr (
      refl,
      sizes_pass c.args.sizes.now c.loop-size.size-index c.loop-size.offsets c.loop-size.end c.loop-size.invariant.joined
          c.loop-size-test.true many,
    )
