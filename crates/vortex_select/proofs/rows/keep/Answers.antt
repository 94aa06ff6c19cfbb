use Rattle.std.proofs.Common.{◌≡◌, ◌<◌, [], length, get_or, arith, rules}
use Rattle.vortex_select.specs.inner.KeptRows.{keeps}
use Rattle.vortex_select.proofs.KeptRows.{keep_more, at_most_one}
use Rattle.vortex_select.proofs.rows.keep.Goals as goal

pub loop-row-preserved : goal.loop-row-preserved
loop-row-preserved c =
    let row = get_or c.args.rows.now c.loop-row.row-index [] in
    let kept : keeps c.args.query.now row ≡ c.is_kept.result = search rules in
    let room : c.loop-row.count < length c.loop-row.block = omega arith in
    record {
      kept = keep_more (keeps c.args.query.now) c.args.rows.now c.loop-row.block c.loop-row.row-index c.loop-row.count c.from-count.result c.is_kept.result c.from-count.ensures kept c.loop-row-test.true room c.loop-row.invariant.kept;
      bound = omega (arith, at_most_one c.is_kept.result c.from-count.result c.from-count.ensures);
      long = search rules;
    }
