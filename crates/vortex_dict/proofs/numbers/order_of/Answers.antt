use Rattle.std.proofs.Common.{refl, sym}
use Rattle.vortex_dict.proofs.NumberLemmas.{found_more}
use Rattle.vortex_dict.proofs.numbers.order_of.Goals as goal

pub loop-place-preserved : goal.loop-place-preserved
loop-place-preserved g c = found_more _ g.met.T.NativeValue.eq_law c.args.values.now c.loop-place.place _ _ c.index-values-place.result c.loop-place.place c.requires.apart c.loop-place-test.true (sym c.index-values-place.is) refl c.loop-place.invariant c.in_ok-insert_in_order.ensures
