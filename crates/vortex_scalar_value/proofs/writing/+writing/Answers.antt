use Rattle.std.proofs.Common.{◌-◌, arith}
use Rattle.vortex_scalar_value.proofs.Put.{list_put, lighter, value_put, value_held}
use Rattle.vortex_scalar_value.proofs.writing.+writing.Goals as goal

pub put_value-returns-in_ok-inside-in-List-clause-written :
    goal.put_value-returns-in_ok-inside-in-List-clause-written
put_value-returns-in_ok-inside-in-List-clause-written t c =
    list_put c.put_header.result c.args.value.now c.in-List.values.now c.args.out c.in_ok-inside-in-List.inside c.len-before.result c.in-List.ensures c.len-before.ensures c.in_ok-inside-in-List.ensures.written c.put_header.ensures.written

pub put_values-put_value-requires : goal.put_values-put_value-requires
put_values-put_value-requires t c =
    let less = lighter c.args.values.now (c.loop-i.i - 1) _ c.index-values-i.result (omega (arith, c.loop-i-test.true, c.loop-i.auto.i)) c.index-values-i.is in
    (omega (arith, less), tt)

pub put_values-loop-i-preserved : goal.put_values-loop-i-preserved
put_values-loop-i-preserved t c = (
  value_put c.args.values.now c.loop-i.i _ c.index-values-i.result c.loop-i.out c.in_ok-inside.inside c.in_ok-out.out c.args.out c.len-before.result c.loop-i-test.true c.loop-i.auto.i c.index-values-i.is
      c.len-before.ensures c.in_ok-inside.ensures.written c.in_ok-out.ensures.written c.loop-i.invariant.0,
  value_held c.args.values.now c.loop-i.i _ c.index-values-i.result c.loop-i-test.true c.loop-i.auto.i c.index-values-i.is c.in_ok-inside.ensures.held c.loop-i.invariant.1,
)
