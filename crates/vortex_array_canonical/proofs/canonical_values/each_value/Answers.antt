use Rattle.std.proofs.Common.{rules}
use Rattle.vortex_array_canonical.specs.inner.SameRows.{value_where}
use Rattle.vortex_array_canonical.proofs.RepeatedRows.{place_there, rows_done, rows_none, rows_put}
use Rattle.vortex_array_canonical.proofs.canonical_values.each_value.Goals as goal

pub loop-i-init : goal.loop-i-init
loop-i-init c = rows_none (value_where c.args.value.now) c.args.validity.now c.in_ok-out.out.items c.in_ok-out.ensures.items

pub value_at-requires : goal.value_at-requires
value_at-requires c = place_there c.args.validity.now c.args.n c.loop-i.i c.requires c.loop-i-test.true

pub loop-i-preserved : goal.loop-i-preserved
loop-i-preserved c =
    rows_put (value_where c.args.value.now) c.loop-i.i c.args.validity.now c.loop-i.out.items c.push.new.self.items
    c.in_ok-value_at.field-0 (place_there c.args.validity.now c.args.n c.loop-i.i c.requires c.loop-i-test.true)
    c.loop-i.invariant c.in_ok-value_at.ensures c.in_ok-push.ensures.items

pub returns : goal.returns
returns c =
    rows_done (value_where c.args.value.now) c.loop-i.i c.args.n c.args.validity.now c.loop-i.out.items c.requires (search rules)
    c.loop-i.invariant
