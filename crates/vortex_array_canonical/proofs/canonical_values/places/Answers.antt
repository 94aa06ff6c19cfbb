use Rattle.std.proofs.Common.{rules}
use Rattle.vortex_array_canonical.specs.inner.SameRows.{place_of}
use Rattle.vortex_array_canonical.proofs.RepeatedRows.{place_there, rows_done, rows_none, rows_put}
use Rattle.vortex_array_canonical.proofs.canonical_values.places.Goals as goal

pub loop-i-init : goal.loop-i-init
loop-i-init c = rows_none place_of c.args.validity.now c.in_ok-out.out.items c.in_ok-out.ensures.items

pub place-requires : goal.place-requires
place-requires c = place_there c.args.validity.now c.args.n c.loop-i.i c.requires c.loop-i-test.true

pub loop-i-preserved : goal.loop-i-preserved
loop-i-preserved c =
    rows_put place_of c.loop-i.i c.args.validity.now c.loop-i.out.items c.push.new.self.items c.place.result
    (place_there c.args.validity.now c.args.n c.loop-i.i c.requires c.loop-i-test.true) c.loop-i.invariant c.place.ensures
    c.in_ok-push.ensures.items

pub returns : goal.returns
returns c = rows_done place_of c.loop-i.i c.args.n c.args.validity.now c.loop-i.out.items c.requires (search rules) c.loop-i.invariant
