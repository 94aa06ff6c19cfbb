use Rattle.std.proofs.Common.{◌≡◌, ◌-◌}
use Rattle.vortex_flat.specs.Targets.{text_element}
use Rattle.vortex_prelude.specs.Elements.{elements}
use Rattle.vortex_select.specs.inner.Decoding.{primitive_count}
use Rattle.vortex_select.proofs.PrimitiveLoops.{counted_from}
use Rattle.vortex_select.proofs.primitive.primitive_names.Given as goal

-- the names so far are primitive, and with those that are left they are counted as all
abbrev pub invariant-loop-i : goal.invariant-loop-i
invariant-loop-i l =
    let name = text_element l.names.buffer l.names.shape in
    counted_from l.i (elements name l.i (l.names.shape.count - l.i)) ≡ primitive_count (elements name 0 l.names.shape.count)
