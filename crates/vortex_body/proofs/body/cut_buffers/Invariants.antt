use Rattle.std.proofs.Common.{◌≡◌, ◌-◌, ◌++◌}
use Rattle.std.specs.Option.{option_map}
use Rattle.vortex_prelude.specs.Elements.{elements}
use Rattle.vortex_flat.specs.Numbers.{number}
use Rattle.vortex_flat.specs.Targets.{element}
use Rattle.vortex_body.specs.Body.{descriptor_of, descriptors_in}
use Rattle.vortex_body.specs.inner.Walked.{buffers_from}
use Rattle.vortex_body.proofs.body.cut_buffers.Given as goal

-- the buffers so far, and those that are left, are all
abbrev pub invariant-loop-i : goal.invariant-loop-i
invariant-loop-i l =
    option_map (λ bs. l.buffers.items ++ bs) (buffers_from l.rest (elements (λ i. option_map descriptor_of (number l.descriptors.buffer (element l.descriptors.shape i) 8)) l.i (l.descriptors.shape.count - l.i)))
    ≡ buffers_from l.fn.region (descriptors_in l.descriptors.buffer l.descriptors.shape)
