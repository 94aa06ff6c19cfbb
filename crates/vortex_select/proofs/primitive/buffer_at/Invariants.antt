use Rattle.std.proofs.Common.{◌≡◌, ◌-◌, ℕ, Option}
use Rattle.std.specs.Option.{option_copied, option_map}
use Rattle.vortex_flat.specs.Numbers.{number}
use Rattle.vortex_flat.specs.Targets.{element}
use Rattle.vortex_prelude.specs.Elements.{elements}
use Rattle.vortex_select.specs.Column.{BufferDescriptor, descriptor_of, buffer_in}
use Rattle.vortex_select.proofs.PrimitiveLoops.{picked, IsFoundBy}
use Rattle.vortex_select.proofs.primitive.buffer_at.Given as goal

-- what is found among the descriptors so far, or among those that are left, is what is found among all
abbrev pub invariant-loop-i : goal.invariant-loop-i
invariant-loop-i l =
    let entry_at : ℕ → Option BufferDescriptor = λ j. option_map descriptor_of (number l.descriptors.buffer (element l.descriptors.shape j) 8) in
    record {
      picks : picked (option_copied l.found) l.rest (elements entry_at l.i (l.descriptors.shape.count - l.i)) (l.wanted - l.i) ≡ buffer_in l.region (elements entry_at 0 l.descriptors.shape.count) l.wanted;
      by : IsFoundBy l.wanted l.i (option_copied l.found);
    }
