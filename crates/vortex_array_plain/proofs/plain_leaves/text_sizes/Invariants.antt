use Rattle.std.proofs.Common.{◌≡◌, length, map, take}
use Rattle.vortex_array_plain.specs.PlainValues.{bytes_in}
use Rattle.vortex_array_plain.proofs.plain_leaves.text_sizes.Given as goal

abbrev pub invariant-loop-value : goal.invariant-loop-value
invariant-loop-value l = l.out.items ≡ map (λ v. length (bytes_in v)) (take l.value-index l.values)
