use Rattle.std.proofs.Common.{◌≡◌, IsTrue, take}
use Rattle.std.specs.List.{AllByRecursion, flat_map}
use Rattle.vortex_number.specs.Format.{bytes_of, fits}
use Rattle.vortex_leaves.proofs.from_values.value_bytes.Given as goal

abbrev pub invariant-loop-value : goal.invariant-loop-value
invariant-loop-value g l = record {
  bytes : l.bytes.items ≡ flat_map (λ x. bytes_of g.T.WholeNumber.format (g.T.WholeNumber.number x)) (take l.value-index l.values);
  fit : AllByRecursion (λ x. IsTrue (fits g.T.WholeNumber.format (g.T.WholeNumber.number x))) (take l.value-index l.values);
}
