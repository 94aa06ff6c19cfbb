use Rattle.std.proofs.Common.{◌≡◌, map, take}
use Rattle.vortex_types.specs.DTypes.{term_of}
use Rattle.vortex_types.proofs.dtype.DType.struct_.Given as goal

abbrev pub invariant-loop-name : goal.invariant-loop-name
invariant-loop-name l =
    (l.names.items ≡ map (λ f. f.0.now) (take l.name-index l.fields))
    × (l.dtypes.items ≡ map (λ f. term_of f.1) (take l.name-index l.fields))
