-- Equality of paths is an equivalence, and equal paths feed a hasher alike.
use Rattle.std.specs.Cmp.{IsEquivalence, decided}
use Rattle.std.specs.Cmp.Lexicographic.{pointwise_decides}
use Rattle.std.specs.Hash.{Alike, same_Alike}
use Rattle.vortex_terms.specs.PathLaws.{path_part_eq-Decides}
use Rattle.vortex_dtype.specs.Paths.{path_eq, path_writes}

pub path_equivalence : IsEquivalence path_eq
path_equivalence = decided path_eq (pointwise_decides path_part_eq-Decides)

pub path_alike : Alike path_eq path_writes
path_alike = same_Alike path_writes (pointwise_decides path_part_eq-Decides)
