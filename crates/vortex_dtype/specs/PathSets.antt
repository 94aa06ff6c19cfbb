-- What a contract sees of a set of paths: which it has.
use Rattle.std.specs.Prelude.{Bool, List}
use Rattle.std.specs.HashSet.{contains_by}
use Rattle.vortex_terms.specs.Path.{PathPart}
use Rattle.vortex_dtype.specs.Paths.{path_eq}
use Rattle.vortex_dtype.specs.declared.path_set.FieldPathSet.{FieldPathSet}

-- whether the set has the path
abbrev pub has_path : FieldPathSet → List PathPart → Bool
has_path s path = contains_by (path_eq path) s.paths
