-- The names that a value keeps, where None stands for none: `kept`, `still_kept`.
use Rattle.std.specs.Prelude.{ℕ, List, [], Option, Some, None}
use Rattle.std.specs.Global.{Vec}
use Rattle.std.specs.declared.alloc.Global.{Global}
use Rattle.std.specs.Vec.Iter.{into_iter_items}
use Rattle.std.specs.declared.vec.IntoIter.{IntoIter}

-- the names
abbrev pub kept : Option (Vec (List ℕ)) → List (List ℕ)
kept None = []
kept (Some names) = names.items

-- the names that an iterator has not given yet
abbrev pub still_kept : Option (IntoIter (List ℕ) Global) → List (List ℕ)
still_kept None = []
still_kept (Some names) = into_iter_items names
