-- The answer of laying out.
use Rattle.std.specs.Prelude.{◌≡◌, ℕ, List, Vec, Option, Some, None, Result, Ok, Err}
use Rattle.std.specs.Global.{Global}
use Rattle.vortex_flat.specs.declared.error.FlatError.{FlatError}
use Rattle.vortex_flat.specs.declared.error.FlatError.TheVariants.{Outside, TooLong, OutOfMemory}
use Rattle.vortex_flat.specs.Tree.{Tree, table, offsets, bytes, text, numbers, records}

-- these bytes are the layout; TooLong exactly where there is no layout, but for lack of memory
abbrev pub Finishes : Result (Vec ℕ Global) FlatError → Option (List ℕ) → Type 0
Finishes (Ok v) found = found ≡ Some v.items
Finishes (Err Outside) found = ⊥
Finishes (Err TooLong) found = found ≡ None
Finishes (Err OutOfMemory) found = Unit {0}

-- the tree is a table
abbrev pub IsTable : Tree → Type 0
IsTable (table s) = Unit {0}
IsTable (offsets ts) = ⊥
IsTable (bytes xs) = ⊥
IsTable (text xs) = ⊥
IsTable (numbers xs) = ⊥
IsTable (records xs) = ⊥
