-- What selects a field of a struct, or the elements of a list: `name_of`, `field_text`.
use Rattle.std.specs.Prelude.{ℕ, List, ◌++◌, codes, Option, Some, None}
use Rattle.vortex_names.specs.declared.selector.Field.{Field}
use Rattle.vortex_names.specs.declared.selector.Field.TheVariants.{Name, ElementType}

-- the name, if there is one
abbrev pub name_of : Field → Option (List ℕ)
name_of (Name name) = Some name
name_of ElementType = None

-- as $a, or []
abbrev pub field_text : Field → List ℕ
field_text (Name name) = codes "$" ++ name
field_text ElementType = codes "[]"
