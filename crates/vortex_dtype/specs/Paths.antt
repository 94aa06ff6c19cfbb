-- What a contract sees of a path into a type: its steps.
--     part_of, parts_of, kept_parts      selectors as steps
--     path_eq                            whether two paths are one path
--     without_first, first_part          a path taken apart at its start
--     path_text                          as it is printed
--     path_writes                        what it feeds a hasher
use Rattle.std.specs.Prelude.{ℕ, Bool, true, false, List, [], ◌∷◌, ◌++◌, map, codes, Option, Some}
use Rattle.std.specs.Prelude.{None, pos}
use Rattle.std.specs.Cmp.Lexicographic.{pointwise}
use Rattle.std.specs.Global.{Vec}
use Rattle.std.specs.Hash as fed
use Rattle.std.specs.Hash.{HashWrites}
use Rattle.std.specs.List.{flat_map}
use Rattle.vortex_terms.specs.Path.{PathPart, by_name, element, path_part_eq}
use Rattle.vortex_names.specs.declared.selector.Field.{Field}
use Rattle.vortex_names.specs.declared.selector.Field.TheVariants as fields

-- a selector as a step
abbrev pub part_of : Field → PathPart
part_of (fields.Name name) = by_name name
part_of fields.ElementType = element

-- selectors as steps
abbrev pub parts_of : List Field → List PathPart
parts_of path = map part_of path

-- the steps that are kept, or none
abbrev pub kept_parts : Option (Vec Field) → List PathPart
kept_parts None = []
kept_parts (Some fields) = parts_of fields.items

-- whether a step names a field
abbrev pub is_named_part : PathPart → Bool
is_named_part (by_name x) = true
is_named_part element = false

-- whether two paths are one path
abbrev pub path_eq : List PathPart → List PathPart → Bool
path_eq = pointwise path_part_eq

-- the first step
abbrev pub first_part : List PathPart → Option PathPart
first_part [] = None
first_part (part ∷ path) = Some part

-- the path behind the first step
abbrev pub without_first : List PathPart → Option (List PathPart)
without_first [] = None
without_first (part ∷ path) = Some path

-- a step as $a, or []
abbrev pub part_text : PathPart → List ℕ
part_text (by_name x) = codes "$" ++ x
part_text element = codes "[]"

-- a step behind another
abbrev pub behind : PathPart → List ℕ
behind part = codes "." ++ part_text part

-- a path as its steps with points between
abbrev pub path_text : List PathPart → List ℕ
path_text [] = []
path_text (first ∷ others) = part_text first ++ flat_map behind others

-- what a step feeds a hasher
abbrev pub part_writes : PathPart → HashWrites
part_writes (by_name x) = fed.isize (pos 0) ++ fed.str x
part_writes element = fed.isize (pos 1)

-- what a path feeds a hasher
abbrev pub path_writes : List PathPart → HashWrites
path_writes path = fed.slice part_writes path
