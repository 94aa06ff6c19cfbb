-- How names of fields are printed: `names_text`.
use Rattle.std.specs.Prelude.{ℕ, List, [], ◌∷◌, ◌++◌, codes}
use Rattle.std.specs.List.{flat_map}

-- a name in quotes
abbrev pub quoted : List ℕ → List ℕ
quoted name = codes "\"" ++ name ++ codes "\""

-- a name behind another
abbrev pub behind : List ℕ → List ℕ
behind name = codes ", " ++ quoted name

-- names in brackets, as ["a", "b"]
abbrev pub names_text : List (List ℕ) → List ℕ
names_text [] = codes "[]"
names_text (first ∷ others) = codes "[" ++ quoted first ++ flat_map behind others ++ codes "]"
