-- The places of names.
use Rattle.std.specs.Prelude.{ℕ, List, Option, position}
use Rattle.std.specs.Str.{bytes_eq}

-- the first place of a name
abbrev pub first_place : List (List ℕ) → List ℕ → Option ℕ
first_place names x = position (λ y. bytes_eq y x) names
