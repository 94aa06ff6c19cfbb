-- Texts with a text between each two of them: `joined`, `between`.
use Rattle.std.specs.Prelude.{ℕ, zero, suc, List, [], ◌∷◌, ◌++◌}
use Rattle.std.specs.List.{flat_map}

abbrev pub joined : List ℕ → List (List ℕ) → List ℕ
joined s [] = []
joined s (x ∷ xs) = x ++ flat_map (λ y. s ++ y) xs

-- what stands before the text at a place
abbrev pub between : List ℕ → ℕ → List ℕ
between s zero = []
between s (suc i) = s
