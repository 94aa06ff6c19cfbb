-- Lists cut in pieces of one length: `chunks`.
use Rattle.std.specs.Prelude.{ℕ, zero, suc, List, [], ◌∷◌, take, drop}

-- n pieces of k elements each, one behind the other
abbrev pub chunks : {A : Type 0} → ℕ → ℕ → List A → List (List A)
chunks k zero xs = []
chunks k (suc n) xs = take k xs ∷ chunks k n (drop k xs)
