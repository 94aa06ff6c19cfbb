-- The elements of a vector, each of which may be nothing.
use Rattle.std.specs.Prelude.{ℕ, zero, suc, ◌+◌, List, [], ◌∷◌, Option, Some}
use Rattle.std.specs.Option.{option_map}
use Rattle.vortex_prelude.specs.Chain.{◌>>=◌}

-- what each of n elements from the i-th on is, where each is something
abbrev pub elements : {A : Type 0} → (ℕ → Option A) → ℕ → ℕ → Option (List A)
elements f i zero = Some []
elements f i (suc n) = f i >>= λ x. option_map (λ xs. x ∷ xs) (elements f (i + 1) n)
