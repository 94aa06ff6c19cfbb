-- The places of what is in rows, where the rows lie one behind the other.
--     spans         the places of what is in the rows at places
--     AreStarts     the rows end where the next begin, within so many
use Rattle.std.specs.Prelude.{◌≤◌, ◌-◌, ℕ, suc, List}
use Rattle.std.specs.List.{flat_map}
use Rattle.vortex_array_data.specs.inner.Picked.{from_on}

-- row p is from where it starts up to where the next one does
abbrev pub spans : (ℕ → ℕ) → List ℕ → List ℕ
spans start ps = flat_map (λ p. from_on (start (suc p) - start p) (start p)) ps

-- n rows, each of which starts where the one before ends, and which end at most there
pub record AreStarts (start : ℕ → ℕ) (n end : ℕ) : Type 0 where
  pub rise : (p q : ℕ) → p ≤ q → q ≤ n → start p ≤ start q
  pub within : start n ≤ end
