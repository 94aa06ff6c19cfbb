-- Values that hold no values.
use Rattle.std.proofs.Common.{◌≡◌, Bool, true, false, refl}

-- what is not true is false
pub is_false : (b : Bool) → (b ≡ true → ⊥) → false ≡ b
is_false true h = absurd (h refl)
is_false false h = refl
