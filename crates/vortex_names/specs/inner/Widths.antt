-- The table of widths in bits of the greatest numbers of so many digits: `are_widths`.
use Rattle.std.specs.Prelude.{ℕ, ◌-◌, ◌*◌, ◌^◌, ◌&&◌, suc, Bool, true, List, [], ◌∷◌, nat_lt}
use Rattle.std.specs.Prelude.{nat_le}

-- whether these are the bit lengths of the greatest numbers of p digits, p + 1 digits and so on
abbrev pub are_widths : ℕ → List ℕ → Bool
are_widths p [] = true
are_widths p (w ∷ ws) =
    (nat_lt (10 ^ p - 1) (2 ^ w) && nat_le (2 ^ w) (2 * (10 ^ p - 1))) && are_widths (suc p) ws
