-- The table of widths against its rule.
use Rattle.std.proofs.Common.{◌≡◌, ℕ, zero, suc, ◌+◌, ◌-◌, ◌*◌, ◌^◌, ◌<◌, true, ◌&&◌, ltb, leb, List, [], ◌∷◌, length, get_or, arith, add-zero}
use Rattle.std.proofs.lemmas.Bool.{ltb-true, leb-true, and_parts}
use Rattle.vortex_names.specs.Decimals.{IsBitLength}
use Rattle.vortex_names.specs.inner.Widths.{are_widths}

pub width_at : (p i : ℕ) (ws : List ℕ) → are_widths p ws ≡ true → i < length ws → IsBitLength (10 ^ (p + i) - 1) (get_or ws i 0)
width_at p i [] e h = absurd (omega arith)
width_at p zero (w ∷ ws) e h =
    let both = and_parts (ltb (10 ^ p - 1) (2 ^ w) && leb (2 ^ w) (2 * (10 ^ p - 1))) (are_widths (suc p) ws) e in
    let here = and_parts (ltb (10 ^ p - 1) (2 ^ w)) (leb (2 ^ w) (2 * (10 ^ p - 1))) both.0 in
    let at = add-zero p in
    rw at (record { enough = ltb-true _ _ here.0; needed = leb-true _ _ here.1 })
width_at p (suc i) (w ∷ ws) e h =
    let at : p + suc i ≡ suc p + i = omega arith in
    rw at (width_at (suc p) i ws (and_parts _ _ e).1 (omega arith))
