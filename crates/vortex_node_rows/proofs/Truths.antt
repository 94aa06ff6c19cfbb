-- Truth values: as many as asked for, and each fits.
use Rattle.std.proofs.Common.{◌≡◌, ◌≤◌, ℕ, ◌*◌, List, [], ◌∷◌, Bool, Some, map, length, sym, ap, ◌∙◌, subst, arith}
use Rattle.std.specs.Prelude.{nat_le, if◌then◌else◌, None}
use Rattle.std.specs.List.{AllByRecursion, flat_map}
use Rattle.std.proofs.lemmas.Bool.{leb-true}
use Rattle.std.proofs.lemmas.List.{length-map, length-take}
use Rattle.vortex_terms.specs.Term.{boolean}
use Rattle.vortex_terms.specs.Row.{Row, truth_row}
use Rattle.vortex_terms.specs.Fits.{Fits}
use Rattle.vortex_mask.specs.Bits.{bits_of_byte, truths_in}
use Rattle.vortex_mask.proofs.Places.{length_of_bits}
use Rattle.vortex_node_rows.specs.Buffers.{one_buffer}
use Rattle.vortex_node_rows.specs.Leaves.{truths_of}
use Rattle.vortex_node_rows.proofs.Options.{bind_some, guarded}

length-truths_in : (n : ℕ) (b : List ℕ) → n ≤ 8 * length b → length (truths_in n b) ≡ n
length-truths_in n b h = omega (arith, length-take n (flat_map bits_of_byte b), length_of_bits b)

-- the truth values that are found
truths_found : (n : ℕ) (bs : List (List ℕ)) (rs : List Row) → truths_of n bs ≡ Some rs
    → (v : List Bool) × (length v ≡ n) × (map truth_row v ≡ rs)
unfolding truths_of
truths_found n bs rs e =
    let b = bind_some (one_buffer bs)
    (λ b. if nat_le n (8 * length b) then Some (map truth_row (truths_in n b)) else None) rs e in
    let g = guarded (nat_le n (8 * length b.0)) (map truth_row (truths_in n b.0)) rs b.2 in
    (truths_in n b.0, length-truths_in n b.0 (leb-true _ _ g.0), g.1)

pub truths_count : (n : ℕ) (bs : List (List ℕ)) (rs : List Row) → truths_of n bs ≡ Some rs → length rs ≡ n
truths_count n bs rs e =
    let v = truths_found n bs rs e in
    ap length (sym v.2) ∙ length-map v.0 truth_row ∙ v.1

truth_rows_fit : (nl : Bool) (v : List Bool) → AllByRecursion (Fits (boolean nl)) (map truth_row v)
truth_rows_fit nl [] = tt
truth_rows_fit nl (b ∷ v) = (tt, truth_rows_fit nl v)

pub truths_fit : (nl : Bool) (n : ℕ) (bs : List (List ℕ)) (rs : List Row) → truths_of n bs ≡ Some rs
    → AllByRecursion (Fits (boolean nl)) rs
truths_fit nl n bs rs e =
    let v = truths_found n bs rs e in
    subst (AllByRecursion (Fits (boolean nl))) v.2 (truth_rows_fit nl v.0)
