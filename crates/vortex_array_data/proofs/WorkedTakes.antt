-- Worked rows, and whether they are too much.
use Rattle.std.proofs.Common.{◌≡◌, ◌<◌, ◌+◌, ◌*◌, inl, inr, ℕ, zero, suc, List, [], ◌∷◌, true, false, Some, length, refl, ap, arith}
use Rattle.std.specs.List.{AllByRecursion, sum_by}
use Rattle.std.proofs.lemmas.List.Sums.{sum_by-cons}
use Rattle.vortex_terms.specs.Term.{binary, fixed_size_list, list, null}
use Rattle.vortex_terms.specs.Row.{Row, bytes_row, null_row}
use Rattle.vortex_terms.specs.Fits.{Fits}
use Rattle.vortex_terms.specs.Parts.{byte_count}
use Rattle.vortex_node_rows.specs.RowsOf.{most_rows}
use Rattle.vortex_array_data.specs.Taken.{AreRows, HoldsMuch}

two_bytes : (r s : Row) → sum_by byte_count (r ∷ s ∷ []) ≡ byte_count r + byte_count s
two_bytes r s =
    omega (arith, sum_by-cons byte_count r (s ∷ []), sum_by-cons byte_count s [])

pub few_bytes : (r s : Row) → byte_count r + byte_count s < 4294967296 → HoldsMuch (binary false) (r ∷ s ∷ []) → ⊥
few_bytes r s l (inl m) = absurd (omega (arith, m))
few_bytes r s l (inr m) = absurd (omega (arith, m, l, two_bytes r s))

pub few_or_null : (r s : Row) → byte_count r + byte_count s < 4294967296 → HoldsMuch (binary true) (r ∷ s ∷ []) → ⊥
few_or_null r s l (inl m) = absurd (omega (arith, m))
few_or_null r s l (inr m) = absurd (omega (arith, m, l, two_bytes r s))

pub twice_half : (bs : List ℕ) → length bs ≡ 2147483648 → HoldsMuch (binary false) (bytes_row bs ∷ bytes_row bs ∷ [])
twice_half bs e = inr (omega (arith, e, two_bytes (bytes_row bs) (bytes_row bs)))

pub no_elements : HoldsMuch (list (binary false) true) (null_row ∷ null_row ∷ []) → ⊥
no_elements (inl m) = absurd (omega (arith, m))
no_elements (inr (inl m)) = absurd (omega (arith, m))
no_elements (inr (inr m)) = absurd (omega (arith, m))

abbrev nulls : ℕ → List Row
nulls zero = []
nulls (suc n) = null_row ∷ nulls n

are_nulls : (n : ℕ) → AreRows n null (nulls n)
are_nulls n = (long n, fit n)
  where
    long : (n : ℕ) → length (nulls n) ≡ n
    long zero = refl
    long (suc n) = ap suc (long n)

    fit : (n : ℕ) → AllByRecursion (Fits null) (nulls n)
    fit zero = tt
    fit (suc n) = (tt, fit n)

fixed_nulls : (k : ℕ) (es : List Row) → AreRows (2 * k) null es → most_rows < 2 * k → HoldsMuch (fixed_size_list null k true) (null_row ∷ null_row ∷ [])
fixed_nulls k es a l = inr (Some (false ∷ false ∷ []), (es, (refl, a, omega (arith, a.0, l))))

pub two_fixed : (k : ℕ) → most_rows < 2 * k → HoldsMuch (fixed_size_list null k true) (null_row ∷ null_row ∷ [])
two_fixed k l = fixed_nulls k (nulls (2 * k)) (are_nulls (2 * k)) l

pub one_fixed : (k : ℕ) → k < 4294967296 → HoldsMuch (fixed_size_list null k true) (null_row ∷ []) → ⊥
one_fixed k l (inl m) = absurd (omega (arith, m))
one_fixed k l (inr m) = absurd (omega (arith, m.1.1.1.0, m.1.1.2, l))
