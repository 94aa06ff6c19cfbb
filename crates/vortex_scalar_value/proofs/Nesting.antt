-- How deep values nest, as a loop over a list finds it.
use Rattle.std.proofs.Common.{◌≡◌, ℕ, zero, suc, ◌+◌, ◌<◌, ◌≤◌, leb, true, false, List, [], ◌∷◌, ◌++◌, get_or, length, take, sym, subst, arith}
use Rattle.std.proofs.lemmas.Bool.{lt-leb, leb-true, leb-false}
use Rattle.std.proofs.lemmas.List.{take_more}
use Rattle.vortex_scalar_value.specs.Value.{ValueTerm, value_levels, values_levels, values_from}
use Rattle.vortex_scalar_value.proofs.Standing.{some_level}

pub no_levels : (v : ValueTerm) (n : ℕ) → n ≡ 0 → false ≡ leb (value_levels v) n
no_levels v n e = sym (lt-leb (value_levels v) n (omega (arith, some_level v)))

below : (vs : List ValueTerm) (i : ℕ) (d : ValueTerm) → i < length vs → value_levels (get_or vs i d) ≤ values_levels (values_from vs)
below [] i d lt = absurd (omega arith)
below (v ∷ vs) zero d lt = omega arith
below (v ∷ vs) (suc i) d lt = omega (arith, below vs i d (omega arith))

-- one is too deep
pub too_deep : (vs : List ValueTerm) (i : ℕ) (d v : ValueTerm) (n : ℕ) → i < length vs → v ≡ get_or vs i d → leb (value_levels v) n ≡ false → false ≡ leb (values_levels (values_from vs)) n
too_deep vs i d v n lt is deep =
    let more : n < value_levels (get_or vs i d) = subst (λ w. n < value_levels w) is (leb-false (value_levels v) n deep) in
    sym (lt-leb (values_levels (values_from vs)) n (omega (arith, more, below vs i d lt)))

joined : (xs : List ValueTerm) (v : ValueTerm) (n : ℕ) → values_levels (values_from xs) ≤ n → value_levels v ≤ n → values_levels (values_from (xs ++ v ∷ [])) ≤ n
joined [] v n few one = omega (arith, one)
joined (x ∷ xs) v n few one = omega (arith, few, joined xs v n (omega (arith, few)) one)

-- one more is not
pub one_more : (vs : List ValueTerm) (i : ℕ) (d v : ValueTerm) (n : ℕ) → i < length vs → v ≡ get_or vs i d → leb (value_levels v) n ≡ true → values_levels (values_from (take i vs)) ≤ n → values_levels (values_from (take (i + 1) vs)) ≤ n
one_more vs i d v n lt is few so_far =
    let one : value_levels (get_or vs i d) ≤ n = subst (λ w. value_levels w ≤ n) is (leb-true (value_levels v) n few) in
    rw (take_more vs i d lt) (joined (take i vs) (get_or vs i d) n so_far one)
