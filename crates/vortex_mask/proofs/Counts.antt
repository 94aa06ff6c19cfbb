-- How many truth values are true.
use Rattle.std.proofs.Common.{◌≡◌, ℕ, zero, suc, ◌+◌, ◌≤◌, Bool, List, [], ◌∷◌, length, replicate, cond, true, false, not, ◌==◌, arith, refl, ◌∙◌}
use Rattle.std.proofs.lemmas.Bool.Decides.{nat_tests}
use Rattle.std.proofs.lemmas.List.Sums.{sum_by-cons, count_by-le-length}
use Rattle.std.specs.List.{count_by, list_all}

pub count_true : (m : List Bool) → count_by (λ b. b) (true ∷ m) ≡ 1 + count_by (λ b. b) m
count_true m = sum_by-cons (λ b. cond b 1 0) true m

pub count_false : (m : List Bool) → count_by (λ b. b) (false ∷ m) ≡ count_by (λ b. b) m
count_false m = refl

pub count-replicate_true : (n : ℕ) → count_by (λ b. b) (replicate n true) ≡ n
count-replicate_true zero = refl
count-replicate_true (suc n) = count_true (replicate n true) ∙ omega (arith, count-replicate_true n)

pub count-replicate_false : (n : ℕ) → count_by (λ b. b) (replicate n false) ≡ 0
count-replicate_false zero = refl
count-replicate_false (suc n) = count_false (replicate n false) ∙ count-replicate_false n

suc_same : (a b : ℕ) → (1 + a == suc b) ≡ (a == b)
suc_same a b = grind (arith, nat_tests)

less_other : (a b : ℕ) → a ≤ b → (a == suc b) ≡ false
less_other a b h = grind (arith, nat_tests)

more_other : (a : ℕ) → (1 + a == 0) ≡ false
more_other a = grind (arith, nat_tests)

pub all_counted : (m : List Bool) → (count_by (λ b. b) m == length m) ≡ list_all (λ b. b) m
all_counted [] = refl
all_counted (true ∷ m) = rw (count_true m, suc_same (count_by (λ b. b) m) (length m)) (all_counted m)
all_counted (false ∷ m) = rw (count_false m) (less_other (count_by (λ b. b) m) (length m) (count_by-le-length (λ b. b) m))

pub none_counted : (m : List Bool) → (count_by (λ b. b) m == 0) ≡ list_all not m
none_counted [] = refl
none_counted (true ∷ m) = rw (count_true m) (more_other (count_by (λ b. b) m))
none_counted (false ∷ m) = rw (count_false m) (none_counted m)
