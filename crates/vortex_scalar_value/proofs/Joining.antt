-- Texts that are written one after the other, with a text between each two.
use Rattle.std.proofs.Common.{◌≡◌, ℕ, zero, suc, ◌+◌, ◌<◌, List, [], ◌∷◌, ◌++◌, take, length}
use Rattle.std.proofs.Common.{get_or, refl, sym, ap, ◌∙◌, arith, add-one}
use Rattle.std.specs.List.{flat_map}
use Rattle.vortex_scalar_value.specs.Joined.{joined, between}

abbrev behind : List ℕ → List (List ℕ) → List ℕ
behind s xs = flat_map (λ y. s ++ y) xs

empty_end : (xs : List ℕ) → xs ++ [] ≡ xs
empty_end [] = refl
empty_end (x ∷ xs) = ap (λ ys. x ∷ ys) (empty_end xs)

together : (xs ys zs : List ℕ) → (xs ++ ys) ++ zs ≡ xs ++ (ys ++ zs)
together [] ys zs = refl
together (x ∷ xs) ys zs = ap (λ ws. x ∷ ws) (together xs ys zs)

behind_suc : (s : List ℕ) (xs : List (List ℕ)) (i : ℕ) → i < length xs → behind s (take (suc i) xs) ≡ behind s (take i xs) ++ (s ++ get_or xs i [])
behind_suc s (x ∷ xs) zero h = empty_end (s ++ x)
behind_suc s (x ∷ xs) (suc i) h =
    ap (λ ys. (s ++ x) ++ ys) (behind_suc s xs i (omega arith))
    ∙ sym (together (s ++ x) (behind s (take i xs)) (s ++ get_or xs i []))
behind_suc s [] i h = absurd (omega arith)

joined_suc : (s : List ℕ) (xs : List (List ℕ)) (i : ℕ) → i < length xs → joined s (take (suc i) xs) ≡ joined s (take i xs) ++ (between s i ++ get_or xs i [])
joined_suc s (x ∷ xs) zero h = empty_end x
joined_suc s (x ∷ xs) (suc i) h =
    ap (λ ys. x ++ ys) (behind_suc s xs i (omega arith)) ∙ sym (together x (behind s (take i xs)) (s ++ get_or xs i []))
joined_suc s [] i h = absurd (omega arith)

-- one text more
pub joined_step : (s : List ℕ) (xs : List (List ℕ)) (i : ℕ) (x : List ℕ) → i < length xs → get_or xs i [] ≡ x
    → joined s (take i xs) ++ (between s i ++ x) ≡ joined s (take (i + 1) xs)
joined_step s xs i x h e = rw (add-one, ← e) (sym (joined_suc s xs i h))
