-- Texts that are written one after the other.
use Rattle.std.proofs.Common.{◌≡◌, ℕ, zero, suc, ◌+◌, ◌<◌, List, [], ◌∷◌, ◌++◌, take, length}
use Rattle.std.proofs.Common.{get_or, map, refl, sym, ap, ◌∙◌, arith, add-one}
use Rattle.std.specs.Prelude.{codes}
use Rattle.std.specs.List.{flat_map}
use Rattle.std.specs.Fmt.{decimal}
use Rattle.std.proofs.lemmas.List.{get_or-map, length-map}
use Rattle.vortex_terms.specs.Term.{Fields, no_fields, field}
use Rattle.vortex_terms.specs.Types.{field_count}
use Rattle.vortex_types.specs.Text.{field_text, field_texts, listed, separator}

abbrev behind : List (List ℕ) → List ℕ
behind xs = flat_map (λ y. codes ", " ++ y) xs

empty_end : (xs : List ℕ) → xs ++ [] ≡ xs
empty_end [] = refl
empty_end (x ∷ xs) = ap (λ ys. x ∷ ys) (empty_end xs)

together : (xs ys zs : List ℕ) → (xs ++ ys) ++ zs ≡ xs ++ (ys ++ zs)
together [] ys zs = refl
together (x ∷ xs) ys zs = ap (λ ws. x ∷ ws) (together xs ys zs)

behind_suc : (xs : List (List ℕ)) (i : ℕ) → i < length xs → behind (take (suc i) xs) ≡ behind (take i xs) ++ (codes ", " ++ get_or xs i [])
behind_suc (x ∷ xs) zero h = empty_end (codes ", " ++ x)
behind_suc (x ∷ xs) (suc i) h =
    ap (λ ys. (codes ", " ++ x) ++ ys) (behind_suc xs i (omega arith))
    ∙ sym (together (codes ", " ++ x) (behind (take i xs)) (codes ", " ++ get_or xs i []))
behind_suc [] i h = absurd (omega arith)

listed_suc : (xs : List (List ℕ)) (i : ℕ) → i < length xs → listed (take (suc i) xs) ≡ listed (take i xs) ++ (separator i ++ get_or xs i [])
listed_suc (x ∷ xs) zero h = empty_end x
listed_suc (x ∷ xs) (suc i) h =
    ap (λ ys. x ++ ys) (behind_suc xs i (omega arith)) ∙ sym (together x (behind (take i xs)) (codes ", " ++ get_or xs i []))
listed_suc [] i h = absurd (omega arith)

-- one text more
pub listed_step : (xs : List (List ℕ)) (i : ℕ) (x : List ℕ) → i < length xs → get_or xs i [] ≡ x
    → listed (take i xs) ++ (separator i ++ x) ≡ listed (take (i + 1) xs)
listed_step xs i x h e = rw (add-one, ← e) (sym (listed_suc xs i h))

pub byte_text : (bs : List ℕ) (i : ℕ) → i < length bs → get_or (map decimal bs) i [] ≡ decimal (get_or bs i 0)
byte_text bs i h = get_or-map decimal bs i 0 [] h

pub byte_count : (bs : List ℕ) → length (map decimal bs) ≡ length bs
byte_count bs = length-map bs decimal

pub text_of_field : (fs : Fields) (i : ℕ) → i < field_count fs → get_or (field_texts fs) i [] ≡ field_text fs i
text_of_field (field x t fs) zero h = refl
text_of_field (field x t fs) (suc i) h = text_of_field fs i (omega arith)
text_of_field no_fields i h = absurd (omega arith)

pub text_count : (fs : Fields) → length (field_texts fs) ≡ field_count fs
text_count no_fields = refl
text_count (field x t fs) = ap suc (text_count fs)
