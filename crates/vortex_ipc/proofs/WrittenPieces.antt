-- Pieces written one after another.
use Rattle.std.proofs.Common.{◌≡◌, ℕ, ◌+◌, ◌≤◌, ◌<◌, List, ◌++◌, length, get_or, take, drop, Option, sym, ap, subst, ◌∙◌, append-nil, append_assoc, length-append, arith}
use Rattle.std.specs.List.{concat}
use Rattle.std.specs.Io.KnownBytes.{Appends}
use Rattle.std.proofs.KnownBytes.{Appends-trans}
use Rattle.std.proofs.lemmas.List.{take-append-le}
use Rattle.std.proofs.Math.Seq.{take-append-add}
use Rattle.vortex_flat.proofs.ItemLemmas.{drop_here, drop_all}

-- the first pieces are written, and the pieces are these and those that are left
abbrev pub Part : Option (List ℕ) → Option (List ℕ) → List (List ℕ) → ℕ → Type 0
Part old new pieces i = (done : List ℕ) × (concat pieces ≡ done ++ concat (drop i pieces)) × Appends old new done

next : (pieces : List (List ℕ)) (i : ℕ) (x done : List ℕ) → i < length pieces → x ≡ get_or pieces i x → concat pieces ≡ done ++ concat (drop i pieces) → concat pieces ≡ done ++ (x ++ concat (drop (i + 1) pieces))
next pieces i x done lt e p = p ∙ ap (λ (ps : List (List ℕ)). done ++ concat ps) (drop_here pieces i x lt e)

pub more : (a b c : Option (List ℕ)) (pieces : List (List ℕ)) (i : ℕ) (x y : List ℕ) → i < length pieces → x ≡ get_or pieces i x → y ≡ x → Part a b pieces i → Appends b c y → Part a c pieces (i + 1)
more a b c pieces i x y lt e same p r =
    let q : Appends b c x = subst (Appends b c) same r in
    (p.0 ++ x, next pieces i x p.0 lt e p.1 ∙ sym (append_assoc p.0 x (concat (drop (i + 1) pieces))), Appends-trans a b c p.0 x p.2 q)

pub all : (a b : Option (List ℕ)) (pieces : List (List ℕ)) → Part a b pieces (length pieces) → Appends a b (concat pieces)
all a b pieces p =
    let whole : concat pieces ≡ p.0 = p.1 ∙ ap (λ (ps : List (List ℕ)). p.0 ++ concat ps) (drop_all pieces) ∙ append-nil p.0 in
    subst (Appends a b) (sym whole) p.2

-- a prefix of the pieces, and not the whole, is written
abbrev pub Short : Option (List ℕ) → Option (List ℕ) → List (List ℕ) → Type 0
Short old new pieces = (n : ℕ) × (n < length (concat pieces)) × Appends old new (take n (concat pieces))

cut : (whole done x rest : List ℕ) (n : ℕ) → whole ≡ done ++ (x ++ rest) → n < length x → take (length done + n) whole ≡ done ++ take n x
cut whole done x rest n e lt =
    let le : n ≤ length x = omega (arith, lt) in
    ap (take (length done + n)) e ∙ take-append-add done (x ++ rest) n ∙ ap (λ (xs : List ℕ). done ++ xs) (take-append-le n x rest le)

pub short : (a b c : Option (List ℕ)) (pieces : List (List ℕ)) (i n : ℕ) (x y : List ℕ) → i < length pieces → x ≡ get_or pieces i x → y ≡ x → Part a b pieces i → (n < length y) × Appends b c (take n y) → Short a c pieces
short a b c pieces i n x y lt e is p r =
    let q : (n < length x) × Appends b c (take n x) = subst (λ (l : List ℕ). (n < length l) × Appends b c (take n l)) is r in
    let whole : concat pieces ≡ p.0 ++ (x ++ concat (drop (i + 1) pieces)) = next pieces i x p.0 lt e p.1 in
    let long = length-append p.0 (x ++ concat (drop (i + 1) pieces)) in
    let behind = length-append x (concat (drop (i + 1) pieces)) in
    let same : length (concat pieces) ≡ length (p.0 ++ (x ++ concat (drop (i + 1) pieces))) = ap length whole in
    (length p.0 + n, omega (arith, same, long, behind, q.0), subst (Appends a c) (sym (cut (concat pieces) p.0 x (concat (drop (i + 1) pieces)) n whole q.0)) (Appends-trans a b c p.0 (take n x) p.2 q.1))
