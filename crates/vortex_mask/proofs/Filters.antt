-- What filters keep, and the places of true.
use Rattle.std.proofs.Common.{◌≡◌, ℕ, zero, suc, ◌+◌, ◌<◌, Bool, true, false, List, [], ◌∷◌, ◌++◌, length, take, get_or, replicate, if◌then◌else◌, arith, refl, sym, ap, ◌∙◌}
use Rattle.std.proofs.lemmas.List.{take_more, length-take, append-nil}
use Rattle.std.specs.List.{count_by}
use Rattle.vortex_mask.specs.Truths.{kept, places_from}
use Rattle.vortex_mask.proofs.Counts.{count_true, count_false}

pub kept-append : {A : Type 0} (m n : List Bool) (xs ys : List A) → length m ≡ length xs → kept (m ++ n) (xs ++ ys) ≡ kept m xs ++ kept n ys
kept-append [] n [] ys h = refl
kept-append [] n (x ∷ xs) ys h = absurd (omega arith)
kept-append (b ∷ m) n [] ys h = absurd (omega arith)
kept-append (true ∷ m) n (x ∷ xs) ys h = ap (λ zs. x ∷ zs) (kept-append m n xs ys (omega arith))
kept-append (false ∷ m) n (x ∷ xs) ys h = kept-append m n xs ys (omega arith)

-- one more place
pub kept_more : {A : Type 0} (m : List Bool) (xs : List A) (i : ℕ) (d : A) → length m ≡ length xs → i < length xs → kept (take (i + 1) m) (take (i + 1) xs) ≡ kept (take i m) (take i xs) ++ (if get_or m i false then get_or xs i d ∷ [] else [])
kept_more m xs i d h l =
    let k : i < length m = omega arith in
    let e : length (take i m) ≡ length (take i xs) = omega (arith, length-take i m, length-take i xs) in
    rw (take_more m i false k, take_more xs i d l) (kept-append (take i m) (get_or m i false ∷ []) (take i xs) (get_or xs i d ∷ []) e)

pub kept_trues : {A : Type 0} (xs : List A) → kept (replicate (length xs) true) xs ≡ xs
kept_trues [] = refl
kept_trues (x ∷ xs) = ap (λ zs. x ∷ zs) (kept_trues xs)

pub kept_falses : {A : Type 0} (n : ℕ) (xs : List A) → kept (replicate n false) xs ≡ []
kept_falses zero xs = refl
kept_falses (suc n) [] = refl
kept_falses (suc n) (x ∷ xs) = kept_falses n xs

pub kept-replicate : (m : List Bool) (v : Bool) → kept m (replicate (length m) v) ≡ replicate (count_by (λ b. b) m) v
kept-replicate [] v = refl
kept-replicate (true ∷ m) v =
    let e : suc (count_by (λ b. b) m) ≡ count_by (λ b. b) (true ∷ m) = omega (arith, count_true m) in
    ap (λ zs. v ∷ zs) (kept-replicate m v) ∙ ap (λ (n : ℕ). replicate n v) e
kept-replicate (false ∷ m) v = rw (count_false m) (kept-replicate m v)

pub places-append : (k : ℕ) (m n : List Bool) → places_from k (m ++ n) ≡ places_from k m ++ places_from (k + length m) n
places-append k [] n = ap (λ (j : ℕ). places_from j n) (omega arith)
places-append k (true ∷ m) n =
    ap (λ zs. k ∷ zs) (places-append (k + 1) m n ∙ ap (λ (j : ℕ). places_from (k + 1) m ++ places_from j n) (omega arith))
places-append k (false ∷ m) n =
    places-append (k + 1) m n ∙ ap (λ (j : ℕ). places_from (k + 1) m ++ places_from j n) (omega arith)

pub places_more : (m : List Bool) (i : ℕ) → i < length m → places_from 0 (take (i + 1) m) ≡ places_from 0 (take i m) ++ (if get_or m i false then i ∷ [] else [])
places_more m i h =
    let e : 0 + length (take i m) ≡ i = omega (arith, length-take i m) in
    rw (take_more m i false h) (places-append 0 (take i m) (get_or m i false ∷ []) ∙ ap (λ (j : ℕ). places_from 0 (take i m) ++ places_from j (get_or m i false ∷ [])) e)

-- the loop of a filter
pub kept_yes : (m xs : List Bool) (i : ℕ) (b x : Bool) (before after : List Bool) → length m ≡ length xs → i < length xs → b ≡ get_or m i false → b ≡ true → x ≡ get_or xs i false → before ≡ kept (take i m) (take i xs) → after ≡ before ++ x ∷ [] → after ≡ kept (take (i + 1) m) (take (i + 1) xs)
kept_yes m xs i b x before after h l e t f o n =
    let y : get_or m i false ≡ true = sym e ∙ t in
    rw (kept_more m xs i false h l, y, n, o, f) refl

pub kept_no : (m xs : List Bool) (i : ℕ) (b : Bool) (before : List Bool) → length m ≡ length xs → i < length xs → b ≡ get_or m i false → b ≡ false → before ≡ kept (take i m) (take i xs) → before ≡ kept (take (i + 1) m) (take (i + 1) xs)
kept_no m xs i b before h l e t o =
    let y : get_or m i false ≡ false = sym e ∙ t in
    rw (kept_more m xs i false h l, y, append-nil (kept (take i m) (take i xs))) o

-- the loop that finds places
pub places_yes : (m : List Bool) (i : ℕ) (b : Bool) (before after : List ℕ) → i < length m → b ≡ get_or m i false → b ≡ true → before ≡ places_from 0 (take i m) → after ≡ before ++ i ∷ [] → after ≡ places_from 0 (take (i + 1) m)
places_yes m i b before after l e t o n =
    let y : get_or m i false ≡ true = sym e ∙ t in
    rw (places_more m i l, y, n, o) refl

pub places_no : (m : List Bool) (i : ℕ) (b : Bool) (before : List ℕ) → i < length m → b ≡ get_or m i false → b ≡ false → before ≡ places_from 0 (take i m) → before ≡ places_from 0 (take (i + 1) m)
places_no m i b before l e t o =
    let y : get_or m i false ≡ false = sym e ∙ t in
    rw (places_more m i l, y, append-nil (places_from 0 (take i m))) o

-- masks of one value
pub kept_by_true : (m xs : List Bool) (b : Bool) → m ≡ replicate (length m) b → b ≡ true → length m ≡ length xs → kept m xs ≡ xs
kept_by_true m xs b e t h =
    ap (λ (k : List Bool). kept k xs) (e ∙ ap (replicate (length m)) t ∙ ap (λ (n : ℕ). replicate n true) h) ∙ kept_trues xs

pub kept_by_false : (m xs : List Bool) (b : Bool) → m ≡ replicate (length m) b → b ≡ false → kept m xs ≡ []
kept_by_false m xs b e t =
    ap (λ (k : List Bool). kept k xs) (e ∙ ap (replicate (length m)) t) ∙ kept_falses (length m) xs

pub kept_of_same : (m xs : List Bool) (n : ℕ) (b : Bool) → n ≡ count_by (λ v. v) m → xs ≡ replicate (length xs) b → length m ≡ length xs → replicate n b ≡ kept m xs
kept_of_same m xs n b c e h =
    ap (λ (k : ℕ). replicate k b) c
    ∙ sym (ap (kept m) (e ∙ ap (λ (k : ℕ). replicate k b) (sym h)) ∙ kept-replicate m b)
