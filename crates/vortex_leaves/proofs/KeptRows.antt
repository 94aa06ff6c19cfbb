-- Rows of bytes that are kept by a mask, joined.
use Rattle.std.proofs.Common.{◌≡◌, ◌<◌, ◌+◌, ◌++◌, ℕ, List, [], ◌∷◌, Bool, true, false, length, take, get_or, if◌then◌else◌, sym, ap, ◌∙◌}
use Rattle.std.specs.List.{flat_map}
use Rattle.std.proofs.lemmas.Grind.{flat_map-append}
use Rattle.std.proofs.lemmas.List.{append-nil}
use Rattle.vortex_mask.specs.Truths.{kept}
use Rattle.vortex_mask.proofs.Filters.{kept_more}

-- the rows that are kept of the first i, joined
abbrev pub joined_before : List Bool → List (List ℕ) → ℕ → List ℕ
joined_before m rows i = flat_map (λ c. c) (kept (take i m) (take i rows))

pub row_kept : (m : List Bool) (rows : List (List ℕ)) (i : ℕ) (row before after : List ℕ) → length m ≡ length rows
    → i < length rows → get_or m i false ≡ true → row ≡ get_or rows i row → before ≡ joined_before m rows i
    → after ≡ before ++ row → after ≡ joined_before m rows (i + 1)
row_kept m rows i row before after l h t r o n =
    let f : List ℕ → List ℕ = λ c. c in
    let more : kept (take (i + 1) m) (take (i + 1) rows) ≡ kept (take i m) (take i rows) ++ (get_or rows i row ∷ []) =
    kept_more m rows i row l h
    ∙ ap (λ (b : Bool). kept (take i m) (take i rows) ++ (if b then get_or rows i row ∷ [] else [])) t in
    let last : flat_map f (get_or rows i row ∷ []) ≡ get_or rows i row = append-nil (get_or rows i row) in
    n ∙ ap (λ (l : List ℕ). l ++ row) o ∙ ap (λ (l : List ℕ). joined_before m rows i ++ l) (r ∙ sym last)
    ∙ sym (flat_map-append f (kept (take i m) (take i rows)) (get_or rows i row ∷ [])) ∙ ap (flat_map f) (sym more)

pub row_left : (m : List Bool) (rows : List (List ℕ)) (i : ℕ) (before : List ℕ) → length m ≡ length rows
    → i < length rows → get_or m i false ≡ false → before ≡ joined_before m rows i
    → before ≡ joined_before m rows (i + 1)
row_left m rows i before l h t o =
    let more : kept (take (i + 1) m) (take (i + 1) rows) ≡ kept (take i m) (take i rows) =
    kept_more m rows i [] l h
    ∙ ap (λ (b : Bool). kept (take i m) (take i rows) ++ (if b then get_or rows i [] ∷ [] else [])) t
    ∙ append-nil (kept (take i m) (take i rows)) in
    o ∙ ap (flat_map (λ c. c)) (sym more)
