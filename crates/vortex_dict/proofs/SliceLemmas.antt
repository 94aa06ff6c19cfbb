-- Rows in slices.
use Rattle.std.proofs.Common.{◌≡◌, ℕ, zero, suc, ◌-◌, ◌^◌, ◌<◌, ◌≤◌, Bool, true, false, cond}
use Rattle.std.proofs.Common.{Option, Some, None, List, [], ◌∷◌, map, length, drop, get_or, ap, sym}
use Rattle.std.proofs.Common.{◌∙◌, arith}
use Rattle.std.specs.List.{slice_get, slice_range, range_with_len}
use Rattle.std.proofs.lemmas.List.{length-take, length-drop}
use Rattle.std.proofs.lemmas.List.FromFn.{length-map-range_with_len, get_or-map-range_with_len}
use Rattle.std.proofs.lemmas.Option.{slice_get-get_or}
use Rattle.vortex_terms.specs.Row.{null_row}
use Rattle.vortex_dict.specs.KeyRows.{bytes_or_null}
use Rattle.vortex_dict.specs.Limits.{byte_count}
use Rattle.vortex_dict.specs.Slices.{is_valid, bytes_at, bytes_rows}

-- the element at a place of a list that a function makes
pub made_at : {A : Type 0} (f : ℕ → A) (n i : ℕ) → i < n → slice_get (map f (range_with_len 0 n)) i ≡ Some (f i)
made_at f n i l = slice_get-get_or (map f (range_with_len 0 n)) i (f i) (rw (length-map-range_with_len f 0 n) l) ∙ ap (λ x. Some x) (get_or-map-range_with_len f 0 n i i (f i) l (omega arith))

-- where a row is found, the row that it stands for is found
pub got : {A B : Type 0} (f : A → B) (xs : List A) (i : ℕ) (x : A) (d : B) → slice_get xs i ≡ Some x → get_or (map f xs) i d ≡ f x
got f [] i x d e = absurd (no_element e)
  where
    no_element : None ≡ Some x → ⊥
    no_element h = cc
got f (y ∷ xs) zero x d e = ap f (same e)
  where
    same : Some y ≡ Some x → y ≡ x
    same h = cc
got f (y ∷ xs) (suc i) x d e = got f xs i x d e

-- ---- a row is no longer than the buffer

piece_short : (bytes : List ℕ) (from to : ℕ) (b : Bool)
    → byte_count (bytes_or_null (cond b (Some (slice_range bytes from to)) None)) ≤ length bytes
piece_short bytes from to true =
    let one = length-take (to - from) (drop from bytes) in
    let rest = length-drop from bytes in
    omega (arith, one, rest)
piece_short bytes from to false = omega arith

pub row_short : (bytes offsets : List ℕ) (valid : Option (List Bool)) (rows : List (Option (List ℕ)))
    → bytes_rows bytes offsets valid ≡ rows → length bytes < 2 ^ 63 → (i : ℕ) → i < length rows
    → byte_count (get_or (map bytes_or_null rows) i null_row) < 2 ^ 63
row_short bytes offsets valid rows e s i l =
    let f = bytes_at bytes offsets valid in
    let n = length offsets - 1 in
    let count = length-map-range_with_len f 0 n in
    let same = ap length e in
    let found = ap (λ rs. slice_get rs i) (sym e) ∙ made_at f n i (omega (arith, l, count, same)) in
    let size = ap byte_count (got bytes_or_null rows i (f i) null_row found) in
    let most = piece_short bytes (get_or offsets i 0) (get_or offsets (suc i) 0) (is_valid valid i) in
    omega (arith, size, most, s)
