-- The columns inside rows that were made from columns are those columns, above rows that are not
-- null.
--     column-struct_rows, column-masked     the columns of a struct's fields
--     elements-list_rows, elements-masked   the elements of lists
--     pieces-joined                         pieces that leave no gap, joined
use Rattle.std.specs.Prelude.{◌≡◌, ◌≤◌, ℕ, zero, suc, ◌+◌, ◌-◌, Bool, true, false, if◌then◌else◌, List, [], ◌∷◌, ◌++◌, map, length, replicate, take, drop, slice_range, Option, Some, None, refl}
use Rattle.std.specs.List.{flat_map, slice_get}
use Rattle.std.specs.Option.{unwrap_or}
use Rattle.std.proofs.lemmas.List.{drop-drop}
use Rattle.std.proofs.Math.Seq.{take-add}
use Rattle.std.proofs.Common.{ap, sym, ◌∙◌, arith}
use Rattle.vortex_terms.specs.Term.{Term}
use Rattle.vortex_terms.specs.Row.{Row, list_row, Rows, no_rows, row, rows_from, row_at}
use Rattle.vortex_terms.specs.Default.{default_row}
use Rattle.vortex_terms.specs.Parts.{field_row, column, inner_rows}
use Rattle.vortex_terms.specs.RowLaws.{row_list-from}
use Rattle.vortex_terms.specs.FromColumns.{zip_map, masked, inside_structs, struct_rows, pieces, list_rows, AreLong, Rises, last_from}

-- ---- structs

pub length-inside_structs : (n : ℕ) (columns : List (List Row)) → AreLong n columns
    → length (inside_structs n columns) ≡ n
length-inside_structs n [] a = length-copies n no_rows
  where
    length-copies : {A : Type 0} (n : ℕ) (x : A) → length (replicate n x) ≡ n
    length-copies zero x = refl
    length-copies (suc n) x = ap suc (length-copies n x)
length-inside_structs n (c ∷ columns) a =
    zipped c (inside_structs n columns) n a.0 (length-inside_structs n columns a.1)
  where
    zipped : (c : List Row) (qs : List Rows) (n : ℕ) → length c ≡ n → length qs ≡ n
        → length (zip_map row c qs) ≡ n
    zipped [] qs n e g = e
    zipped (r ∷ c) [] n e g = g
    zipped (r ∷ c) (q ∷ qs) zero e g = absurd (omega arith)
    zipped (r ∷ c) (q ∷ qs) (suc n) e g = ap suc (zipped c qs n (omega arith) (omega arith))

-- the row at a place inside each struct
abbrev at_place : Term → ℕ → Rows → Row
at_place t i rs = unwrap_or (row_at rs i) (default_row t)

first_zipped : (t : Term) (c : List Row) (qs : List Rows) → length c ≡ length qs
    → map (at_place t 0) (zip_map row c qs) ≡ c
first_zipped t [] [] e = refl
first_zipped t (r ∷ c) (q ∷ qs) e = ap (λ rs. r ∷ rs) (first_zipped t c qs (omega arith))
first_zipped t [] (q ∷ qs) e = absurd (omega arith)
first_zipped t (r ∷ c) [] e = absurd (omega arith)

later_zipped : (t : Term) (i : ℕ) (c : List Row) (qs : List Rows) → length c ≡ length qs
    → map (at_place t (suc i)) (zip_map row c qs) ≡ map (at_place t i) qs
later_zipped t i [] [] e = refl
later_zipped t i (r ∷ c) (q ∷ qs) e =
    ap (λ rs. at_place t i q ∷ rs) (later_zipped t i c qs (omega arith))
later_zipped t i [] (q ∷ qs) e = absurd (omega arith)
later_zipped t i (r ∷ c) [] e = absurd (omega arith)

inside-at : (t : Term) (i n : ℕ) (columns : List (List Row)) (c : List Row) → AreLong n columns
    → slice_get columns i ≡ Some c → map (at_place t i) (inside_structs n columns) ≡ c
inside-at t i n [] c a e = absurd (cc)
inside-at t zero n (d ∷ columns) c a e =
    first_zipped t d (inside_structs n columns) (a.0 ∙ sym (length-inside_structs n columns a.1))
    ∙ found d c e
  where
    or_none : List Row → Option (List Row) → List Row
    or_none x None = x
    or_none x (Some y) = y

    found : (d c : List Row) → Some d ≡ Some c → d ≡ c
    found d c e = ap (or_none d) e
inside-at t (suc i) n (d ∷ columns) c a e =
    later_zipped t i d (inside_structs n columns) (a.0 ∙ sym (length-inside_structs n columns a.1))
    ∙ inside-at t i n columns c a.1 e

listed : (t : Term) (i : ℕ) (qs : List Rows) → column t i (map list_row qs) ≡ map (at_place t i) qs
listed t i [] = refl
listed t i (q ∷ qs) = ap (λ rs. at_place t i q ∷ rs) (listed t i qs)

-- field i of the structs is column i
pub column-struct_rows : (t : Term) (i n : ℕ) (columns : List (List Row)) (c : List Row)
    → AreLong n columns → slice_get columns i ≡ Some c → column t i (struct_rows n columns) ≡ c
column-struct_rows t i n columns c a e =
    listed t i (inside_structs n columns) ∙ inside-at t i n columns c a e

-- and the default of its type where the struct became null
pub column-masked : (t : Term) (i : ℕ) (valid : List Bool) (rs : List Row)
    → column t i (masked (Some valid) rs)
    ≡ zip_map (λ b r. if b then r else default_row t) valid (column t i rs)
column-masked t i [] rs = refl
column-masked t i (b ∷ valid) [] = refl
column-masked t i (true ∷ valid) (r ∷ rs) =
    ap (λ qs. field_row t i r ∷ qs) (column-masked t i valid rs)
column-masked t i (false ∷ valid) (r ∷ rs) =
    ap (λ qs. default_row t ∷ qs) (column-masked t i valid rs)

-- ---- lists

-- the elements of lists are those of their pieces
pub elements-list_rows : (offsets : List ℕ) (elements : List Row)
    → flat_map inner_rows (list_rows offsets elements)
    ≡ flat_map (λ rs. rs) (pieces offsets elements)
elements-list_rows offsets elements = by (pieces offsets elements)
  where
    by : (ps : List (List Row))
        → flat_map inner_rows (map (λ rs. list_row (rows_from rs)) ps) ≡ flat_map (λ rs. rs) ps
    by [] = refl
    by (p ∷ ps) = λ i. row_list-from p i ++ by ps i

-- and a list that became null has none
pub elements-masked : (valid : List Bool) (rs : List Row)
    → flat_map inner_rows (masked (Some valid) rs)
    ≡ flat_map (λ p. p) (zip_map (λ b r. if b then inner_rows r else []) valid rs)
elements-masked [] rs = refl
elements-masked (b ∷ valid) [] = refl
elements-masked (true ∷ valid) (r ∷ rs) = ap (λ qs. inner_rows r ++ qs) (elements-masked valid rs)
elements-masked (false ∷ valid) (r ∷ rs) = elements-masked valid rs

last-above : (a : ℕ) (offsets : List ℕ) → Rises a offsets → a ≤ last_from a offsets
last-above a [] h = omega arith
last-above a (b ∷ offsets) h = let rest = last-above b offsets h.1 in omega (arith, h.0)

ranges : {A : Type 0} (a b c : ℕ) (xs : List A) → a ≤ b → b ≤ c
    → slice_range xs a b ++ slice_range xs b c ≡ slice_range xs a c
ranges a b c xs h k =
    let p : b ≡ a + (b - a) = omega arith in
    let q : c - a ≡ (b - a) + (c - b) = omega arith in
    ap (λ ys. take (b - a) (drop a xs) ++ take (c - b) ys)
    (ap (λ n. drop n xs) p ∙ sym (drop-drop (b - a) a xs))
    ∙ sym (ap (λ n. take n (drop a xs)) q ∙ take-add (b - a) (c - b) (drop a xs))

-- pieces between offsets that never fall leave no gap: joined, they are what lies between the first
-- and the last
pub pieces-joined : {A : Type 0} (a : ℕ) (offsets : List ℕ) (xs : List A) → Rises a offsets
    → flat_map (λ p. p) (pieces (a ∷ offsets) xs) ≡ slice_range xs a (last_from a offsets)
pieces-joined a [] xs h = let none : a - a
    ≡ 0 = omega arith in sym (ap (λ n. take n (drop a xs)) none ∙ take-none (drop a xs))
  where
    take-none : {A : Type 0} (ys : List A) → take 0 ys ≡ []
    take-none [] = refl
    take-none (y ∷ ys) = refl
pieces-joined a (b ∷ offsets) xs h =
    ap (λ ys. slice_range xs a b ++ ys) (pieces-joined b offsets xs h.1)
    ∙ ranges a b (last_from b offsets) xs h.0 (last-above b offsets h.1)
