-- The rows of 8 bytes that are kept, and what they are worth.
use Rattle.std.proofs.Common.{◌≡◌, ℕ, zero, suc, ◌+◌, ◌*◌, ◌/◌, ◌<◌, ◌≤◌, Bool, true, false, cond, List, [], ◌∷◌, ◌++◌, length, get_or, set, take, drop, map, filter, refl, sym, ap, ◌∙◌, append_assoc, length-append, length-take, length-drop, arith}
use Rattle.std.proofs.lemmas.List.{take_more_set, take-set, append-nil, take_at, drop_at, length-map}
use Rattle.std.proofs.lemmas.List.Elements.{filter_more}
use Rattle.std.specs.Int.{from_bool}
use Rattle.std.specs.List.{flat_map}
use Rattle.std.specs.Simd.{first_chunks}
use Rattle.std.specs.Ordering.{int_cmp}
use Rattle.vortex_select.specs.Column.{i64_value, i64_values}
use Rattle.vortex_value.specs.Operator.{bears}
use Rattle.vortex_select.specs.Layout.{array_header, array_message, body_end}
use Rattle.vortex_select.specs.inner.KeptRows.{keeps, kept_region}
use Rattle.vortex_select.specs.declared.words.Query.{Query}

-- one more row: it is put at the end of the block, which then ends behind it where it is kept
pub keep_more : (p : List ℕ → Bool) (xs block : List (List ℕ)) (i n k : ℕ) (b : Bool) → k ≡ from_bool b → p (get_or xs i []) ≡ b → i < length xs → n < length block
    → take n block ≡ filter p (take i xs) → take (n + k) (set block n (get_or xs i [])) ≡ filter p (take (i + 1) xs)
keep_more p xs block i n k true one kept lt room front =
    let x = get_or xs i [] in
    let next : filter p (take (i + 1) xs) ≡ filter p (take i xs) ++ x ∷ [] = filter_more p xs i [] lt ∙ ap (λ t. filter p (take i xs) ++ cond t (x ∷ []) []) kept in
    ap (λ j. take (n + j) (set block n x)) one ∙ take_more_set block n x room ∙ ap (λ (l : List (List ℕ)). l ++ x ∷ []) front ∙ sym next
keep_more p xs block i n k false none dropped lt room front =
    let x = get_or xs i [] in
    let next : filter p (take (i + 1) xs) ≡ filter p (take i xs) ++ [] = filter_more p xs i [] lt ∙ ap (λ t. filter p (take i xs) ++ cond t (x ∷ []) []) dropped in
    let here : n + k ≡ n = omega arith in
    ap (λ j. take j (set block n x)) here ∙ take-set block n x ∙ front ∙ sym (next ∙ append-nil (filter p (take i xs)))

pub at_most_one : (b : Bool) (k : ℕ) → k ≡ from_bool b → k ≤ 1
at_most_one true k e = omega arith
at_most_one false k e = omega arith

-- ---- the region

-- the rows joined
abbrev pub joined : List (List ℕ) → List ℕ
joined rows = flat_map (λ row. row) rows

kept_first : (b : Bool) (row : List ℕ) (rows : List (List ℕ)) (n : ℕ) → length row ≤ 8 → length (joined rows) ≤ 8 * n → length (joined (cond b (row ∷ rows) rows)) ≤ 8 * suc n
kept_first true row rows n short h = omega (arith, length-append row (joined rows))
kept_first false row rows n short h = omega arith

-- no more than n rows of 8 bytes are kept of n
kept_of : (p : List ℕ → Bool) (n : ℕ) (xs : List ℕ) → length (joined (filter p (first_chunks 8 n xs))) ≤ 8 * n
kept_of p zero xs = omega arith
kept_of p (suc n) xs = kept_first (p (take 8 xs)) (take 8 xs) (filter p (first_chunks 8 n (drop 8 xs))) n (omega (arith, length-take 8 xs)) (kept_of p n (drop 8 xs))

pub kept_short : (query : Query) (rows : List ℕ) → length (kept_region query rows) ≤ length rows
kept_short query rows = omega (arith, kept_of (keeps query) (length rows / 8) rows)

-- a header that is filled in over the bytes that were kept for it
pub filled : (old empty region header tail : List ℕ) → length empty ≡ length header
    → (take (length old) ((old ++ empty) ++ region) ++ (header ++ drop (length old + length header) ((old ++ empty) ++ region))) ++ tail ≡ old ++ (header ++ (region ++ tail))
filled old empty region header tail same =
    let front : take (length old) ((old ++ empty) ++ region) ≡ old = ap (take (length old)) (append_assoc old empty region) ∙ take_at old (empty ++ region) (length old) refl in
    let back : drop (length old + length header) ((old ++ empty) ++ region) ≡ region = drop_at (old ++ empty) region (length old + length header) (omega (arith, length-append old empty)) in
    rw (front, back) (simp append_assoc)

-- the message, once a frame is put around its region
pub message_of : (old room region o1 o2 : List ℕ) (start len : ℕ) → length room ≡ 108 → start ≡ length old → len ≡ length region → o1 ≡ (old ++ room) ++ region
    → o2 ≡ (take start o1 ++ (array_header (len / 8) (len + 116) ++ drop (start + 108) o1)) ++ body_end len → o2 ≡ old ++ array_message region
message_of old room region o1 o2 start len e-room e-start e-len e1 e2 =
    let header = array_header (len / 8) (len + 116) in
    let at : o2 ≡ (take (length old) ((old ++ room) ++ region) ++ (header ++ drop (length old + length header) ((old ++ room) ++ region))) ++ body_end len = e2 ∙ ap (λ (l : List ℕ). (take start l ++ (header ++ drop (start + 108) l)) ++ body_end len) e1 ∙ ap (λ j. (take j ((old ++ room) ++ region) ++ (header ++ drop (j + 108) ((old ++ room) ++ region))) ++ body_end len) e-start in
    at ∙ filled old room region header (body_end len) e-room ∙ ap (λ j. old ++ (array_header (j / 8) (j + 116) ++ (region ++ body_end j))) e-len

-- ---- values

-- each row has 8 bytes
abbrev pub Eights : List (List ℕ) → Type 0
Eights [] = Unit {0}
Eights (row ∷ rows) = (length row ≡ 8) × Eights rows

eights_chunks : (n : ℕ) (xs : List ℕ) → 8 * n ≤ length xs → Eights (first_chunks 8 n xs)
eights_chunks zero xs le = tt
eights_chunks (suc n) xs le = (omega (arith, length-take 8 xs), eights_chunks n (drop 8 xs) (omega (arith, length-drop 8 xs)))

eights_if : (b : Bool) (row : List ℕ) (rows : List (List ℕ)) → length row ≡ 8 → Eights rows → Eights (cond b (row ∷ rows) rows)
eights_if true row rows e h = (e, h)
eights_if false row rows e h = h

eights_filter : (p : List ℕ → Bool) (rows : List (List ℕ)) → Eights rows → Eights (filter p rows)
eights_filter p [] h = tt
eights_filter p (row ∷ rows) h = eights_if (p row) row (filter p rows) h.0 (eights_filter p rows h.1)

length-joined : (rows : List (List ℕ)) → Eights rows → length (joined rows) ≡ 8 * length rows
length-joined [] h = refl
length-joined (row ∷ rows) h = omega (arith, length-append row (joined rows), h.0, length-joined rows h.1)

-- rows of 8 bytes that are joined are cut again
chunks-joined : (rows : List (List ℕ)) → Eights rows → first_chunks 8 (length rows) (joined rows) ≡ rows
chunks-joined [] h = refl
chunks-joined (row ∷ rows) h =
    let first : take 8 (row ++ joined rows) ≡ row = take_at row (joined rows) 8 h.0 in
    let others : drop 8 (row ++ joined rows) ≡ joined rows = drop_at row (joined rows) 8 h.0 in
    rw (first, others, chunks-joined rows h.1) refl

filter_if : {A B : Type 0} (b : Bool) (f : A → B) (x : A) (xs : List A) → cond b (f x ∷ map f xs) (map f xs) ≡ map f (cond b (x ∷ xs) xs)
filter_if true f x xs = refl
filter_if false f x xs = refl

filter-map : {A B : Type 0} (p : B → Bool) (f : A → B) (xs : List A) → filter p (map f xs) ≡ map f (filter (λ x. p (f x)) xs)
filter-map p f [] = refl
filter-map p f (x ∷ xs) = ap (λ l. cond (p (f x)) (f x ∷ l) l) (filter-map p f xs) ∙ filter_if (p (f x)) f x (filter (λ x. p (f x)) xs)

-- the rows that are kept of a region
pub record KeptRegion (query : Query) (buffer : List ℕ) (count : ℕ) : Type 0 where
  pub kept : ℕ
  pub len : length (kept_region query buffer) ≡ 8 * kept
  pub values : i64_values kept (kept_region query buffer) ≡ filter (λ row. bears query.operator (int_cmp row query.constant)) (i64_values count buffer)
  pub few : kept ≤ count

length-filter_le : {A : Type 0} (p : A → Bool) (xs : List A) → length (filter p xs) ≤ length xs
length-filter_le p [] = omega arith
length-filter_le p (x ∷ xs) = shorter (p x) x (filter p xs) (length xs) (length-filter_le p xs) where
  shorter : {A : Type 0} (b : Bool) (x : A) (ys : List A) (n : ℕ) → length ys ≤ n → length (cond b (x ∷ ys) ys) ≤ suc n
  shorter true x ys n h = omega arith
  shorter false x ys n h = omega arith

length-chunks : (n : ℕ) (xs : List ℕ) → length (first_chunks 8 n xs) ≡ n
length-chunks zero xs = refl
length-chunks (suc n) xs = ap suc (length-chunks n (drop 8 xs))

pub kept_values : (query : Query) (buffer : List ℕ) (count : ℕ) → length buffer ≡ 8 * count → KeptRegion query buffer count
kept_values query buffer count len =
    let n : length buffer / 8 ≡ count = omega arith in
    let rows = filter (keeps query) (first_chunks 8 count buffer) in
    let region : kept_region query buffer ≡ joined rows = ap (λ k. joined (filter (keeps query) (first_chunks 8 k buffer))) n in
    let eights : Eights rows = eights_filter (keeps query) (first_chunks 8 count buffer) (eights_chunks count buffer (omega arith)) in
    record {
      kept = length rows;
      len = ap length region ∙ length-joined rows eights;
      values = ap (λ (l : List ℕ). i64_values (length rows) l) region ∙ ap (map i64_value) (chunks-joined rows eights) ∙ sym (filter-map (λ row. bears query.operator (int_cmp row query.constant)) i64_value (first_chunks 8 count buffer));
      few = omega (arith, length-filter_le (keeps query) (first_chunks 8 count buffer), length-chunks count buffer);
    }

pub length-values : (n : ℕ) (xs : List ℕ) → length (i64_values n xs) ≡ n
length-values n xs = length-map (first_chunks 8 n xs) i64_value ∙ length-chunks n xs
