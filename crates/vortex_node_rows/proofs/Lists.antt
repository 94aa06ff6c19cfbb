-- Lists of elements: as many as asked for, and they fit where the elements do.
use Rattle.std.proofs.Common.{◌≡◌, ◌≤◌, ℕ, zero, suc, ◌+◌, ◌-◌, ◌*◌, List, [], ◌∷◌, Bool, Option, Some, None, map, length, take, drop, refl, sym, ap, ◌∙◌, subst, arith, length-drop}
use Rattle.std.specs.Prelude.{option_and_then}
use Rattle.std.specs.List.{AllByRecursion}
use Rattle.std.proofs.lemmas.List.{length-map, length-take-le}
use Rattle.std.proofs.lemmas.List.Elements.{All-take, All-drop, All-from_recursion, recursion_from_All}
use Rattle.vortex_terms.specs.Term.{Term, list, fixed_size_list}
use Rattle.vortex_terms.specs.Row.{Row, list_row, rows_from}
use Rattle.vortex_terms.specs.RowLaws.{AllRows-from}
use Rattle.vortex_terms.specs.RowListLaws.{row_count-from}
use Rattle.vortex_terms.specs.Fits.{Fits}
use Rattle.vortex_terms.specs.FromColumns.{pieces, list_rows, masked}
use Rattle.vortex_node_rows.specs.Pieces.{chunks}
use Rattle.vortex_node_rows.specs.Buffers.{one_buffer, offsets_in}
use Rattle.vortex_node_rows.specs.RowsOf.{Parts, offset_lists, fixed_lists}
use Rattle.vortex_node_rows.proofs.Options.{some_same, none_some, bind_some}
use Rattle.vortex_node_rows.proofs.Masks.{IsMask, length-masked, masked_fit}
use Rattle.vortex_node_rows.proofs.Texts.{length-pieces, pieces_all, offsets_count}

take_all : (P : Row → Type 0) (n : ℕ) (rs : List Row) → AllByRecursion P rs → AllByRecursion P (take n rs)
take_all P n rs h = recursion_from_All P (take n rs) (All-take P n rs (All-from_recursion P rs h))

drop_all : (P : Row → Type 0) (n : ℕ) (rs : List Row) → AllByRecursion P rs → AllByRecursion P (drop n rs)
drop_all P n rs h = recursion_from_All P (drop n rs) (All-drop P n rs (All-from_recursion P rs h))

-- ---- between offsets

-- the lists that are found
lists_found : (n count : ℕ) (bs : List (List ℕ)) (found : Option Parts) (rs : List Row)
    → offset_lists n count bs found ≡ Some rs
    → (os : List ℕ) × (length os ≡ suc n) × (parts : Parts) × (found ≡ Some parts)
    × (masked parts.1 (list_rows os parts.0) ≡ rs)
unfolding offset_lists
lists_found n count bs found rs e =
    let b = bind_some (one_buffer bs)
    (λ b. option_and_then
    (λ os. option_and_then (λ (parts : Parts). Some (masked parts.1 (list_rows os parts.0))) found)
    (offsets_in n count b)) rs e in
    let os = bind_some (offsets_in n count b.0)
    (λ os. option_and_then (λ (parts : Parts). Some (masked parts.1 (list_rows os parts.0))) found) rs b.2 in
    let parts = bind_some found (λ (parts : Parts). Some (masked parts.1 (list_rows os.0 parts.0))) rs os.2 in (
      os.0,
      offsets_count n count b.0 os.0 os.1,
      parts.0,
      parts.1,
      some_same (masked parts.0.1 (list_rows os.0 parts.0.0)) rs parts.2,
    )

pub lists_count : (n count : ℕ) (nl : Bool) (bs : List (List ℕ)) (found : Option Parts) (rs : List Row)
    → ((p : Parts) → found ≡ Some p → IsMask n nl p.1) → offset_lists n count bs found ≡ Some rs → length rs ≡ n
lists_count n count nl bs found rs k e =
    let f = lists_found n count bs found rs e in
    ap length (sym f.4)
    ∙ length-masked n nl f.2.1 (list_rows f.0 f.2.0) (k f.2 f.3)
    (length-map (pieces f.0 f.2.0) _ ∙ length-pieces n f.0 f.2.0 f.1)

listed_fit : (t : Term) (nl : Bool) (pss : List (List Row)) → AllByRecursion (AllByRecursion (Fits t)) pss
    → AllByRecursion (Fits (list t nl)) (map (λ rs. list_row (rows_from rs)) pss)
listed_fit t nl [] h = tt
listed_fit t nl (ps ∷ pss) h = (AllRows-from (Fits t) ps h.0, listed_fit t nl pss h.1)

pub lists_fit : (t : Term) (n count : ℕ) (nl : Bool) (bs : List (List ℕ)) (found : Option Parts) (rs : List Row)
    → ((p : Parts) → found ≡ Some p → IsMask n nl p.1)
    → ((p : Parts) → found ≡ Some p → AllByRecursion (Fits t) p.0)
    → offset_lists n count bs found ≡ Some rs → AllByRecursion (Fits (list t nl)) rs
lists_fit t n count nl bs found rs k h e =
    let f = lists_found n count bs found rs e in
    let each = pieces_all (AllByRecursion (Fits t)) f.0 f.2.0 (λ a b. take_all (Fits t) (b - a) (drop a f.2.0)
    (drop_all (Fits t) a f.2.0 (h f.2 f.3))) in
    subst (AllByRecursion (Fits (list t nl))) f.4
    (masked_fit (Fits (list t nl)) n nl f.2.1 _ (λ z. z) (k f.2 f.3) (listed_fit t nl (pieces f.0 f.2.0) each))

-- ---- of one size

pub length-chunks : {A : Type 0} (k n : ℕ) (xs : List A) → length (chunks k n xs) ≡ n
length-chunks k zero xs = refl
length-chunks k (suc n) xs = ap suc (length-chunks k n (drop k xs))

fixed_found : (k n : ℕ) (bs : List (List ℕ)) (found : Option Parts) (rs : List Row)
    → fixed_lists k n bs found ≡ Some rs
    → (parts : Parts) × (found ≡ Some parts)
    × (masked parts.1 (map (λ rs. list_row (rows_from rs)) (chunks k n parts.0)) ≡ rs)
unfolding fixed_lists
fixed_found k n [] (Some parts) rs e = (parts, refl, some_same _ rs e)
fixed_found k n [] None rs e = absurd (none_some rs e)
fixed_found k n (b ∷ bs) found rs e = absurd (none_some rs e)

pub fixed_count : (k n : ℕ) (nl : Bool) (bs : List (List ℕ)) (found : Option Parts) (rs : List Row)
    → ((p : Parts) → found ≡ Some p → IsMask n nl p.1) → fixed_lists k n bs found ≡ Some rs → length rs ≡ n
fixed_count k n nl bs found rs m e =
    let f = fixed_found k n bs found rs e in
    ap length (sym f.2)
    ∙ length-masked n nl f.0.1 _ (m f.0 f.1) (length-map (chunks k n f.0.0) _ ∙ length-chunks k n f.0.0)

-- elements for n and one lists are those of the first and those of n
one_more : (k n : ℕ) → suc n * k ≡ k + n * k
one_more k n = omega arith

chunks_fit : (t : Term) (k n : ℕ) (nl : Bool) (rs : List Row) → length rs ≡ n * k → AllByRecursion (Fits t) rs
    → AllByRecursion (Fits (fixed_size_list t k nl)) (map (λ rs. list_row (rows_from rs)) (chunks k n rs))
chunks_fit t k zero nl rs l h = tt
chunks_fit t k (suc n) nl rs l h =
    let whole : length rs ≡ k + n * k = l ∙ one_more k n in
    let enough : k ≤ length rs = omega (arith, whole) in
    let rest : length (drop k rs) ≡ n * k = omega (arith, whole, length-drop k rs) in (
      (
        row_count-from (take k rs) ∙ length-take-le k rs enough,
        AllRows-from (Fits t) (take k rs) (take_all (Fits t) k rs h),
      ),
      chunks_fit t k n nl (drop k rs) rest (drop_all (Fits t) k rs h),
    )

pub fixed_fit : (t : Term) (k n : ℕ) (nl : Bool) (bs : List (List ℕ)) (found : Option Parts) (rs : List Row)
    → ((p : Parts) → found ≡ Some p → (length p.0 ≡ n * k) × IsMask n nl p.1)
    → ((p : Parts) → found ≡ Some p → AllByRecursion (Fits t) p.0)
    → fixed_lists k n bs found ≡ Some rs → AllByRecursion (Fits (fixed_size_list t k nl)) rs
fixed_fit t k n nl bs found rs m h e =
    let f = fixed_found k n bs found rs e in
    let known = m f.0 f.1 in
    subst (AllByRecursion (Fits (fixed_size_list t k nl))) f.2
    (masked_fit (Fits (fixed_size_list t k nl)) n nl f.0.1 _ (λ z. z) known.1
    (chunks_fit t k n nl f.0.0 known.0 (h f.0 f.1)))
