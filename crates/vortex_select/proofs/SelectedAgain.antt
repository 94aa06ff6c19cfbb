-- A selection of its own output keeps every row.
use Rattle.std.proofs.Common.{◌≡◌, ℕ, zero, suc, ◌+◌, ◌*◌, ◌/◌, ◌^◌, ◌<◌, Bool, true, false, cond, List, [], ◌∷◌, ◌++◌, length, get_or, take, drop, filter, All, ℤ, refl, sym, ap, subst, ◌∙◌, length-take, length-drop, take-append-drop, arith}
use Rattle.std.specs.Int.{w64, cast_unsigned, from_le_bytes, to_le_bytes}
use Rattle.std.specs.List.{AllByRecursion}
use Rattle.std.specs.Ordering.{int_cmp}
use Rattle.std.proofs.lemmas.Int.{of_z-to_z}
use Rattle.std.proofs.lemmas.Nat.{le_bytes_8}
use Rattle.std.proofs.lemmas.List.{nil_from_length, length-map}
use Rattle.std.proofs.lemmas.List.Elements.{recursion_from_All}
use Rattle.vortex_select.specs.Column.{i64_value, i64_values}
use Rattle.vortex_select.specs.Layout.{type_message, array_header, body_end, array_message, AreLaidOut, IsLaidOut}
use Rattle.vortex_value.specs.Operator.{bears}
use Rattle.vortex_select.specs.Selection.{selected, counts_of}
use Rattle.vortex_select.specs.Theorem.{Selects}
use Rattle.vortex_select.specs.declared.report.RowCounts.{RowCounts}
use Rattle.vortex_select.specs.declared.words.Query.{Query}
use Rattle.vortex_select.proofs.Complete.{one_meaning}

-- ---- one spelling

abbrev AreBytes : List ℕ → Type 0
AreBytes = AllByRecursion (λ n. n < 256)

split_bytes : (xs ys : List ℕ) → AreBytes (xs ++ ys) → AreBytes xs × AreBytes ys
split_bytes [] ys h = (tt, h)
split_bytes (x ∷ xs) ys h = let s = split_bytes xs ys h.1 in ((h.0, s.0), s.1)

each_small : (xs : List ℕ) → AreBytes xs → (i : ℕ) → get_or xs i 0 < 256
each_small [] h i = omega arith
each_small (x ∷ xs) h zero = h.0
each_small (x ∷ xs) h (suc i) = each_small xs h.1 i

number_small : (row : List ℕ) → ((i : ℕ) → get_or row i 0 < 256) → from_le_bytes w64 row < 2 ^ 64
number_small row small = omega (arith, small 0, small 1, small 2, small 3, small 4, small 5, small 6, small 7)

same_row : (a b : List ℕ) → length a ≡ 8 → length b ≡ 8 → AreBytes a → AreBytes b → i64_value a ≡ i64_value b → a ≡ b
same_row a b la lb ba bb e =
    let small_a = each_small a ba in
    let small_b = each_small b bb in
    let n : from_le_bytes w64 a ≡ from_le_bytes w64 b = sym (of_z-to_z w64 (from_le_bytes w64 a) (number_small a small_a)) ∙ ap (cast_unsigned w64) e ∙ of_z-to_z w64 (from_le_bytes w64 b) (number_small b small_b) in
    sym (le_bytes_8 a (from_le_bytes w64 a) la small_a refl) ∙ ap (to_le_bytes w64) n ∙ le_bytes_8 b (from_le_bytes w64 b) lb small_b refl

head_same : (x y : ℤ) (xs ys : List ℤ) → x ∷ xs ≡ y ∷ ys → (x ≡ y) × (xs ≡ ys)
head_same x y xs ys e = (cc, cc)

same_region : (n : ℕ) (a b : List ℕ) → length a ≡ 8 * n → length b ≡ 8 * n → AreBytes a → AreBytes b → i64_values n a ≡ i64_values n b → a ≡ b
same_region zero a b la lb ba bb e = nil_from_length a (omega arith) ∙ sym (nil_from_length b (omega arith))
same_region (suc n) a b la lb ba bb e =
    let both = head_same (i64_value (take 8 a)) (i64_value (take 8 b)) (i64_values n (drop 8 a)) (i64_values n (drop 8 b)) e in
    let part_a = split_bytes (take 8 a) (drop 8 a) (subst AreBytes (sym (take-append-drop 8 a)) ba) in
    let part_b = split_bytes (take 8 b) (drop 8 b) (subst AreBytes (sym (take-append-drop 8 b)) bb) in
    let front : take 8 a ≡ take 8 b = same_row (take 8 a) (take 8 b) (omega (arith, length-take 8 a)) (omega (arith, length-take 8 b)) part_a.0 part_b.0 both.0 in
    let back : drop 8 a ≡ drop 8 b = same_region n (drop 8 a) (drop 8 b) (omega (arith, length-drop 8 a)) (omega (arith, length-drop 8 b)) part_a.1 part_b.1 both.1 in
    sym (take-append-drop 8 a) ∙ ap (λ (l : List ℕ). l ++ drop 8 a) front ∙ ap (λ (l : List ℕ). take 8 b ++ l) back ∙ take-append-drop 8 b

-- the bytes of the region and of what follows the message
parts_bytes : (bytes region rest : List ℕ) → bytes ≡ array_message region ++ rest → AreBytes bytes → AreBytes region × AreBytes rest
parts_bytes bytes region rest e h =
    let whole = split_bytes (array_message region) rest (subst AreBytes e h) in
    let message = split_bytes (array_header (length region / 8) (length region + 116)) (region ++ body_end (length region)) whole.0 in
    let body = split_bytes region (body_end (length region)) message.1 in
    (body.0, whole.1)

same_arrays : (a b : List ℕ) (arrays : List (List ℤ)) → AreBytes a → AreBytes b → AreLaidOut a arrays → AreLaidOut b arrays → a ≡ b
same_arrays a b [] ba bb h k = h ∙ sym k
same_arrays a b (rows ∷ arrays) ba bb h k =
    let part_a = parts_bytes a h.0 h.1 h.2 ba in
    let part_b = parts_bytes b k.0 k.1 k.2 bb in
    let region : h.0 ≡ k.0 = same_region (length rows) h.0 k.0 h.3 k.3 part_a.0 part_b.0 (h.4 ∙ sym k.4) in
    let rest : h.1 ≡ k.1 = same_arrays h.1 k.1 arrays part_a.1 part_b.1 h.5 k.5 in
    h.2 ∙ ap (λ (l : List ℕ). array_message l ++ h.1) region ∙ ap (λ (l : List ℕ). array_message k.0 ++ l) rest ∙ sym k.2

same_output : (a b : List ℕ) (arrays : List (List ℤ)) → All (λ n. n < 256) a → All (λ n. n < 256) b → IsLaidOut a arrays → IsLaidOut b arrays → a ≡ b
same_output a b arrays ba bb h k =
    let part_a = split_bytes type_message h.0 (subst AreBytes h.1 (recursion_from_All (λ n. n < 256) a ba)) in
    let part_b = split_bytes type_message k.0 (subst AreBytes k.1 (recursion_from_All (λ n. n < 256) b bb)) in
    h.1 ∙ ap (λ (l : List ℕ). type_message ++ l) (same_arrays h.0 k.0 arrays part_a.1 part_b.1 h.2 k.2) ∙ sym k.1

-- ---- rows that were kept are kept

kept_again : (p : ℤ → Bool) (x : ℤ) (xs : List ℤ) (b : Bool) → p x ≡ b → filter p xs ≡ xs → filter p (cond b (x ∷ xs) xs) ≡ cond b (x ∷ xs) xs
kept_again p x xs true e h = ap (λ t. cond t (x ∷ filter p xs) (filter p xs)) e ∙ ap (λ (l : List ℤ). x ∷ l) h
kept_again p x xs false e h = h

filter_twice : (p : ℤ → Bool) (xs : List ℤ) → filter p (filter p xs) ≡ filter p xs
filter_twice p [] = refl
filter_twice p (x ∷ xs) = kept_again p x (filter p xs) (p x) refl (filter_twice p xs)

selected_twice : (query : Query) (arrays : List (List ℤ)) → selected query (selected query arrays) ≡ selected query arrays
selected_twice query [] = refl
selected_twice query (rows ∷ arrays) =
    let p = λ (row : ℤ). bears query.operator (int_cmp row query.constant) in
    ap (λ (l : List ℤ). l ∷ selected query (selected query arrays)) (filter_twice p rows) ∙ ap (λ (l : List (List ℤ)). filter p rows ∷ l) (selected_twice query arrays)

-- the same selection again
pub again : (query : Query) (input output more : List ℕ) (first second : RowCounts) → Selects query input output first → Selects query output more second
    → All (λ n. n < 256) output → All (λ n. n < 256) more → (more ≡ output) × (second.arrays ≡ first.arrays) × (second.read ≡ first.kept) × (second.kept ≡ first.kept)
again query input output more first second h k ba bb =
    let kept = selected query h.arrays in
    let arrays : k.arrays ≡ kept = (one_meaning output k.column h.column k.arrays kept k.read h.written).1 in
    let twice : selected query k.arrays ≡ kept = ap (selected query) arrays ∙ selected_twice query h.arrays in
    let counts : second ≡ counts_of kept kept = k.counts_are ∙ ap (λ a. counts_of a (selected query k.arrays)) arrays ∙ ap (counts_of kept) twice in
    let laid_out : IsLaidOut more kept = subst (IsLaidOut more) twice k.laid_out in
    let as_many : length kept ≡ length h.arrays = length-map h.arrays (filter (λ row. bears query.operator (int_cmp row query.constant))) in (
      same_output more output kept bb ba laid_out h.laid_out,
      ap (λ (c : RowCounts). c.arrays) counts ∙ as_many ∙ sym (ap (λ (c : RowCounts). c.arrays) h.counts_are),
      ap (λ (c : RowCounts). c.read) counts ∙ sym (ap (λ (c : RowCounts). c.kept) h.counts_are),
      ap (λ (c : RowCounts). c.kept) counts ∙ sym (ap (λ (c : RowCounts). c.kept) h.counts_are),
    )
