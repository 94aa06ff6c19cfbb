-- What is picked of rows, by which rows are picked.
use Rattle.std.proofs.Common.{◌≡◌, ◌≤◌, ◌<◌, ◌+◌, ◌-◌, ◌*◌, ◌^◌, inl, inr, ℕ, zero, suc, List, [], ◌∷◌, ◌++◌, Bool, true, false, Some, take, map, length, get_or, refl, sym, ap, subst, ◌∙◌, arith, length-append, Bor, Vec, Global}
use Rattle.std.specs.Prelude.{slice_get, slice_range, nat_lt, Result, Ok, Err, IsErrAnd, MatchResult}
use Rattle.std.specs.List.{All, flat_map, sum}
use Rattle.std.proofs.lemmas.Bool.{ltb-true}
use Rattle.std.proofs.lemmas.List.Elements.{All-from_get_or}
use Rattle.std.proofs.lemmas.List.Sums.{sum_by-cons}
use Rattle.vortex_terms.specs.Row.{null_row, bytes_row}
use Rattle.vortex_terms.specs.Parts.{inner_rows}
use Rattle.vortex_terms.specs.FromColumns.{list_rows, masked}
use Rattle.vortex_node_rows.specs.RowsOf.{most_rows, Validity}
use Rattle.vortex_mask.specs.Truths.{kept, places_from, places_of}
use Rattle.vortex_leaves.specs.Numbers.{NumberBytes, number_rows}
use Rattle.vortex_leaves.specs.Selected.{AreNumbersOf, taken_rows}
use Rattle.vortex_array_data.specs.declared.error.ArrayError.{ArrayError}
use Rattle.vortex_array_data.specs.declared.pick_rows.Picks.{Picks}
use Rattle.vortex_array_data.specs.declared.pick_rows.Picks.TheVariants.{Range, Mask, Places}
use Rattle.vortex_array_data.specs.declared.pick_parts.Parts.{Parts}
use Rattle.vortex_array_data.specs.declared.pick_parts.Parts.TheVariants.{Even}
use Rattle.vortex_array_data.specs.Column.{Column, Holds}
use Rattle.vortex_terms.specs.Term.{Term}
use Rattle.vortex_array_data.specs.Content.{is_maskable, IsMask, IsShaped}
use Rattle.vortex_array_data.specs.declared.held.Content.{Content}
use Rattle.vortex_array_data.specs.declared.held.Content.TheVariants.{Texts, Lists, FixedLists, Structs, Storage}
use Rattle.std.specs.declared.rc.Rc.{Rc}
use Rattle.vortex_array_data.specs.Taken.{HoldsMuch, MayPass}
use Rattle.vortex_array_data.specs.inner.Picked.{picked, from_on, shown_places, IsPickedColumn, IsPickedTexts}
use Rattle.vortex_array_data.specs.inner.PickedPlaces.{places_in, start_in, AnyMuch, ArePicks, ColumnMuch, ContentMuch, ListsMuch, PicksMuch, RefusesPick, TextsMuch}
use Rattle.vortex_array_data.specs.inner.Spans.{spans, AreStarts}
use Rattle.vortex_array_data.proofs.PickLaws.{Below, below_from_on, length-from_on, length-picked, picked_range}
use Rattle.vortex_array_data.proofs.PickPlaces.{below-spans, mask_below, picked-mask, picked-taken}
use Rattle.vortex_array_data.proofs.PickedContents.{numbers_long, texts_under}
use Rattle.vortex_array_data.proofs.PickedParts.{inner_spans, offset_starts, sizes_picked}
use Rattle.vortex_array_data.proofs.ShownRows.{below_shown, bytes_picked, joined_shown, repeats_shown, shown_passes, sizes_shown, taken_below}
use Rattle.vortex_array_data.proofs.Holding.{fixed_hold, lists_hold, many_hold, storage_hold, structs_hold, texts_hold}
use Rattle.vortex_array_data.proofs.Distinct.{much_repeats, spans_repeat}
use Rattle.std.proofs.lemmas.List.{length-map, take_more, append-nil, append_assoc}
use Rattle.std.proofs.lemmas.Grind.{flat_map-append}
use Rattle.std.proofs.lemmas.Option.{get_or_from_slice_get}
use Rattle.vortex_leaves.specs.Texts.{AreOffsets, AreTexts, TextBytes, text_pieces}
use Rattle.vortex_leaves.specs.Selected.{shown_size, size_at, taken_pieces}
use Rattle.vortex_leaves.proofs.Joined.{length-joined}

-- ---- places

pub picks_below : (n : ℕ) (picks : Picks) → ArePicks n picks → Below n (places_in picks)
picks_below n (Range from to) h = below_from_on (to - from) from n (omega (arith, h.0, h.1))
picks_below n (Mask m) h = mask_below m.now n h
picks_below n (Places ps) h = h

fewer_places : (m : List Bool) (i : ℕ) → length (places_from i m) ≤ length m
fewer_places [] i = omega arith
fewer_places (true ∷ m) i = omega (arith, fewer_places m (i + 1))
fewer_places (false ∷ m) i = omega (arith, fewer_places m (i + 1))

-- more than an array has rows are picked by places alone
pub many_much : (c : Column) (picks : Picks) → ArePicks (length c.rows) picks → length c.rows ≤ most_rows
    → most_rows < length (places_in picks) → PicksMuch picks (ColumnMuch c)
many_much c (Range from to) h few l = absurd (omega (arith, l, few, length-from_on (to - from) from, h.0, h.1))
many_much c (Mask m) h few l = absurd (omega (arith, l, few, fewer_places m.now 0, h))
many_much c (Places ps) h few l =
    (inl l, many_hold c.dtype (picked ps.now c.rows) (omega (arith, l, length-picked ps.now c.rows h)))

all_below : (n : ℕ) (ps : List ℕ) → Below n ps → All (λ p. p < n) ps
all_below n ps h = All-from_get_or (λ p. p < n) ps 0 (λ i l. at ps i h l)
  where
    at : (ps : List ℕ) (i : ℕ) → Below n ps → i < length ps → get_or ps i 0 < n
    at [] i h l = absurd (omega (arith, l))
    at (p ∷ ps) zero h l = h.0
    at (p ∷ ps) (suc i) h l = at ps i h.1 (omega (arith, l))

-- ---- by which rows are picked

pub range_within : (n from to : ℕ) (picks : Picks) → picks ≡ Range from to → ArePicks n picks → (from ≤ to) × (to ≤ n)
range_within n from to picks e h = subst (ArePicks n) e h

pub mask_long : (n : ℕ) (m : Bor (List Bool)) (picks : Picks) → picks ≡ Mask m → ArePicks n picks → length m.now ≡ n
mask_long n m picks e h = subst (ArePicks n) e h

pub places_within : (n : ℕ) (ps : Bor (List ℕ)) (picks : Picks) → picks ≡ Places ps → ArePicks n picks → All (λ p. p < n) ps.now
places_within n ps picks e h = all_below n ps.now (subst (ArePicks n) e h)

pub range_picked : {A : Type 0} (n from to : ℕ) (picks : Picks) (xs : List A) → picks ≡ Range from to → ArePicks n picks
    → length xs ≡ n → slice_range xs from to ≡ picked (places_in picks) xs
range_picked n from to picks xs e h l =
    let w = range_within n from to picks e h in
    sym (ap (λ (p : Picks). picked (places_in p) xs) e ∙ picked_range from to xs w.0 (omega (arith, w.1, l)))

pub mask_picks : {A : Type 0} (n : ℕ) (m : Bor (List Bool)) (picks : Picks) (xs : List A) → picks ≡ Mask m → ArePicks n picks
    → length xs ≡ n → kept m.now xs ≡ picked (places_in picks) xs
mask_picks n m picks xs e h l =
    sym (ap (λ (p : Picks). picked (places_in p) xs) e ∙ picked-mask m.now xs (mask_long n m picks e h ∙ sym l))

pub places_picked : {A : Type 0} (n : ℕ) (ps : Bor (List ℕ)) (picks : Picks) (xs : List A) (d : A) → picks ≡ Places ps
    → ArePicks n picks → length xs ≡ n → map (λ p. get_or xs p d) ps.now ≡ picked (places_in picks) xs
places_picked n ps picks xs d e h l =
    picked-taken ps.now xs d (subst (λ j. Below j ps.now) (sym l) (subst (ArePicks n) e h))
    ∙ sym (ap (λ (p : Picks). picked (places_in p) xs) e)

-- ---- numbers

pub range_numbers : (a b : NumberBytes) (from to : ℕ) (picks : Picks) → picks ≡ Range from to → ArePicks a.count picks
    → AreNumbersOf a.format (slice_range (number_rows a) from to) b → AreNumbersOf a.format (picked (places_in picks) (number_rows a)) b
range_numbers a b from to picks e h k =
    subst (λ rs. AreNumbersOf a.format rs b) (range_picked a.count from to picks (number_rows a) e h (numbers_long a)) k

pub mask_numbers : (a b : NumberBytes) (m : Bor (List Bool)) (picks : Picks) → picks ≡ Mask m → ArePicks a.count picks
    → AreNumbersOf a.format (kept m.now (number_rows a)) b → AreNumbersOf a.format (picked (places_in picks) (number_rows a)) b
mask_numbers a b m picks e h k =
    subst (λ rs. AreNumbersOf a.format rs b) (mask_picks a.count m picks (number_rows a) e h (numbers_long a)) k

pub places_numbers : (a b : NumberBytes) (ps : Bor (List ℕ)) (picks : Picks) → picks ≡ Places ps → ArePicks a.count picks
    → AreNumbersOf a.format (taken_rows ps.now (number_rows a)) b → AreNumbersOf a.format (picked (places_in picks) (number_rows a)) b
places_numbers a b ps picks e h k =
    subst (λ rs. AreNumbersOf a.format rs b) (places_picked a.count ps picks (number_rows a) null_row e h (numbers_long a)) k

-- ---- refusals

much_more : (n : ℕ) (picks : Picks) (P Q : List ℕ → Type 0) → ArePicks n picks → ((ps : List ℕ) → Below n ps → P ps → Q ps)
    → PicksMuch picks P → PicksMuch picks Q
much_more n (Range from to) P Q a k h = h
much_more n (Mask m) P Q a k h = h
much_more n (Places ps) P Q a k h = (h.0, k ps.now a h.1)

pub refused_more : (n : ℕ) (picks : Picks) (P Q : List ℕ → Type 0) (e : ArrayError) → ArePicks n picks
    → ((ps : List ℕ) → Below n ps → P ps → Q ps) → RefusesPick picks P e → RefusesPick picks Q e
refused_more n picks P Q e a k (inl h) = inl h
refused_more n picks P Q e a k (inr h) = inr (h.0, much_more n picks P Q a k h.1)

-- a range and a mask are refused for lack of memory alone
pub range_refused : (from to : ℕ) (picks : Picks) (P Q : List ℕ → Type 0) (e : ArrayError) → RefusesPick (Range from to) P e → RefusesPick picks Q e
range_refused from to picks P Q e (inl h) = inl h
range_refused from to picks P Q e (inr h) = absurd h.1

pub mask_refused : (m : Bor (List Bool)) (picks : Picks) (P Q : List ℕ → Type 0) (e : ArrayError) → RefusesPick (Mask m) P e → RefusesPick picks Q e
mask_refused m picks P Q e (inl h) = inl h
mask_refused m picks P Q e (inr h) = absurd h.1

moved : (p q : Picks) (P Q : List ℕ → Type 0) (e : ArrayError) → p ≡ q → RefusesPick p P e → (RefusesPick q P e → RefusesPick q Q e)
    → RefusesPick p Q e
moved p q P Q e is h k = subst (λ (p : Picks). RefusesPick p Q e) (sym is) (k (subst (λ (p : Picks). RefusesPick p P e) is h))

pub same_mask_refused : (m : Bor (List Bool)) (picks : Picks) (P Q : List ℕ → Type 0) (e : ArrayError) → picks ≡ Mask m → RefusesPick picks P e
    → RefusesPick picks Q e
same_mask_refused m picks P Q e is h = moved picks (Mask m) P Q e is h (mask_refused m (Mask m) P Q e)

-- ---- what is in rows

spans_much : (start : ℕ → ℕ) (n end : ℕ) (ps : List ℕ) → AreStarts start n end → Below n ps → end ≤ most_rows
    → MayPass (spans start ps) → MayPass ps
spans_much start n end ps h k few (inl l) = inr (much_repeats start n end ps h k (omega (arith, l, few)))
spans_much start n end ps h k few (inr r) = inr (spans_repeat start n end ps h k r)

pub places_refused : (start : ℕ → ℕ) (n : ℕ) (ps qs : Bor (List ℕ)) (picks : Picks) (c : Column) (e : ArrayError) → picks ≡ Places ps
    → ArePicks n picks → AreStarts start n (length c.rows) → length c.rows ≤ most_rows → qs.now ≡ spans start ps.now
    → RefusesPick (Places qs) (ColumnMuch c) e → RefusesPick picks (λ ps. ColumnMuch c (spans start ps)) e
places_refused start n ps qs picks c e is h s few same (inl m) = inl m
places_refused start n ps qs picks c e is h s few same (inr m) = inr (
  m.0,
  subst (λ (p : Picks). PicksMuch p (λ ps. ColumnMuch c (spans start ps))) (sym is) (
    spans_much start n (length c.rows) ps.now s (subst (ArePicks n) is h) few (subst MayPass same m.1.0),
    subst (ColumnMuch c) same m.1.1,
  ),
)

length-spans : (start : ℕ → ℕ) (ps : List ℕ) → length (spans start ps) ≡ sum (map (λ p. start (suc p) - start p) ps)
length-spans start [] = refl
length-spans start (p ∷ ps) =
    omega (arith, length-append (from_on (start (suc p) - start p) (start p)) (spans start ps), length-from_on (start (suc p) - start p) (start p), length-spans start ps, sum_by-cons (λ x. x) (start (suc p) - start p) (map (λ p. start (suc p) - start p) ps))

-- where what is in the rows that are shown is more than there is, a place stands twice
shown_much : (start : ℕ → ℕ) (n end : ℕ) (v : Validity) (ps : List ℕ) → AreStarts start n end → Below n ps
    → end < sum (map (λ p. start (suc p) - start p) (shown_places v ps)) → MayPass ps
shown_much start n end v ps s b l =
    inr (repeats_shown v ps (much_repeats start n end (shown_places v ps) s (below_shown n v ps b) (omega (arith, l, length-spans start (shown_places v ps)))))

-- lists at places that are too long together
pub lists_much : (n : ℕ) (v : Validity) (os : List ℕ) (es : Column) (ps : Bor (List ℕ)) (picks : Picks) → picks ≡ Places ps → ArePicks n picks
    → AreOffsets n (length es.rows) os → IsMask n true v → length es.rows ≤ most_rows → 2 ^ 32 ≤ sum (map (shown_size v os) ps.now)
    → PicksMuch picks (ListsMuch v os es)
lists_much n v os es ps picks is h o m few l =
    let b : Below n ps.now = subst (ArePicks n) is h in
    let start : ℕ → ℕ = λ i. get_or os i 0 in
    let s : AreStarts start n (length es.rows) = offset_starts n (length es.rows) os o in
    let sizes : sum (map (shown_size v os) ps.now) ≡ sum (map (size_at os) (shown_places v ps.now)) = sizes_shown v os ps.now in
    let inside = inner_spans n v os ps.now es.rows o b m in
    let long : length (picked (spans start (shown_places v ps.now)) es.rows) ≡ length (spans start (shown_places v ps.now)) =
    length-picked (spans start (shown_places v ps.now)) es.rows (below-spans start n (length es.rows) (shown_places v ps.now) s (below_shown n v ps.now b)) in
    subst (λ (p : Picks). PicksMuch p (ListsMuch v os es)) (sym is) (
      shown_much start n (length es.rows) v ps.now s b (omega (arith, l, few, sizes)),
      many_hold es.dtype (flat_map inner_rows (picked ps.now (masked v (list_rows os es.rows))))
          (omega (arith, l, sizes, length-spans start (shown_places v ps.now), long, ap length inside)),
    )

-- elements at the places that are shown are refused
pub elements_refused : (n : ℕ) (v : Validity) (os : List ℕ) (es : Column) (ps qs : Bor (List ℕ)) (picks : Picks) (e : ArrayError) → picks ≡ Places ps
    → ArePicks n picks → AreOffsets n (length es.rows) os → IsMask n true v → qs.now ≡ shown_places v ps.now
    → RefusesPick (Places qs) (λ ps. ColumnMuch es (spans (λ i. get_or os i 0) ps)) e → RefusesPick picks (ListsMuch v os es) e
elements_refused n v os es ps qs picks e is h o m same (inl k) = inl k
elements_refused n v os es ps qs picks e is h o m same (inr k) =
    let b : Below n ps.now = subst (ArePicks n) is h in
    inr (
      k.0,
      subst (λ (p : Picks). PicksMuch p (ListsMuch v os es)) (sym is) (
        shown_passes v ps.now (subst MayPass same k.1.0),
        subst (HoldsMuch es.dtype) (sym (inner_spans n v os ps.now es.rows o b m))
            (subst (λ (qs : List ℕ). ColumnMuch es (spans (λ i. get_or os i 0) qs)) same k.1.1),
      ),
    )

-- more elements than an array has are those of lists of which one is picked twice
pub elements_much : (start : ℕ → ℕ) (n : ℕ) (c : Column) (ps : Bor (List ℕ)) (picks : Picks) → picks ≡ Places ps → ArePicks n picks
    → AreStarts start n (length c.rows) → length c.rows ≤ most_rows → most_rows < length (spans start ps.now)
    → PicksMuch picks (λ ps. ColumnMuch c (spans start ps))
elements_much start n c ps picks is h s few l =
    let b : Below n ps.now = subst (ArePicks n) is h in
    let long : length (picked (spans start ps.now) c.rows) ≡ length (spans start ps.now) =
    length-picked (spans start ps.now) c.rows (below-spans start n (length c.rows) ps.now s b) in
    subst (λ (p : Picks). PicksMuch p (λ ps. ColumnMuch c (spans start ps))) (sym is) (
      inr (much_repeats start n (length c.rows) ps.now s b (omega (arith, l, few))),
      many_hold c.dtype (picked (spans start ps.now) c.rows) (omega (arith, l, long)),
    )

-- so many elements in each list
pub even_long : (k : ℕ) (ps : List ℕ) → length (spans (λ i. i * k) ps) ≡ length ps * k
even_long k [] = omega arith
even_long k (p ∷ ps) =
    let one : suc p * k - p * k ≡ k = omega arith in
    omega (arith, length-append (from_on (suc p * k - p * k) (p * k)) (spans (λ i. i * k) ps), length-from_on (suc p * k - p * k) (p * k), one, even_long k ps)

pub even_many : (parts : Parts) (k : ℕ) (ps : List ℕ) (r : ℕ) → parts ≡ Even k → r ≤ length ps * k → nat_lt 4294967295 r ≡ true
    → most_rows < length (spans (start_in parts) ps)
even_many parts k ps r e h l =
    subst (λ (p : Parts). most_rows < length (spans (start_in p) ps)) (sym e)
    (omega (arith, h, ltb-true 4294967295 r l, even_long k ps))

from_on-append : (j k a : ℕ) → from_on (j + k) a ≡ from_on j a ++ from_on k (a + j)
from_on-append zero k a =
    let none : 0 + k ≡ k = omega arith in
    let here : a ≡ a + 0 = omega arith in
    ap (λ i. from_on i a) none ∙ ap (from_on k) here
from_on-append (suc j) k a =
    let more : suc j + k ≡ suc (j + k) = omega arith in
    let far : suc a + j ≡ a + suc j = omega arith in
    ap (λ i. from_on i a) more ∙ ap (λ (l : List ℕ). a ∷ l) (from_on-append j k (suc a) ∙ ap (λ i. from_on j (suc a) ++ from_on k i) far)

spans_follow : (start : ℕ → ℕ) (n end k a : ℕ) → AreStarts start n end → a + k ≤ n
    → spans start (from_on k a) ≡ from_on (start (a + k) - start a) (start a)
spans_follow start n end zero a h le =
    let none : 0 ≡ start (a + 0) - start a = omega (arith, ap start (same a)) in
    ap (λ j. from_on j (start a)) none
  where
    same : (a : ℕ) → a + 0 ≡ a
    same a = omega arith
spans_follow start n end (suc k) a h le =
    let one : start a ≤ start (suc a) = h.rise a (suc a) (omega arith) (omega (arith, le)) in
    let far : start (suc a) ≤ start (suc a + k) = h.rise (suc a) (suc a + k) (omega arith) (omega (arith, le)) in
    let last : start (suc a + k) ≡ start (a + suc k) = ap start (omega arith) in
    let size : (start (suc a) - start a) + (start (suc a + k) - start (suc a)) ≡ start (a + suc k) - start a = omega (arith, one, far, last) in
    let on : start a + (start (suc a) - start a) ≡ start (suc a) = omega (arith, one) in
    ap (λ (l : List ℕ). from_on (start (suc a) - start a) (start a) ++ l) (spans_follow start n end k (suc a) h (omega (arith, le)))
    ∙ ap (λ j. from_on (start (suc a) - start a) (start a) ++ from_on (start (suc a + k) - start (suc a)) j) (sym on)
    ∙ sym (from_on-append (start (suc a) - start a) (start (suc a + k) - start (suc a)) (start a)) ∙ ap (λ j. from_on j (start a)) size

-- what is in a range of rows is a range
pub range_spans : (start : ℕ → ℕ) (n end from to : ℕ) (picks : Picks) (old new : Column) → picks ≡ Range from to → ArePicks n picks
    → AreStarts start n end → IsPickedColumn (from_on (start to - start from) (start from)) old new
    → IsPickedColumn (spans start (places_in picks)) old new
range_spans start n end from to picks old new is h s p =
    let w = range_within n from to picks is h in
    let all : from + (to - from) ≡ to = omega (arith, w.0) in
    subst (λ (ps : List ℕ). IsPickedColumn ps old new)
    (sym (ap (λ (p : Picks). spans start (places_in p)) is ∙ spans_follow start n end (to - from) from s (omega (arith, w.0, w.1))
    ∙ ap (λ j. from_on (start j - start from) (start from)) all)) p

pub mask_spans : (start : ℕ → ℕ) (m : Bor (List Bool)) (picks : Picks) (spread : List Bool) (old new : Column) → picks ≡ Mask m
    → places_of spread ≡ spans start (places_of m.now) → IsPickedColumn (places_of spread) old new
    → IsPickedColumn (spans start (places_in picks)) old new
mask_spans start m picks spread old new is e p =
    subst (λ (ps : List ℕ). IsPickedColumn ps old new) (e ∙ sym (ap (λ (p : Picks). spans start (places_in p)) is)) p

pub places_spans : (start : ℕ → ℕ) (ps : Bor (List ℕ)) (picks : Picks) (spread : List ℕ) (old new : Column) → picks ≡ Places ps
    → spread ≡ spans start ps.now → IsPickedColumn spread old new → IsPickedColumn (spans start (places_in picks)) old new
places_spans start ps picks spread old new is e p =
    subst (λ (ps : List ℕ). IsPickedColumn ps old new) (e ∙ sym (ap (λ (p : Picks). spans start (places_in p)) is)) p

-- ---- fields

pub first_much : (n : ℕ) (c : Column) (cs all : List Column) (picks : Picks) (e : ArrayError) → ArePicks n picks → Holds c
    → ((ps : List ℕ) → AnyMuch (c ∷ cs) ps → AnyMuch all ps) → RefusesPick picks (ColumnMuch c) e → RefusesPick picks (AnyMuch all) e
first_much n c cs all picks e a h k r =
    refused_more n picks (ColumnMuch c) (AnyMuch all) e a (λ ps b m. k ps (inl (h.fit, m))) r

-- ---- how rows are held

pub texts_refused : (t : Term) (n : ℕ) (v : Validity) (c : Content) (a : TextBytes) (picks : Picks) (e : ArrayError) → c ≡ Texts a → IsShaped c t n
    → ArePicks n picks → RefusesPick picks (TextsMuch v a) e → RefusesPick picks (ContentMuch t n v c) e
texts_refused t n v c a picks e is h k r =
    subst (λ (c : Content). RefusesPick picks (ContentMuch t n v c) e) (sym is)
    (refused_more n picks (TextsMuch v a) (ContentMuch t n v (Texts a)) e k (λ ps b m. texts_hold t n v a ps (subst (λ (c : Content). IsShaped c t n) is h) m) r)

pub lists_refused : (t : Term) (n : ℕ) (v : Validity) (c : Content) (os : List ℕ) (es : Rc Column Global) (picks : Picks) (e : ArrayError) → c ≡ Lists os es
    → IsShaped c t n → ArePicks n picks → RefusesPick picks (ListsMuch v os es.value) e → RefusesPick picks (ContentMuch t n v c) e
lists_refused t n v c os es picks e is h k r =
    subst (λ (c : Content). RefusesPick picks (ContentMuch t n v c) e) (sym is)
    (refused_more n picks (ListsMuch v os es.value) (ContentMuch t n v (Lists os es)) e k (λ ps b m. lists_hold t n v os es ps (subst (λ (c : Content). IsShaped c t n) is h) m) r)

pub fixed_refused : (t : Term) (n : ℕ) (v : Validity) (c : Content) (k : ℕ) (es : Rc Column Global) (picks : Picks) (e : ArrayError) → c ≡ FixedLists k es
    → IsShaped c t n → IsMask n (is_maskable t) v → ArePicks n picks → Holds es.value
    → RefusesPick picks (λ ps. ColumnMuch es.value (spans (λ i. i * k) ps)) e → RefusesPick picks (ContentMuch t n v c) e
fixed_refused t n v c k es picks e is h m a fit r =
    subst (λ (c : Content). RefusesPick picks (ContentMuch t n v c) e) (sym is)
    (refused_more n picks (λ ps. ColumnMuch es.value (spans (λ i. i * k) ps)) (ContentMuch t n v (FixedLists k es)) e a
    (λ ps b much. fixed_hold t n v k es ps (subst (λ (c : Content). IsShaped c t n) is h) m b fit.fit much) r)

pub structs_refused : (t : Term) (n : ℕ) (v : Validity) (c : Content) (w : Vec Column Global) (picks : Picks) (e : ArrayError) → c ≡ Structs w
    → IsShaped c t n → IsMask n (is_maskable t) v → ArePicks n picks → RefusesPick picks (AnyMuch w.items) e → RefusesPick picks (ContentMuch t n v c) e
structs_refused t n v c w picks e is h m a r =
    subst (λ (c : Content). RefusesPick picks (ContentMuch t n v c) e) (sym is)
    (refused_more n picks (AnyMuch w.items) (ContentMuch t n v (Structs w)) e a
    (λ ps b much. structs_hold t n v w ps (subst (λ (c : Content). IsShaped c t n) is h) m b much) r)

pub storage_refused : (t : Term) (n : ℕ) (v : Validity) (c : Content) (es : Rc Column Global) (picks : Picks) (e : ArrayError) → c ≡ Storage es
    → IsShaped c t n → IsMask n (is_maskable t) v → ArePicks n picks → RefusesPick picks (ColumnMuch es.value) e → RefusesPick picks (ContentMuch t n v c) e
storage_refused t n v c es picks e is h m a r =
    subst (λ (c : Content). RefusesPick picks (ContentMuch t n v c) e) (sym is)
    (refused_more n picks (ColumnMuch es.value) (ContentMuch t n v (Storage es)) e a
    (λ ps b much. storage_hold t n v es ps (subst (λ (c : Content). IsShaped c t n) is h) m much) r)

-- ---- texts

-- where the pieces at places are longer together than 32 bits tell, a place stands twice
pub texts_much : (v : Validity) (a : TextBytes) (ps : Bor (List ℕ)) (picks : Picks) (last : ℕ) → picks ≡ Places ps
    → ArePicks (length (text_pieces a)) picks → IsMask (length (text_pieces a)) true v → AreTexts a
    → slice_get a.offsets (length (text_pieces a)) ≡ Some last → last < 2 ^ 32
    → 2 ^ 32 ≤ length (flat_map (λ p. p) (taken_pieces v ps.now (text_pieces a))) → PicksMuch picks (TextsMuch v a)
texts_much v a ps picks last is h m t e few l =
    let n = length (text_pieces a) in
    let b : Below n ps.now = subst (ArePicks n) is h in
    let qs : List ℕ = shown_places v ps.now in
    let long : length (flat_map (λ p. p) (taken_pieces v ps.now (text_pieces a))) ≡ sum (map (size_at a.offsets) qs) =
    ap length (joined_shown v (text_pieces a) ps.now b) ∙ length-joined (picked qs (text_pieces a))
    ∙ ap sum (sym (sizes_picked n a.offsets qs a.bytes t.offsets (below_shown n v ps.now b))) in
    let starts : AreStarts (λ i. get_or a.offsets i 0) n last = record {
      rise = (offset_starts n (length a.bytes) a.offsets t.offsets).rise;
      within = omega (arith, get_or_from_slice_get a.offsets n last 0 e);
    } in
    let bytes = bytes_picked true v (text_pieces a) ps.now m b in
    subst (λ (p : Picks). PicksMuch p (TextsMuch v a)) (sym is) (
      shown_much (λ i. get_or a.offsets i 0) n last v ps.now starts b (omega (arith, l, long, few)),
      omega (arith, l, bytes),
    )

-- how texts are picked

pub range_texts : (v : Validity) (a b : TextBytes) (from to : ℕ) (picks : Picks) → picks ≡ Range from to → ArePicks (length (text_pieces a)) picks
    → IsMask (length (text_pieces a)) true v → text_pieces b ≡ slice_range (text_pieces a) from to
    → IsPickedTexts (places_in picks) v a b
range_texts v a b from to picks is h m e =
    texts_under (length (text_pieces a)) true (places_in picks) v a b m (picks_below (length (text_pieces a)) picks h) refl
    (e ∙ range_picked (length (text_pieces a)) from to picks (text_pieces a) is h refl)

pub mask_texts : (v : Validity) (a b : TextBytes) (m : Bor (List Bool)) (picks : Picks) → picks ≡ Mask m → ArePicks (length (text_pieces a)) picks
    → IsMask (length (text_pieces a)) true v → text_pieces b ≡ kept m.now (text_pieces a) → IsPickedTexts (places_in picks) v a b
mask_texts v a b m picks is h k e =
    texts_under (length (text_pieces a)) true (places_in picks) v a b k (picks_below (length (text_pieces a)) picks h) refl
    (e ∙ mask_picks (length (text_pieces a)) m picks (text_pieces a) is h refl)

pub places_texts : (v : Validity) (a b : TextBytes) (ps : Bor (List ℕ)) (picks : Picks) → picks ≡ Places ps → ArePicks (length (text_pieces a)) picks
    → IsMask (length (text_pieces a)) true v → text_pieces b ≡ taken_pieces v ps.now (text_pieces a)
    → IsPickedTexts (places_in picks) v a b
places_texts v a b ps picks is h m e = subst (λ (p : Picks). IsPickedTexts (places_in p) v a b) (sym is) (record {
  count = ap length e ∙ length-map _ _;
  same = taken_below bytes_row true v (text_pieces a) (text_pieces b) ps.now m (subst (ArePicks (length (text_pieces a))) is h) e;
})

-- ---- loops

from_on-more : (k a : ℕ) → from_on (k + 1) a ≡ from_on k a ++ (a + k) ∷ []
from_on-more k a = from_on-append k 1 a

pub followed_more : (given out new : List ℕ) (a p : ℕ) → a ≤ p → out ≡ given ++ from_on (p - a) a → new ≡ out ++ p ∷ []
    → new ≡ given ++ from_on (p + 1 - a) a
followed_more given out new a p le e n =
    let here : a + (p - a) ≡ p = omega (arith, le) in
    let next : p + 1 - a ≡ (p - a) + 1 = omega (arith, le) in
    n ∙ ap (λ (l : List ℕ). l ++ p ∷ []) e ∙ append_assoc given (from_on (p - a) a) (p ∷ [])
    ∙ ap (λ (l : List ℕ). given ++ l) (ap (λ j. from_on (p - a) a ++ j ∷ []) (sym here) ∙ sym (from_on-more (p - a) a) ∙ ap (λ j. from_on j a) (sym next))

pub spread_step : (start : ℕ → ℕ) (places : List ℕ) (i from to : ℕ) (old new : List ℕ) → i < length places
    → from ≡ start (get_or places i 0) → to ≡ start (get_or places i 0 + 1) → old ≡ spans start (take i places)
    → new ≡ old ++ from_on (to - from) from → new ≡ spans start (take (i + 1) places)
spread_step start places i from to old new lt f t o n =
    let p = get_or places i 0 in
    let next : to ≡ start (suc p) = t ∙ ap start (omega arith) in
    n ∙ ap (λ (l : List ℕ). l ++ from_on (to - from) from) o
    ∙ ap (λ j. spans start (take i places) ++ from_on (j - from) from) next
    ∙ ap (λ j. spans start (take i places) ++ from_on (start (suc p) - j) j) f
    ∙ ap (λ (l : List ℕ). spans start (take i places) ++ l) (sym (append-nil (from_on (start (suc p) - start p) (start p))))
    ∙ sym (flat_map-append (λ p. from_on (start (suc p) - start p) (start p)) (take i places) (p ∷ []))
    ∙ ap (spans start) (sym (take_more places i 0 lt))

-- ---- refusals that are passed on

pub err_is : {A : Type 0} (r : Result A ArrayError) (P : A → Type 0) (Q : ArrayError → Type 0) (e : ArrayError)
    → IsErrAnd r (λ y. y ≡ e) → Q e → MatchResult r P Q
err_is (Ok x) P Q e h k = absurd h
err_is (Err y) P Q e h k = subst Q (sym h) k

pub spans_within : (start : ℕ → ℕ) (n end : ℕ) (ps : Bor (List ℕ)) (picks : Picks) (xs : List ℕ) → picks ≡ Places ps → ArePicks n picks
    → AreStarts start n end → xs ≡ spans start ps.now → Below end xs
spans_within start n end ps picks xs is h s e =
    subst (Below end) (sym e) (below-spans start n end ps.now s (subst (ArePicks n) is h))

pub range_cut : (start : ℕ → ℕ) (from to a b : ℕ) (old new : Column) → a ≡ start from → b ≡ start to
    → IsPickedColumn (from_on (b - a) a) old new → IsPickedColumn (from_on (start to - start from) (start from)) old new
range_cut start from to a b old new e f p =
    subst (λ j. IsPickedColumn (from_on (start to - j) j) old new) e (subst (λ j. IsPickedColumn (from_on (j - a) a) old new) f p)
