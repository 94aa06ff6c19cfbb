-- What is in the rows that are picked: pieces between offsets, and pieces of one length.
use Rattle.std.proofs.Common.{◌≡◌, ◌≤◌, ◌<◌, ◌+◌, ◌-◌, ◌*◌, ℕ, zero, suc, List, [], ◌∷◌, ◌++◌, Bool, true, map, length, take, drop, get_or, refl, sym, ap, subst, ◌∙◌, arith, length-append, mul-le-mul_right}
use Rattle.std.specs.Prelude.{slice_range}
use Rattle.std.specs.List.{AllByRecursion, flat_map}
use Rattle.std.proofs.lemmas.List.{length-map, length-take, length-drop, take_at, drop_at, drop-drop}
use Rattle.vortex_terms.specs.Row.{Row}
use Rattle.vortex_terms.specs.FromColumns.{list_rows, masked, pieces}
use Rattle.vortex_terms.specs.Parts.{inner_rows}
use Rattle.vortex_node_rows.specs.Buffers.{rises_from}
use Rattle.vortex_node_rows.specs.Pieces.{chunks}
use Rattle.vortex_node_rows.specs.RowsOf.{Validity}
use Rattle.vortex_node_rows.proofs.Lists.{length-chunks}
use Rattle.vortex_leaves.specs.Texts.{AreOffsets}
use Rattle.vortex_leaves.specs.Selected.{joined_offsets, shown_size, size_at, taken_pieces}
use Rattle.vortex_leaves.proofs.Rising.{step, length-pieces}
use Rattle.vortex_leaves.proofs.Pieces.{pieces_range, offsets_range}
use Rattle.vortex_leaves.proofs.Joined.{joined_are_offsets, length-joined, offset_last, piece_size, pieces_get, pieces_joined, sizes_taken}
use Rattle.vortex_array_data.specs.Column.{Column}
use Rattle.vortex_array_data.specs.Content.{IsMask}
use Rattle.vortex_array_data.specs.inner.Picked.{picked, from_on, shown_places, IsPickedColumn, IsPickedLists}
use Rattle.vortex_array_data.specs.inner.Spans.{spans, AreStarts}
use Rattle.vortex_array_data.proofs.PickLaws.{Below, all_picked, length-from_on, length-picked, picked-map, picked_range}
use Rattle.vortex_array_data.proofs.PickPlaces.{at_onto-get, picked-spans}
use Rattle.vortex_array_data.proofs.ShownRows.{below_mask, below_shown, inner_picked, joined_shown, list_of, taken_below}

-- ---- between offsets

rises_to : (a : ℕ) (os : List ℕ) (q : ℕ) → rises_from a os ≡ true → q < length os → a ≤ get_or os q 0
rises_to a [] q h l = absurd (omega (arith, l))
rises_to a (o ∷ os) zero h l = (step a o os h).0
rises_to a (o ∷ os) (suc q) h l = omega (arith, (step a o os h).0, rises_to o os q (step a o os h).1 (omega (arith, l)))

rises_between : (a : ℕ) (os : List ℕ) (p q : ℕ) → rises_from a os ≡ true → p ≤ q → q < length os → get_or os p 0 ≤ get_or os q 0
rises_between a [] p q h le l = absurd (omega (arith, l))
rises_between a (o ∷ os) zero zero h le l = omega arith
rises_between a (o ∷ os) zero (suc q) h le l = rises_to o os q (step a o os h).1 (omega (arith, l))
rises_between a (o ∷ os) (suc p) zero h le l = absurd (omega (arith, le))
rises_between a (o ∷ os) (suc p) (suc q) h le l = rises_between o os p q (step a o os h).1 (omega (arith, le)) (omega (arith, l))

pub offset_starts : (n end : ℕ) (os : List ℕ) → AreOffsets n end os → AreStarts (λ i. get_or os i 0) n end
offset_starts n end os h = record {
  rise = λ p q le l. rises_between 0 os p q h.rise le (omega (arith, l, h.count));
  within = omega (arith, offset_last 0 os n h.rise (omega (arith, h.count)), h.within);
}

-- the sizes of the pieces that are picked
pub sizes_picked : {A : Type 0} (n : ℕ) (os ps : List ℕ) (xs : List A) → AreOffsets n (length xs) os → Below n ps
    → map (size_at os) ps ≡ map length (picked ps (pieces os xs))
sizes_picked n os [] xs h b = refl
sizes_picked {A = A} n os (p ∷ ps) xs h b =
    let many : length (pieces os xs) ≡ n = length-pieces n os xs h.count in
    ap (λ (l : List ℕ). size_at os p ∷ l) (sizes_picked n os ps xs h b.1)
    ∙ ap (λ (j : ℕ). j ∷ map length (picked ps (pieces os xs))) (sym (piece_size os xs p h.rise h.within (omega (arith, h.count, b.0))))
    ∙ sym (ap (map (λ (l : List A). length l)) (at_onto-get (pieces os xs) p [] (picked ps (pieces os xs)) (omega (arith, many, b.0))))

-- lists whose offsets and elements are joined, ws being what is in each
joined_shape : (os new : List ℕ) (ws : List (List Row)) (old es : Column) (k : ℕ) → new ≡ joined_offsets (map length ws)
    → es.rows ≡ flat_map (λ w. w) ws → length ws ≡ k → AreOffsets k (length es.rows) new × (pieces new es.rows ≡ ws)
joined_shape os new ws old es k from all long =
    let many : length (map (λ (l : List Row). length l) ws) ≡ k = length-map _ _ ∙ long in
    let shape : AreOffsets (length (map (λ (l : List Row). length l) ws)) (length es.rows) new =
    rw from (joined_are_offsets (map length ws) (length es.rows) (omega (arith, ap length all, length-joined ws))) in (
      subst (λ j. AreOffsets j (length es.rows) new) many shape,
      ap (λ l. pieces l es.rows) from ∙ ap (pieces (joined_offsets (map length ws))) all ∙ pieces_joined ws,
    )

-- what is in lists at places
spans_pieces : (n : ℕ) (os ps : List ℕ) (old : List Row) → AreOffsets n (length old) os → Below n ps
    → picked (spans (λ i. get_or os i 0) ps) old ≡ flat_map (λ w. w) (picked ps (pieces os old))
spans_pieces n os ps old h b =
    let many : length (pieces os old) ≡ n = length-pieces n os old h.count in
    picked-spans (λ i. get_or os i 0) ps old (pieces os old)
    (subst (λ j. AreStarts (λ i. get_or os i 0) j (length old)) (sym many) (offset_starts n (length old) os h))
    (λ q l. pieces_get os old q (omega (arith, h.count, many, l))) (subst (λ j. Below j ps) (sym many) b)

pub lists_joined : (n : ℕ) (nl : Bool) (v : Validity) (os ps new : List ℕ) (old es : Column) → AreOffsets n (length old.rows) os → Below n ps
    → IsMask n nl v → new ≡ joined_offsets (map (size_at os) ps) → IsPickedColumn (spans (λ i. get_or os i 0) ps) old es
    → IsPickedLists ps v os old new es
lists_joined n nl v os ps new old es h b m e p =
    let qs : List (List Row) = pieces os old.rows in
    let ws : List (List Row) = picked ps qs in
    let many : length qs ≡ n = length-pieces n os old.rows h.count in
    let made = joined_shape os new ws old es (length ps) (e ∙ ap joined_offsets (sizes_picked n os ps old.rows h b))
    (p.rows ∙ spans_pieces n os ps old.rows h b) (length-picked ps qs (subst (λ j. Below j ps) (sym many) b)) in
    record {
      shape = made.0;
      same = below_mask n nl ps v (list_rows os old.rows) (list_rows new es.rows) m (length-map _ _ ∙ many)
          (ap (map list_of) made.1 ∙ sym (picked-map list_of ps qs));
      dtype = p.dtype;
      canonical = p.canonical;
    }

all_suc : (n k : ℕ) (ps : List ℕ) → k ≡ suc n → Below n ps → AllByRecursion (λ p. suc p < k) ps
all_suc n k [] e b = tt
all_suc n k (p ∷ ps) e b = (omega (arith, e, b.0), all_suc n k ps e b.1)

-- the same at places, where a list that is hidden has no elements
pub lists_taken : (n : ℕ) (v : Validity) (os ps new : List ℕ) (old es : Column) → AreOffsets n (length old.rows) os → Below n ps
    → IsMask n true v → new ≡ joined_offsets (map (shown_size v os) ps)
    → IsPickedColumn (spans (λ i. get_or os i 0) (shown_places v ps)) old es → IsPickedLists ps v os old new es
lists_taken n v os ps new old es h b m e p =
    let qs : List (List Row) = pieces os old.rows in
    let ws : List (List Row) = taken_pieces v ps qs in
    let many : length qs ≡ n = length-pieces n os old.rows h.count in
    let below : Below (length qs) ps = subst (λ j. Below j ps) (sym many) b in
    let made = joined_shape os new ws old es (length ps)
    (e ∙ ap joined_offsets (sym (sizes_taken v os old.rows ps h.rise h.within (all_suc n (length os) ps h.count b))))
    (p.rows ∙ spans_pieces n os (shown_places v ps) old.rows h (below_shown n v ps b) ∙ sym (joined_shown v qs ps below))
    (length-map _ _) in
    record {
      shape = made.0;
      same = taken_below list_of true v qs (pieces new es.rows) ps (subst (λ j. IsMask j true v) (sym many) m) below made.1;
      dtype = p.dtype;
      canonical = p.canonical;
    }

-- the elements of lists at places
pub inner_spans : (n : ℕ) (v : Validity) (os ps : List ℕ) (es : List Row) → AreOffsets n (length es) os → Below n ps → IsMask n true v
    → flat_map inner_rows (picked ps (masked v (list_rows os es))) ≡ picked (spans (λ i. get_or os i 0) (shown_places v ps)) es
inner_spans n v os ps es h b m =
    let many : length (pieces os es) ≡ n = length-pieces n os es h.count in
    inner_picked true v (pieces os es) ps (subst (λ j. IsMask j true v) (sym many) m) (subst (λ j. Below j ps) (sym many) b)
    ∙ sym (spans_pieces n os (shown_places v ps) es h (below_shown n v ps b))

-- a range of lists, whose elements stay
pub lists_range : (n from to : ℕ) (nl : Bool) (v : Validity) (os new : List ℕ) (old es : Column) → AreOffsets n (length old.rows) os
    → from ≤ to → to ≤ n → IsMask n nl v → new ≡ slice_range os from (suc to) → es ≡ old
    → IsPickedLists (from_on (to - from) from) v os old new es
lists_range n from to nl v os new old es h le hi m e same =
    let room : to < length os = omega (arith, h.count, hi) in
    let range = offsets_range from to (length old.rows) os new le room h.rise h.within e in
    let many : length (pieces os old.rows) ≡ n = length-pieces n os old.rows h.count in
    let cut : pieces new old.rows ≡ picked (from_on (to - from) from) (pieces os old.rows) =
    ap (λ l. pieces l old.rows) e ∙ pieces_range from to os old.rows le
    ∙ sym (picked_range from to (pieces os old.rows) le (omega (arith, many, hi))) in
    let long : length new ≡ suc (length (from_on (to - from) from)) =
    ap length e ∙ length_range os from to le room ∙ ap suc (sym (length-from_on (to - from) from)) in
    rw same (record {
      shape = record { count = long; rise = range.1; within = range.2 };
      same = below_mask n nl (from_on (to - from) from) v (list_rows os old.rows) (list_rows new old.rows) m (length-map _ _ ∙ many)
          (ap (map list_of) cut ∙ sym (picked-map list_of (from_on (to - from) from) (pieces os old.rows)));
      dtype = refl;
      canonical = λ k. k;
    })
  where
    length_range : (os : List ℕ) (from to : ℕ) → from ≤ to → to < length os → length (slice_range os from (suc to)) ≡ suc (to - from)
    length_range os from to le room =
        omega (arith, length-take (suc to - from) (drop from os), length-drop from os, room, le)

-- ---- so many in each

pub even_starts : (k n end : ℕ) → end ≡ n * k → AreStarts (λ i. i * k) n end
even_starts k n end e = record { rise = λ p q le l. mul-le-mul_right k le; within = omega (arith, e) }

even_get : {A : Type 0} (k n : ℕ) (xs : List A) (p : ℕ) → p < n → get_or (chunks k n xs) p [] ≡ slice_range xs (p * k) (suc p * k)
even_get k zero xs p l = absurd (omega (arith, l))
even_get k (suc n) xs zero l =
    let none : 0 ≡ 0 * k = omega arith in
    let all : k ≡ suc 0 * k - 0 * k = omega arith in
    ap (λ j. take j xs) all ∙ ap (λ j. take (suc 0 * k - 0 * k) (drop j xs)) none
even_get k (suc n) xs (suc p) l =
    let far : k + p * k ≡ suc p * k = omega arith in
    let span : suc p * k - p * k ≡ suc (suc p) * k - suc p * k = omega arith in
    even_get k n (drop k xs) p (omega (arith, l)) ∙ ap (take (suc p * k - p * k)) (drop-drop (p * k) k xs ∙ ap (λ j. drop j xs) far)
    ∙ ap (λ j. take j (drop (suc p * k) xs)) span

abbrev pub Even : {A : Type 0} → ℕ → List (List A) → Type 0
Even k cs = AllByRecursion (λ c. length c ≡ k) cs

even_whole : {A : Type 0} (k n : ℕ) (xs : List A) → n * k ≤ length xs → Even k (chunks k n xs)
even_whole k zero xs h = tt
even_whole k (suc n) xs h =
    (omega (arith, h, length-take k xs), even_whole k n (drop k xs) (omega (arith, h, length-drop k xs)))

pub even_joined : {A : Type 0} (k : ℕ) (cs : List (List A)) → Even k cs → chunks k (length cs) (flat_map (λ c. c) cs) ≡ cs
even_joined k [] h = refl
even_joined {A = A} k (c ∷ cs) h =
    let ys : List A = flat_map (λ (c : List A). c) cs in
    ap (λ (l : List A). l ∷ chunks k (length cs) (drop k (c ++ ys))) (take_at c ys k h.0)
    ∙ ap (λ (l : List A). c ∷ chunks k (length cs) l) (drop_at c ys k h.0)
    ∙ ap (λ (l : List (List A)). c ∷ l) (even_joined k cs h.1)

pub even_length : {A : Type 0} (k : ℕ) (cs : List (List A)) → Even k cs → length (flat_map (λ c. c) cs) ≡ length cs * k
even_length k [] h = omega arith
even_length {A = A} k (c ∷ cs) h =
    omega (arith, length-append c (flat_map (λ (c : List A). c) cs), h.0, even_length k cs h.1)

-- what is picked of pieces of one length
pub even_picked : (k n : ℕ) (ps : List ℕ) (xs ys : List Row) → Below n ps → length xs ≡ n * k → ys ≡ picked (spans (λ i. i * k) ps) xs
    → (length ys ≡ length ps * k) × (chunks k (length ps) ys ≡ picked ps (chunks k n xs))
even_picked k n ps xs ys b long e =
    let qs : List (List Row) = chunks k n xs in
    let ws : List (List Row) = picked ps qs in
    let many : length qs ≡ n = length-chunks k n xs in
    let below : Below (length qs) ps = subst (λ j. Below j ps) (sym many) b in
    let starts : AreStarts (λ i. i * k) (length qs) (length xs) =
    subst (λ j. AreStarts (λ i. i * k) j (length xs)) (sym many) (even_starts k n (length xs) long) in
    let all : ys ≡ flat_map (λ w. w) ws =
    e ∙ picked-spans (λ i. i * k) ps xs qs starts (λ p l. even_get k n xs p (omega (arith, many, l))) below in
    let whole : Even k ws = all_picked (λ c. length c ≡ k) ps qs (even_whole k n xs (omega (arith, long))) in
    let count : length ws ≡ length ps = length-picked ps qs below in (
      ap length all ∙ even_length k ws whole ∙ ap (λ j. j * k) count,
      ap (chunks k (length ps)) all ∙ ap (λ j. chunks k j (flat_map (λ (w : List Row). w) ws)) (sym count) ∙ even_joined k ws whole,
    )
