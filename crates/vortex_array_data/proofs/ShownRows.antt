-- Rows at places under a mask, where those that it hides hold nothing.
use Rattle.std.proofs.Common.{◌≡◌, ◌≤◌, ◌<◌, ◌+◌, ◌-◌, inl, inr, ℕ, zero, suc, List, [], ◌∷◌, ◌++◌, Bool, true, false, Some, None, map, length, take, get_or, if◌then◌else◌, refl, sym, ap, subst, ◌∙◌, arith}
use Rattle.std.specs.List.{flat_map, sum, sum_by}
use Rattle.std.proofs.lemmas.List.{append-nil, length-map, take_more}
use Rattle.std.proofs.lemmas.List.Sums.{sum_by-cons}
use Rattle.vortex_terms.specs.Row.{Row, null_row, bytes_row, list_row, rows_from}
use Rattle.vortex_terms.specs.Parts.{byte_count, inner_rows}
use Rattle.vortex_terms.specs.RowLaws.{row_list-from}
use Rattle.vortex_terms.specs.FromColumns.{zip_map, masked}
use Rattle.vortex_node_rows.specs.RowsOf.{Validity}
use Rattle.vortex_node_rows.proofs.Masks.{length-zip_map}
use Rattle.vortex_leaves.specs.Selected.{is_shown, shown_piece, shown_size, size_at, taken_pieces}
use Rattle.vortex_leaves.proofs.Joined.{length-joined}
use Rattle.vortex_array_data.specs.Content.{IsMask}
use Rattle.vortex_array_data.specs.Taken.{MayPass, Repeats, StandsIn}
use Rattle.vortex_array_data.specs.inner.Picked.{picked, picked_validity, shown_places, ArePickedBelow, IsPickedMask}
use Rattle.vortex_array_data.proofs.PickLaws.{Below, picked-zip}
use Rattle.vortex_array_data.proofs.PickPlaces.{at_onto-get, picked-taken}

-- ---- masks that are picked

masked_picked : (n : ℕ) (nl : Bool) (ps : List ℕ) (m k : Validity) (old new : List Row) → IsMask n nl m → length old ≡ n
    → IsPickedMask ps m k → new ≡ picked ps old → masked k new ≡ picked ps (masked m old)
masked_picked n nl ps None None old new h l p e = e
masked_picked n nl ps (Some m) (Some k) old new h l p e =
    let f : Bool → Row → Row = λ b r. if b then r else null_row in
    ap (λ (x : List Bool). zip_map f x new) p ∙ ap (zip_map f (picked ps m)) e ∙ sym (picked-zip f ps m old (h.0 ∙ sym l))
masked_picked n nl ps None (Some k) old new h l p e = absurd p
masked_picked n nl ps (Some m) None old new h l p e = absurd p

mask_at : (ps : List ℕ) (v : Validity) → IsPickedMask ps v (picked_validity ps v)
mask_at ps None = tt
mask_at ps (Some m) = refl

pub mask_is : (ps : List ℕ) (v k : Validity) → IsPickedMask ps v k → k ≡ picked_validity ps v
mask_is ps None None h = refl
mask_is ps (Some m) (Some k) h = ap (λ (m : List Bool). Some m) h
mask_is ps None (Some k) h = absurd h
mask_is ps (Some m) None h = absurd h

-- rows that are picked are picked under a mask
pub below_mask : (n : ℕ) (nl : Bool) (ps : List ℕ) (v : Validity) (old new : List Row) → IsMask n nl v → length old ≡ n
    → new ≡ picked ps old → ArePickedBelow ps v old new
below_mask n nl ps v old new h l e = masked_picked n nl ps v (picked_validity ps v) old new h l (mask_at ps v) e

-- ---- single rows

-- the row that is made of what stands at a place, and null where it is hidden
abbrev pub shown_row : {A : Type 0} → (List A → Row) → Validity → List (List A) → ℕ → Row
shown_row f v ws p = if is_shown v p then f (get_or ws p []) else null_row

map_get : {A B : Type 0} (f : A → B) (ws : List A) (p : ℕ) (d : A) (e : B) → p < length ws → get_or (map f ws) p e ≡ f (get_or ws p d)
map_get f [] p d e l = absurd (omega (arith, l))
map_get f (w ∷ ws) zero d e l = refl
map_get f (w ∷ ws) (suc p) d e l = map_get f ws p d e (omega (arith, l))

zip_get : {A : Type 0} (f : List A → Row) (m : List Bool) (ws : List (List A)) (p : ℕ) → length m ≡ length ws → p < length ws
    → get_or (masked (Some m) (map f ws)) p null_row ≡ shown_row f (Some m) ws p
zip_get f m [] p e l = absurd (omega (arith, l))
zip_get f [] (w ∷ ws) p e l = absurd (omega (arith, e))
zip_get f (b ∷ m) (w ∷ ws) zero e l = refl
zip_get f (b ∷ m) (w ∷ ws) (suc p) e l = zip_get f m ws p (omega (arith, e)) (omega (arith, l))

masked_get : {A : Type 0} (f : List A → Row) (nl : Bool) (v : Validity) (ws : List (List A)) (p : ℕ) → IsMask (length ws) nl v → p < length ws
    → get_or (masked v (map f ws)) p null_row ≡ shown_row f v ws p
masked_get f nl None ws p h l = map_get f ws p [] null_row l
masked_get f nl (Some m) ws p h l = zip_get f m ws p h.0 l

pub length_masked : (nl : Bool) (v : Validity) (rs : List Row) → IsMask (length rs) nl v → length (masked v rs) ≡ length rs
length_masked nl None rs h = refl
length_masked nl (Some m) rs h = length-zip_map (λ b r. if b then r else null_row) m rs h.0

-- ---- rows at places

shown_rows : {A : Type 0} (f : List A → Row) (nl : Bool) (v : Validity) (ws : List (List A)) (ps : List ℕ) → IsMask (length ws) nl v → Below (length ws) ps
    → map (λ p. get_or (masked v (map f ws)) p null_row) ps ≡ map (shown_row f v ws) ps
shown_rows f nl v ws [] h b = refl
shown_rows f nl v ws (p ∷ ps) h b =
    ap (λ (r : Row). r ∷ map (λ p. get_or (masked v (map f ws)) p null_row) ps) (masked_get f nl v ws p h b.0)
    ∙ ap (λ (l : List Row). shown_row f v ws p ∷ l) (shown_rows f nl v ws ps h b.1)

pub picked_shown : {A : Type 0} (f : List A → Row) (nl : Bool) (v : Validity) (ws : List (List A)) (ps : List ℕ) → IsMask (length ws) nl v → Below (length ws) ps
    → picked ps (masked v (map f ws)) ≡ map (shown_row f v ws) ps
picked_shown f nl v ws ps h b =
    let mask : IsMask (length (map f ws)) nl v = subst (λ n. IsMask n nl v) (sym (length-map _ _)) h in
    let long : length (masked v (map f ws)) ≡ length ws = length_masked nl v (map f ws) mask ∙ length-map _ _ in
    sym (picked-taken ps (masked v (map f ws)) null_row (subst (λ n. Below n ps) (sym long) b)) ∙ shown_rows f nl v ws ps h b

hide : {A : Type 0} (f : List A → Row) (b : Bool) (w : List A) → (if b then f (if b then w else []) else null_row) ≡ (if b then f w else null_row)
hide f true w = refl
hide f false w = refl

taken_shown : {A : Type 0} (f : List A → Row) (nl : Bool) (v : Validity) (ws : List (List A)) (ps : List ℕ) → IsMask (length ws) nl v → Below (length ws) ps
    → masked (picked_validity ps v) (map f (taken_pieces v ps ws)) ≡ map (shown_row f v ws) ps
taken_shown f nl None ws [] h b = refl
taken_shown f nl None ws (p ∷ ps) h b = ap (λ (l : List Row). f (get_or ws p []) ∷ l) (taken_shown f nl None ws ps h b.1)
taken_shown f nl (Some m) ws [] h b = refl
taken_shown f nl (Some m) ws (p ∷ ps) h b =
    let g : Bool → Row → Row = λ b r. if b then r else null_row in
    let here : picked (p ∷ ps) m ≡ get_or m p false ∷ picked ps m = at_onto-get m p false (picked ps m) (omega (arith, b.0, h.0)) in
    ap (λ (l : List Bool). zip_map g l (map f (taken_pieces (Some m) (p ∷ ps) ws))) here
    ∙ ap (λ (r : Row). r ∷ zip_map g (picked ps m) (map f (taken_pieces (Some m) ps ws))) (hide f (get_or m p false) (get_or ws p []))
    ∙ ap (λ (l : List Row). shown_row f (Some m) ws p ∷ l) (taken_shown f nl (Some m) ws ps h b.1)

-- what is made of the pieces at places are the rows at these places, but for those that are null
pub taken_below : {A : Type 0} (f : List A → Row) (nl : Bool) (v : Validity) (ws new : List (List A)) (ps : List ℕ) → IsMask (length ws) nl v
    → Below (length ws) ps → new ≡ taken_pieces v ps ws → ArePickedBelow ps v (map f ws) (map f new)
taken_below f nl v ws new ps h b e =
    ap (λ (l : List (List _)). masked (picked_validity ps v) (map f l)) e ∙ taken_shown f nl v ws ps h b ∙ sym (picked_shown f nl v ws ps h b)

-- ---- elements

abbrev pub list_of : List Row → Row
list_of rs = list_row (rows_from rs)

inner_shown : (b : Bool) (w : List Row) → inner_rows (if b then list_of w else null_row) ≡ (if b then w else [])
inner_shown true w = row_list-from w
inner_shown false w = refl

inner_taken : (v : Validity) (ws : List (List Row)) (ps : List ℕ)
    → flat_map inner_rows (map (shown_row list_of v ws) ps) ≡ flat_map (λ w. w) (taken_pieces v ps ws)
inner_taken v ws [] = refl
inner_taken v ws (p ∷ ps) =
    ap (λ (l : List Row). l ++ flat_map inner_rows (map (shown_row list_of v ws) ps)) (inner_shown (is_shown v p) (get_or ws p []))
    ∙ ap (λ (l : List Row). shown_piece v ws p ++ l) (inner_taken v ws ps)

-- what is taken, joined, is what is picked at the places that are shown
pub joined_shown : {A : Type 0} (v : Validity) (ws : List (List A)) (ps : List ℕ) → Below (length ws) ps
    → flat_map (λ w. w) (taken_pieces v ps ws) ≡ flat_map (λ w. w) (picked (shown_places v ps) ws)
joined_shown v ws [] b = refl
joined_shown {A = A} v ws (p ∷ ps) b = by (is_shown v p) (joined_shown v ws ps b.1)
  where
    by : (s : Bool) → flat_map (λ w. w) (taken_pieces v ps ws) ≡ flat_map (λ w. w) (picked (shown_places v ps) ws)
        → ((if s then get_or ws p [] else []) ++ flat_map (λ w. w) (taken_pieces v ps ws))
        ≡ flat_map (λ w. w) (picked (if s then p ∷ shown_places v ps else shown_places v ps) ws)
    by true e =
        ap (λ (l : List A). get_or ws p [] ++ l) e
        ∙ sym (ap (flat_map (λ (w : List A). w)) (at_onto-get ws p [] (picked (shown_places v ps) ws) b.0))
    by false e = e

-- the elements of lists at places are those at the places that are shown
pub inner_picked : (nl : Bool) (v : Validity) (ws : List (List Row)) (ps : List ℕ) → IsMask (length ws) nl v → Below (length ws) ps
    → flat_map inner_rows (picked ps (masked v (map list_of ws))) ≡ flat_map (λ w. w) (picked (shown_places v ps) ws)
inner_picked nl v ws ps h b =
    ap (flat_map inner_rows) (picked_shown list_of nl v ws ps h b) ∙ inner_taken v ws ps ∙ joined_shown v ws ps b

-- ---- bytes

bytes_shown : (b : Bool) (w : List ℕ) → byte_count (if b then bytes_row w else null_row) ≡ length (if b then w else [])
bytes_shown true w = refl
bytes_shown false w = refl

bytes_taken : (v : Validity) (ws : List (List ℕ)) (ps : List ℕ)
    → sum_by byte_count (map (shown_row bytes_row v ws) ps) ≡ sum (map length (taken_pieces v ps ws))
bytes_taken v ws [] = refl
bytes_taken v ws (p ∷ ps) =
    omega (
      arith,
      sum_by-cons byte_count (shown_row bytes_row v ws p) (map (shown_row bytes_row v ws) ps),
      sum_by-cons (λ x. x) (length (shown_piece v ws p)) (map length (taken_pieces v ps ws)),
      bytes_shown (is_shown v p) (get_or ws p []),
      bytes_taken v ws ps,
    )

-- texts at places have the bytes that are joined
pub bytes_picked : (nl : Bool) (v : Validity) (ws : List (List ℕ)) (ps : List ℕ) → IsMask (length ws) nl v → Below (length ws) ps
    → sum_by byte_count (picked ps (masked v (map bytes_row ws))) ≡ length (flat_map (λ w. w) (taken_pieces v ps ws))
bytes_picked nl v ws ps h b =
    ap (sum_by byte_count) (picked_shown bytes_row nl v ws ps h b) ∙ bytes_taken v ws ps ∙ sym (length-joined (taken_pieces v ps ws))

-- ---- places that are shown

pub below_shown : (n : ℕ) (v : Validity) (ps : List ℕ) → Below n ps → Below n (shown_places v ps)
below_shown n v [] b = tt
below_shown n v (p ∷ ps) b = by (is_shown v p) (below_shown n v ps b.1)
  where
    by : (s : Bool) → Below n (shown_places v ps) → Below n (if s then p ∷ shown_places v ps else shown_places v ps)
    by true k = (b.0, k)
    by false k = k

pub fewer_shown : (v : Validity) (ps : List ℕ) → length (shown_places v ps) ≤ length ps
fewer_shown v [] = omega arith
fewer_shown v (p ∷ ps) = by (is_shown v p) (fewer_shown v ps)
  where
    by : (s : Bool) → length (shown_places v ps) ≤ length ps → length (if s then p ∷ shown_places v ps else shown_places v ps) ≤ length (p ∷ ps)
    by true k = omega (arith, k)
    by false k = omega (arith, k)

stands_shown : (v : Validity) (q : ℕ) (ps : List ℕ) → StandsIn q (shown_places v ps) → StandsIn q ps
stands_shown v q [] h = h
stands_shown v q (p ∷ ps) h = by (is_shown v p) (λ k. stands_shown v q ps k) h
  where
    by : (s : Bool) → (StandsIn q (shown_places v ps) → StandsIn q ps) → StandsIn q (if s then p ∷ shown_places v ps else shown_places v ps) → StandsIn q (p ∷ ps)
    by true f (inl e) = inl e
    by true f (inr k) = inr (f k)
    by false f k = inr (f k)

pub repeats_shown : (v : Validity) (ps : List ℕ) → Repeats (shown_places v ps) → Repeats ps
repeats_shown v [] h = h
repeats_shown v (p ∷ ps) h = by (is_shown v p) (λ k. repeats_shown v ps k) h
  where
    by : (s : Bool) → (Repeats (shown_places v ps) → Repeats ps) → Repeats (if s then p ∷ shown_places v ps else shown_places v ps) → Repeats (p ∷ ps)
    by true f (inl k) = inl (stands_shown v p ps k)
    by true f (inr k) = inr (f k)
    by false f k = inr (f k)

pub shown_passes : (v : Validity) (ps : List ℕ) → MayPass (shown_places v ps) → MayPass ps
shown_passes v ps (inl l) = inl (omega (arith, l, fewer_shown v ps))
shown_passes v ps (inr r) = inr (repeats_shown v ps r)

pub sizes_shown : (v : Validity) (os ps : List ℕ) → sum (map (shown_size v os) ps) ≡ sum (map (size_at os) (shown_places v ps))
sizes_shown v os [] = refl
sizes_shown v os (p ∷ ps) = sum_by-cons (λ x. x) (shown_size v os p) (map (shown_size v os) ps) ∙ by (is_shown v p) (sizes_shown v os ps)
  where
    by : (s : Bool) → sum (map (shown_size v os) ps) ≡ sum (map (size_at os) (shown_places v ps))
        → (if s then size_at os p else 0) + sum (map (shown_size v os) ps)
        ≡ sum (map (size_at os) (if s then p ∷ shown_places v ps else shown_places v ps))
    by true e =
        ap (λ j. size_at os p + j) e
        ∙ sym (sum_by-cons (λ x. x) (size_at os p) (map (size_at os) (shown_places v ps)))
    by false e = omega (arith, e)

-- ---- places that are shown, one by one

pub shown_all : (ps : List ℕ) → ps ≡ shown_places None ps
shown_all [] = refl
shown_all (p ∷ ps) = ap (λ (l : List ℕ). p ∷ l) (shown_all ps)

shown-append : (v : Validity) (ps qs : List ℕ) → shown_places v (ps ++ qs) ≡ shown_places v ps ++ shown_places v qs
shown-append v [] qs = refl
shown-append v (p ∷ ps) qs = by (is_shown v p) (shown-append v ps qs)
  where
    by : (s : Bool) → shown_places v (ps ++ qs) ≡ shown_places v ps ++ shown_places v qs
        → (if s then p ∷ shown_places v (ps ++ qs) else shown_places v (ps ++ qs))
        ≡ (if s then p ∷ shown_places v ps else shown_places v ps) ++ shown_places v qs
    by true e = ap (λ (l : List ℕ). p ∷ l) e
    by false e = e

shown_next : (v : Validity) (ps : List ℕ) (i : ℕ) → i < length ps
    → shown_places v (take (i + 1) ps) ≡ shown_places v (take i ps) ++ (if is_shown v (get_or ps i 0) then get_or ps i 0 ∷ [] else [])
shown_next v ps i l = ap (shown_places v) (take_more ps i 0 l) ∙ shown-append v (take i ps) (get_or ps i 0 ∷ [])

pub marked_put : (m : List Bool) (ps out new : List ℕ) (i : ℕ) → i < length ps → get_or m (get_or ps i 0) false ≡ true
    → out ≡ shown_places (Some m) (take i ps) → new ≡ out ++ get_or ps i 0 ∷ [] → new ≡ shown_places (Some m) (take (i + 1) ps)
marked_put m ps out new i l t o n =
    n ∙ ap (λ (l : List ℕ). l ++ get_or ps i 0 ∷ []) o
    ∙ ap (λ (b : Bool). shown_places (Some m) (take i ps) ++ (if b then get_or ps i 0 ∷ [] else [])) (sym t) ∙ sym (shown_next (Some m) ps i l)

pub marked_left : (m : List Bool) (ps out : List ℕ) (i : ℕ) → i < length ps → get_or m (get_or ps i 0) false ≡ false
    → out ≡ shown_places (Some m) (take i ps) → out ≡ shown_places (Some m) (take (i + 1) ps)
marked_left m ps out i l t o =
    o ∙ sym (append-nil (shown_places (Some m) (take i ps)))
    ∙ ap (λ (b : Bool). shown_places (Some m) (take i ps) ++ (if b then get_or ps i 0 ∷ [] else [])) (sym t) ∙ sym (shown_next (Some m) ps i l)
