-- Pieces that are joined, and their offsets.
use Rattle.std.proofs.Common.{◌≡◌, ◌≤◌, ◌<◌, ◌+◌, ◌-◌, ℕ, zero, suc, List, [], ◌∷◌, ◌++◌, Bool, true, false, Some, map, length, take, drop, get_or, if◌then◌else◌, refl, sym, ap, subst, ◌∙◌, arith, length-append}
use Rattle.std.specs.Prelude.{slice_get, slice_range, ◌&&◌}
use Rattle.std.specs.List.{All, AllByRecursion, flat_map, sum}
use Rattle.std.proofs.lemmas.Bool.{le-leb}
use Rattle.std.proofs.lemmas.Grind.{flat_map-append}
use Rattle.std.proofs.lemmas.List.{length-take, length-drop, take_at, drop_at, drop-drop, append-nil, map-append, take_more, take-map}
use Rattle.std.proofs.lemmas.List.Elements.{All-get_or, All-from_get_or, All-tail}
use Rattle.std.proofs.lemmas.List.Folds.{flat_map-map}
use Rattle.std.proofs.lemmas.Option.{get_or_from_slice_get}
use Rattle.std.proofs.lemmas.List.Sums.{sum_by-cons, sum_by-append, sum_by-take-le}
use Rattle.vortex_terms.specs.FromColumns.{pieces, last_from}
use Rattle.vortex_node_rows.specs.Buffers.{rises_from, never_fall}
use Rattle.vortex_node_rows.specs.RowsOf.{Validity}
use Rattle.vortex_mask.specs.Truths.{places_of}
use Rattle.vortex_mask.proofs.Filters.{places_more}
use Rattle.vortex_terms.specs.Types.{IsBytes}
use Rattle.vortex_leaves.specs.Texts.{AreOffsets, AreTexts, TextBytes, text_pieces}
use Rattle.vortex_leaves.specs.Selected.{ends, is_shown, joined_offsets, shown_piece, shown_size, size_at, taken_pieces}
use Rattle.vortex_leaves.proofs.Rising.{step, least_last, ends_within}
use Rattle.vortex_leaves.proofs.Pieces.{offset_rises, texts_made}

-- ---- where pieces end

sum-cons : (k : ℕ) (ks : List ℕ) → sum (k ∷ ks) ≡ k + sum ks
sum-cons k ks = sum_by-cons (λ x. x) k ks

pub length-ends : (a : ℕ) (ks : List ℕ) → length (ends a ks) ≡ length ks
length-ends a [] = refl
length-ends a (k ∷ ks) = ap suc (length-ends (a + k) ks)

pub last-ends : (a : ℕ) (ks : List ℕ) → last_from a (ends a ks) ≡ a + sum ks
last-ends a [] = omega arith
last-ends a (k ∷ ks) = last-ends (a + k) ks ∙ omega (arith, sum-cons k ks)

pub rises-ends : (a : ℕ) (ks : List ℕ) → rises_from a (ends a ks) ≡ true
rises-ends a [] = refl
rises-ends a (k ∷ ks) =
    ap (λ (b : Bool). b && rises_from (a + k) (ends (a + k) ks)) (le-leb a (a + k) (omega arith)) ∙ rises-ends (a + k) ks

pub ends-more : (a k : ℕ) (ks : List ℕ) → ends a (ks ++ k ∷ []) ≡ ends a ks ++ (a + sum ks + k) ∷ []
ends-more a k [] = ap (λ (j : ℕ). j ∷ []) (omega arith)
ends-more a k (j ∷ ks) =
    let last : a + j + sum ks + k ≡ a + sum (j ∷ ks) + k = omega (arith, sum-cons j ks) in
    ap (λ (l : List ℕ). (a + j) ∷ l) (ends-more (a + j) k ks ∙ ap (λ (x : ℕ). ends (a + j) ks ++ x ∷ []) last)

-- offsets of so many pieces
pub joined_are_offsets : (ks : List ℕ) (end : ℕ) → sum ks ≤ end → AreOffsets (length ks) end (joined_offsets ks)
joined_are_offsets ks end le = record {
  count = ap suc (length-ends 0 ks);
  rise = ap (λ (b : Bool). b && rises_from 0 (ends 0 ks)) (le-leb 0 0 (omega arith)) ∙ rises-ends 0 ks;
  within = omega (arith, last-ends 0 ks, le);
}

-- ---- offsets of pieces that are joined

pub length-joined : {A : Type 0} (ps : List (List A)) → length (flat_map (λ p. p) ps) ≡ sum (map length ps)
length-joined [] = refl
length-joined {A = A} (p ∷ ps) =
    length-append p (flat_map (λ (p : List A). p) ps) ∙ ap (λ j. length p + j) (length-joined ps) ∙ sym (sum-cons (length p) (map length ps))

slice_first : {A : Type 0} (a : ℕ) (p ys xs : List A) → drop a xs ≡ p ++ ys → slice_range xs a (a + length p) ≡ p
slice_first {A = A} a p ys xs e =
    let span : (a + length p) - a ≡ length p = omega arith in
    ap (λ j. take j (drop a xs)) span ∙ ap (take (length p)) e ∙ take_at p ys (length p) refl

drop_first : {A : Type 0} (a : ℕ) (p ys xs : List A) → drop a xs ≡ p ++ ys → drop (a + length p) xs ≡ ys
drop_first {A = A} a p ys xs e =
    sym (drop-drop (length p) a xs) ∙ ap (drop (length p)) e ∙ drop_at p ys (length p) refl

pieces-ends : {A : Type 0} (a : ℕ) (ps : List (List A)) (xs : List A) → drop a xs ≡ flat_map (λ p. p) ps
    → pieces (a ∷ ends a (map length ps)) xs ≡ ps
pieces-ends a [] xs e = refl
pieces-ends {A = A} a (p ∷ ps) xs e =
    let ys : List A = flat_map (λ (p : List A). p) ps in
    ap (λ (l : List A). l ∷ pieces ((a + length p) ∷ ends (a + length p) (map length ps)) xs) (slice_first a p ys xs e)
    ∙ ap (λ (l : List (List A)). p ∷ l) (pieces-ends (a + length p) ps xs (drop_first a p ys xs e))

-- pieces that are joined are cut there again
pub pieces_joined : {A : Type 0} (ps : List (List A)) → pieces (joined_offsets (map length ps)) (flat_map (λ p. p) ps) ≡ ps
pieces_joined ps = pieces-ends 0 ps (flat_map (λ p. p) ps) refl

-- ---- offsets that are made one by one

-- what is made of the pieces at these places, which end there
pub record AreJoinedAt (f : ℕ → ℕ) (ps : List ℕ) (os : List ℕ) (end : ℕ) : Type 0 where
  pub same : os ≡ joined_offsets (map f ps)
  pub total : end ≡ sum (map f ps)

pub joined_last : (f : ℕ → ℕ) (ps os : List ℕ) (end : ℕ) → AreJoinedAt f ps os end → last_from 0 os ≡ end
joined_last f ps os end h = ap (last_from 0) h.same ∙ last-ends 0 (map f ps) ∙ omega (arith, h.total)

pub joined_none : (f : ℕ → ℕ) (os : List ℕ) → os ≡ 0 ∷ [] → AreJoinedAt f [] os 0
joined_none f os e = record { same = e; total = refl }

pub joined_more : (f : ℕ → ℕ) (ps os new : List ℕ) (p end next : ℕ) → AreJoinedAt f ps os end → next ≡ end + f p
    → new ≡ os ++ next ∷ [] → AreJoinedAt f (ps ++ p ∷ []) new next
joined_more f ps os new p end next h n e =
    let long : next ≡ sum (map f ps) + f p = omega (arith, n, h.total) in
    let more : map f (ps ++ p ∷ []) ≡ map f ps ++ f p ∷ [] = map-append f ps (p ∷ []) in
    record {
      same = e ∙ ap (λ (l : List ℕ). l ++ next ∷ []) h.same
          ∙ ap (λ (j : ℕ). joined_offsets (map f ps) ++ j ∷ []) (omega (arith, long))
          ∙ ap (λ (l : List ℕ). 0 ∷ l) (sym (ends-more 0 (f p) (map f ps)))
          ∙ ap joined_offsets (sym more);
      total = long ∙ omega (arith, sum_by-append (λ x. x) (map f ps) (f p ∷ []), sum-cons (f p) []) ∙ ap sum (sym more);
    }

-- ---- the offsets of pieces that a mask keeps

-- what is made of the first i, which ends at most where the next of the others starts
pub record AreFilteredAt (from : List ℕ) (m : List Bool) (i : ℕ) (os : List ℕ) (end : ℕ) : Type 0 where
  pub joined : AreJoinedAt (size_at from) (places_of (take i m)) os end
  pub fits : end ≤ get_or from i 0

pub filtered_none : (from : List ℕ) (m : List Bool) (os : List ℕ) → os ≡ 0 ∷ [] → AreFilteredAt from m 0 os 0
filtered_none from m os e = record { joined = joined_none (size_at from) os e; fits = omega arith }

next_size : (from : List ℕ) (i : ℕ) → never_fall from ≡ true → suc i < length from
    → get_or from i 0 + size_at from i ≡ get_or from (i + 1) 0
next_size from i h l =
    let far : get_or from (suc i) 0 ≡ get_or from (i + 1) 0 = ap (λ j. get_or from j 0) (omega arith) in
    omega (arith, offset_rises 0 from i h l, far)

pub filtered_fits : (from : List ℕ) (m : List Bool) (i : ℕ) (os : List ℕ) (end a b : ℕ) → AreFilteredAt from m i os end
    → never_fall from ≡ true → slice_get from i ≡ Some a → slice_get from (suc i) ≡ Some b → (a ≤ b) × (end + (b - a) ≤ b)
filtered_fits from m i os end a b h r e f =
    let here : get_or from i 0 ≡ a = get_or_from_slice_get from i a 0 e in
    let there : get_or from (suc i) 0 ≡ b = get_or_from_slice_get from (suc i) b 0 f in
    let rise = ends_within 0 from i a b r e f in
    (rise.0, omega (arith, h.fits, here, rise.0))

pub filtered_yes : (from : List ℕ) (m : List Bool) (i : ℕ) (os new : List ℕ) (end a b next : ℕ) → AreFilteredAt from m i os end
    → never_fall from ≡ true → i < length m → suc (length m) ≡ length from → get_or m i false ≡ true
    → slice_get from i ≡ Some a → slice_get from (suc i) ≡ Some b → next ≡ end + (b - a) → new ≡ os ++ next ∷ []
    → AreFilteredAt from m (i + 1) new next
filtered_yes from m i os new end a b next h r lt l t e f n s =
    let here : get_or from i 0 ≡ a = get_or_from_slice_get from i a 0 e in
    let there : get_or from (suc i) 0 ≡ b = get_or_from_slice_get from (suc i) b 0 f in
    let more : places_of (take (i + 1) m) ≡ places_of (take i m) ++ i ∷ [] =
    places_more m i lt ∙ ap (λ (b : Bool). places_of (take i m) ++ (if b then i ∷ [] else [])) t in
    let size : size_at from i ≡ b - a = ap (λ j. get_or from (suc i) 0 - j) here ∙ ap (λ j. j - a) there in
    record {
      joined = subst (λ ps. AreJoinedAt (size_at from) ps new next) (sym more)
          (joined_more (size_at from) (places_of (take i m)) os new i end next h.joined (n ∙ ap (λ j. end + j) (sym size)) s);
      fits = omega (arith, n, size, h.fits, next_size from i r (omega (arith, lt, l)));
    }

pub filtered_no : (from : List ℕ) (m : List Bool) (i : ℕ) (os : List ℕ) (end : ℕ) → AreFilteredAt from m i os end
    → never_fall from ≡ true → i < length m → suc (length m) ≡ length from → get_or m i false ≡ false
    → AreFilteredAt from m (i + 1) os end
filtered_no from m i os end h r lt l t =
    let more : places_of (take (i + 1) m) ≡ places_of (take i m) =
    places_more m i lt ∙ ap (λ (b : Bool). places_of (take i m) ++ (if b then i ∷ [] else [])) t ∙ append-nil (places_of (take i m)) in
    record {
      joined = subst (λ ps. AreJoinedAt (size_at from) ps os end) (sym more) h.joined;
      fits = omega (arith, h.fits, next_size from i r (omega (arith, lt, l)));
    }

-- ---- the offsets of pieces at places

-- how long a piece is by its bounds, which is shown
pub shown_whole : (v : Validity) (os : List ℕ) (i a b : ℕ) → is_shown v i ≡ true → slice_get os i ≡ Some a → slice_get os (suc i) ≡ Some b
    → b - a ≡ shown_size v os i
shown_whole v os i a b t e f =
    let here : get_or os i 0 ≡ a = get_or_from_slice_get os i a 0 e in
    let there : get_or os (suc i) 0 ≡ b = get_or_from_slice_get os (suc i) b 0 f in
    sym (ap (λ (s : Bool). if s then size_at os i else 0) t ∙ ap (λ j. get_or os (suc i) 0 - j) here ∙ ap (λ j. j - a) there)

pub hidden_none : (v : Validity) (os : List ℕ) (i : ℕ) → is_shown v i ≡ false → 0 ≡ shown_size v os i
hidden_none v os i t = sym (ap (λ (s : Bool). if s then size_at os i else 0) t)

-- one more piece, of a size
pub sized_more : (f : ℕ → ℕ) (places : List ℕ) (i p : ℕ) (os new : List ℕ) (end size next : ℕ)
    → AreJoinedAt f (take i places) os end → i < length places → p ≡ get_or places i 0 → size ≡ f p
    → next ≡ end + size → new ≡ os ++ next ∷ [] → AreJoinedAt f (take (i + 1) places) new next
sized_more f places i p os new end size next h lt at e n s =
    let more : take (i + 1) places ≡ take i places ++ p ∷ [] =
    take_more places i 0 lt ∙ ap (λ (j : ℕ). take i places ++ j ∷ []) (sym at) in
    subst (λ ps. AreJoinedAt f ps new next) (sym more)
    (joined_more f (take i places) os new p end next h (n ∙ ap (λ j. end + j) e) s)

-- where one more piece passes, all of them do
pub sized_large : (f : ℕ → ℕ) (places : List ℕ) (i p : ℕ) (os : List ℕ) (end size most : ℕ)
    → AreJoinedAt f (take i places) os end → i < length places → p ≡ get_or places i 0 → size ≡ f p
    → most ≤ end + size → most ≤ sum (map f places)
sized_large f places i p os end size most h lt at e l =
    let next : AreJoinedAt f (take (i + 1) places) (os ++ (end + size) ∷ []) (end + size) =
    sized_more f places i p os (os ++ (end + size) ∷ []) end size (end + size) h lt at e refl refl in
    let front : sum (map f (take (i + 1) places)) ≡ sum (take (i + 1) (map f places)) =
    ap sum (sym (take-map f (i + 1) places)) in
    omega (arith, l, next.total, front, sum_by-take-le (λ x. x) (map f places) (i + 1))

-- ---- pieces at places

pub pieces_get : {A : Type 0} (os : List ℕ) (xs : List A) (p : ℕ) → suc p < length os
    → get_or (pieces os xs) p [] ≡ slice_range xs (get_or os p 0) (get_or os (suc p) 0)
pieces_get [] xs p l = absurd (omega (arith, l))
pieces_get (o ∷ []) xs p l = absurd (omega (arith, l))
pieces_get (o ∷ (q ∷ os)) xs zero l = refl
pieces_get (o ∷ (q ∷ os)) xs (suc p) l = pieces_get (q ∷ os) xs p (omega (arith, l))

pub offset_last : (a : ℕ) (os : List ℕ) (p : ℕ) → rises_from a os ≡ true → p < length os → get_or os p 0 ≤ last_from a os
offset_last a [] p h l = absurd (omega (arith, l))
offset_last a (o ∷ os) zero h l = least_last o os (step a o os h).1
offset_last a (o ∷ os) (suc p) h l = offset_last o os p (step a o os h).1 (omega (arith, l))

pub piece_size : {A : Type 0} (os : List ℕ) (xs : List A) (p : ℕ) → never_fall os ≡ true → last_from 0 os ≤ length xs
    → suc p < length os → length (get_or (pieces os xs) p []) ≡ size_at os p
piece_size os xs p r w l =
    ap length (pieces_get os xs p l)
    ∙ omega (arith, length-take (size_at os p) (drop (get_or os p 0) xs), length-drop (get_or os p 0) xs, offset_last 0 os (suc p) r l, offset_rises 0 os p r l, w)

-- a piece that is hidden has no length
pub shown_length : {A : Type 0} (v : Validity) (os : List ℕ) (xs : List A) (p : ℕ) → never_fall os ≡ true
    → last_from 0 os ≤ length xs → suc p < length os → length (shown_piece v (pieces os xs) p) ≡ shown_size v os p
shown_length {A = A} v os xs p r w l = by (is_shown v p)
  where
    by : (b : Bool) → length (if b then get_or (pieces os xs) p [] else []) ≡ (if b then size_at os p else 0)
    by true = piece_size os xs p r w l
    by false = refl

pub sizes_taken : {A : Type 0} (v : Validity) (os : List ℕ) (xs : List A) (places : List ℕ) → never_fall os ≡ true
    → last_from 0 os ≤ length xs → AllByRecursion (λ p. suc p < length os) places
    → map length (taken_pieces v places (pieces os xs)) ≡ map (shown_size v os) places
sizes_taken v os xs [] r w b = refl
sizes_taken v os xs (p ∷ places) r w b =
    ap (λ (j : ℕ). j ∷ map length (taken_pieces v places (pieces os xs))) (shown_length v os xs p r w b.0)
    ∙ ap (λ (l : List ℕ). shown_size v os p ∷ l) (sizes_taken v os xs places r w b.1)

all_ends : (n k : ℕ) (places : List ℕ) → k ≡ suc n → All (λ p. p < n) places → AllByRecursion (λ p. suc p < k) places
all_ends n k [] e h = tt
all_ends n k (p ∷ places) e h =
    let first : p < n = All-get_or (λ p. p < n) (p ∷ places) 0 0 (omega arith) h in
    (omega (arith, first, e), all_ends n k places e (All-tail (λ p. p < n) p places h))

pub all_bounds : (n k : ℕ) (places : List ℕ) → k ≡ suc n → All (λ p. p < n) places → All (λ p. suc p < k) places
all_bounds n k places e h =
    All-from_get_or (λ p. suc p < k) places 0 (λ i l. omega (arith, e, All-get_or (λ p. p < n) places i 0 l h))

-- what is taken of texts
pub texts_taken : (v : Validity) (os bytes new joined copy part places : List ℕ) → AreTexts (record { offsets = os; bytes = bytes })
    → All (λ p. p < length (pieces os bytes)) places → new ≡ joined_offsets (map (shown_size v os) places)
    → joined ≡ flat_map (shown_piece v (pieces os bytes)) places → copy ≡ joined → part ≡ copy → IsBytes part
    → AreTexts (record { offsets = new; bytes = copy }) × (pieces new copy ≡ taken_pieces v places (pieces os bytes))
texts_taken v os bytes new joined copy part places h b e j c s low =
    let ps = pieces os bytes in
    let ws : List (List ℕ) = taken_pieces v places ps in
    let sizes : map length ws ≡ map (shown_size v os) places =
    sizes_taken v os bytes places h.offsets.rise h.offsets.within (all_ends (length ps) (length os) places h.offsets.count b) in
    let all : copy ≡ flat_map (λ w. w) ws = c ∙ j ∙ sym (flat_map-map (λ (w : List ℕ). w) (shown_piece v ps) places) in
    let from : new ≡ joined_offsets (map length ws) = e ∙ ap joined_offsets (sym sizes) in
    let long : length copy ≡ sum (map length ws) = ap length all ∙ length-joined ws in
    let shape : AreOffsets (length (map length ws)) (length copy) new =
    rw from (joined_are_offsets (map length ws) (length copy) (omega (arith, long))) in (
      texts_made new copy part (omega (arith, shape.count)) shape.rise shape.within s low,
      ap (λ l. pieces l copy) from ∙ ap (pieces (joined_offsets (map length ws))) all ∙ pieces_joined ws,
    )

pub texts_large : (v : Validity) (os bytes places : List ℕ) (most : ℕ) → AreTexts (record { offsets = os; bytes = bytes })
    → All (λ p. p < length (pieces os bytes)) places → most ≤ sum (map (shown_size v os) places)
    → most ≤ length (flat_map (λ p. p) (taken_pieces v places (pieces os bytes)))
texts_large v os bytes places most h b l =
    let ps = pieces os bytes in
    let sizes : map length (taken_pieces v places ps) ≡ map (shown_size v os) places =
    sizes_taken v os bytes places h.offsets.rise h.offsets.within (all_ends (length ps) (length os) places h.offsets.count b) in
    omega (arith, l, ap sum sizes, length-joined (taken_pieces v places ps))

bytes_more : (f : ℕ → List ℕ) (places : List ℕ) (i : ℕ) (row before after : List ℕ) → i < length places
    → f (get_or places i 0) ≡ row → before ≡ flat_map f (take i places) → after ≡ before ++ row
    → after ≡ flat_map f (take (i + 1) places)
bytes_more f places i row before after lt e b a =
    a ∙ ap (λ (l : List ℕ). l ++ row) b
    ∙ ap (λ (l : List ℕ). flat_map f (take i places) ++ l) (sym e ∙ sym (append-nil (f (get_or places i 0))))
    ∙ sym (flat_map-append f (take i places) (get_or places i 0 ∷ [])) ∙ ap (flat_map f) (sym (take_more places i 0 lt))

pub bytes_shown : (v : Validity) (ps : List (List ℕ)) (places : List ℕ) (i : ℕ) (row before after : List ℕ) → i < length places
    → is_shown v (get_or places i 0) ≡ true → slice_get ps (get_or places i 0) ≡ Some row
    → before ≡ flat_map (shown_piece v ps) (take i places) → after ≡ before ++ row
    → after ≡ flat_map (shown_piece v ps) (take (i + 1) places)
bytes_shown v ps places i row before after lt t e b a =
    bytes_more (shown_piece v ps) places i row before after lt
    (ap (λ (b : Bool). if b then get_or ps (get_or places i 0) [] else []) t ∙ get_or_from_slice_get ps (get_or places i 0) row [] e) b a

pub bytes_hidden : (v : Validity) (ps : List (List ℕ)) (places : List ℕ) (i : ℕ) (before : List ℕ) → i < length places
    → is_shown v (get_or places i 0) ≡ false → before ≡ flat_map (shown_piece v ps) (take i places)
    → before ≡ flat_map (shown_piece v ps) (take (i + 1) places)
bytes_hidden v ps places i before lt t b =
    bytes_more (shown_piece v ps) places i [] before before lt
    (ap (λ (b : Bool). if b then get_or ps (get_or places i 0) [] else []) t) b (sym (append-nil before))

-- the same of what is held, where t is what it is seen as
pub held_taken : (v : Validity) (os bytes new joined copy part places : List ℕ) (t : TextBytes) → record { offsets = os; bytes = bytes } ≡ t
    → AreTexts (record { offsets = os; bytes = bytes })
    → All (λ p. p < length (text_pieces t)) places → new ≡ joined_offsets (map (shown_size v os) places)
    → joined ≡ flat_map (shown_piece v (text_pieces t)) places → copy ≡ joined → part ≡ copy → IsBytes part
    → AreTexts (record { offsets = new; bytes = copy }) × (pieces new copy ≡ taken_pieces v places (text_pieces t))
held_taken v os bytes new joined copy part places t is h b e j c s low =
    let same : pieces os bytes ≡ text_pieces t = ap text_pieces is in
    let found = texts_taken v os bytes new joined copy part places h
    (subst (λ (ps : List (List ℕ)). All (λ p. p < length ps) places) (sym same) b) e
    (subst (λ (ps : List (List ℕ)). joined ≡ flat_map (shown_piece v ps) places) (sym same) j) c s low in
    (found.0, found.1 ∙ ap (taken_pieces v places) same)

pub held_large : (v : Validity) (os bytes places : List ℕ) (most : ℕ) (t : TextBytes) → record { offsets = os; bytes = bytes } ≡ t
    → AreTexts (record { offsets = os; bytes = bytes }) → All (λ p. p < length (text_pieces t)) places
    → most ≤ sum (map (shown_size v os) places) → most ≤ length (flat_map (λ p. p) (taken_pieces v places (text_pieces t)))
held_large v os bytes places most t is h b l =
    let same : pieces os bytes ≡ text_pieces t = ap text_pieces is in
    subst (λ (ps : List (List ℕ)). most ≤ length (flat_map (λ (p : List ℕ). p) (taken_pieces v places ps))) same
    (texts_large v os bytes places most h (subst (λ (ps : List (List ℕ)). All (λ p. p < length ps) places) (sym same) b) l)

pub held_bounds : (os bytes places : List ℕ) (t : TextBytes) → record { offsets = os; bytes = bytes } ≡ t
    → AreTexts (record { offsets = os; bytes = bytes }) → All (λ p. p < length (text_pieces t)) places
    → All (λ p. suc p < length os) places
held_bounds os bytes places t v h b =
    all_bounds (length (pieces os bytes)) (length os) places h.offsets.count
    (subst (λ (t : TextBytes). All (λ p. p < length (text_pieces t)) places) (sym v) b)
