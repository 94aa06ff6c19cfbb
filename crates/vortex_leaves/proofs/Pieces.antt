-- Offsets that are made one by one, and the pieces between them.
use Rattle.std.proofs.Common.{get_or, if◌then◌else◌, Some, None, ◌≡◌, ◌≤◌, ◌<◌, ◌+◌, ◌-◌, ◌*◌, ◌^◌, ℕ, zero, suc, List, [], ◌∷◌, ◌++◌, Bool, true, false, map, length, take, drop, refl, sym, ap, ◌∙◌, arith, length-append, subst}
use Rattle.std.specs.Prelude.{slice_get, slice_range, ◌&&◌, IsTrue}
use Rattle.std.specs.Int.{w32}
use Rattle.std.specs.Simd.{first_chunks}
use Rattle.std.proofs.lemmas.Bool.{le-leb}
use Rattle.std.proofs.lemmas.List.{length-take, length-drop, drop_at, take_all, drop_all, take-append-le, drop-append-le, append-nil}
use Rattle.vortex_number.specs.Format.{le_bytes, number_of_le_bytes}
use Rattle.vortex_number.specs.inner.FormatLaws.{number_of_le_bytes-le_bytes, length-le_bytes}
use Rattle.vortex_terms.specs.FromColumns.{pieces, last_from}
use Rattle.vortex_node_rows.specs.Buffers.{rises_from, never_fall, numbers_32}
use Rattle.std.proofs.lemmas.Option.{get_or_from_slice_get}
use Rattle.vortex_mask.specs.Truths.{kept}
use Rattle.vortex_mask.proofs.Filters.{kept_more}
use Rattle.vortex_terms.specs.Types.{IsBytes}
use Rattle.vortex_leaves.specs.Texts.{AreTexts, TextBytes, text_pieces}
use Rattle.vortex_leaves.proofs.Rising.{step, least_last, texts_hold}
use Rattle.vortex_leaves.proofs.Ranges.{rises_take, rises_drop}

-- ---- one more offset

chunks_more : (w n : ℕ) (bytes c : List ℕ) → length bytes ≡ n * w → length c ≡ w
    → first_chunks w (suc n) (bytes ++ c) ≡ first_chunks w n bytes ++ c ∷ []
chunks_more w zero [] c e l = ap (λ (d : List ℕ). d ∷ []) (take_all w c (omega (arith, l)))
chunks_more w zero (b ∷ bytes) c e l = absurd (omega (arith, e))
chunks_more w (suc n) bytes c e l =
    let room : w ≤ length bytes = omega (arith, e) in
    let first : take w (bytes ++ c) ≡ take w bytes = take-append-le w bytes c room in
    let rest : drop w (bytes ++ c) ≡ drop w bytes ++ c = drop-append-le w bytes c room in
    let others : first_chunks w (suc n) (drop w bytes ++ c) ≡ first_chunks w n (drop w bytes) ++ c ∷ [] =
    chunks_more w n (drop w bytes) c (omega (arith, length-drop w bytes, e)) l in
    ap (λ (d : List ℕ). d ∷ first_chunks w (suc n) (drop w (bytes ++ c))) first
    ∙ ap (λ (l : List ℕ). take w bytes ∷ first_chunks w (suc n) l) rest
    ∙ ap (λ (l : List (List ℕ)). take w bytes ∷ l) others

map-more : {A B : Type 0} (f : A → B) (xs : List A) (x : A) → map f (xs ++ x ∷ []) ≡ map f xs ++ f x ∷ []
map-more f [] x = refl
map-more f (y ∷ xs) x = ap (λ l. f y ∷ l) (map-more f xs x)

pub numbers_more : (n : ℕ) (bytes c : List ℕ) (o : ℕ) → length bytes ≡ n * 4 → c ≡ le_bytes w32 o → o < 2 ^ 32
    → numbers_32 (suc n) (bytes ++ c) ≡ numbers_32 n bytes ++ o ∷ []
numbers_more n bytes c o e is few =
    let four : length c ≡ 4 = ap length is ∙ length-le_bytes w32 o in
    ap (map (number_of_le_bytes w32)) (chunks_more 4 n bytes c e four)
    ∙ map-more (number_of_le_bytes w32) (first_chunks 4 n bytes) c
    ∙ ap (λ (j : ℕ). numbers_32 n bytes ++ j ∷ []) (ap (number_of_le_bytes w32) is ∙ number_of_le_bytes-le_bytes w32 o few)

pub rises_more : (a o : ℕ) (os : List ℕ) → rises_from a os ≡ true → last_from a os ≤ o → rises_from a (os ++ o ∷ []) ≡ true
rises_more a o [] h l = ap (λ (b : Bool). b && true) (le-leb a o l)
rises_more a o (p ∷ os) h l =
    let s = step a p os h in
    ap (λ (b : Bool). b && rises_from p (os ++ o ∷ [])) (le-leb a p s.0) ∙ rises_more p o os s.1 l

pub last_more : (a o : ℕ) (os : List ℕ) → last_from a (os ++ o ∷ []) ≡ o
last_more a o [] = refl
last_more a o (p ∷ os) = last_more p o os

-- ---- one more piece

range_before : {A : Type 0} (xs p : List A) (a b : ℕ) → a ≤ b → b ≤ length xs → slice_range (xs ++ p) a b ≡ slice_range xs a b
range_before xs p a b le hi =
    ap (take (b - a)) (drop-append-le a xs p (omega (arith, le, hi)))
    ∙ take-append-le (b - a) (drop a xs) p (omega (arith, length-drop a xs, le, hi))

range_last : {A : Type 0} (xs p : List A) (a b : ℕ) → a ≡ length xs → b ≡ length xs + length p → slice_range (xs ++ p) a b ≡ p
range_last xs p a b e f =
    ap (take (b - a)) (drop_at xs p a (sym e)) ∙ take_all (b - a) p (omega (arith, e, f))

-- the last offset is where the list ends, and goes on to where it ends with one more piece
pub pieces_more : {A : Type 0} (a o : ℕ) (os : List ℕ) (xs p : List A) → rises_from a os ≡ true → last_from a os ≡ length xs
    → o ≡ length xs + length p → pieces (a ∷ os ++ o ∷ []) (xs ++ p) ≡ pieces (a ∷ os) xs ++ p ∷ []
pieces_more {A = A} a o [] xs p h l e = ap (λ (q : List A). q ∷ []) (range_last xs p a o l e)
pieces_more {A = A} a o (b ∷ os) xs p h l e =
    let s = step a b os h in
    let within : b ≤ length xs = omega (arith, l, rises_to b os s.1) in
    ap (λ (q : List A). q ∷ pieces (b ∷ os ++ o ∷ []) (xs ++ p)) (range_before xs p a b s.0 within)
    ∙ ap (λ (l : List (List A)). slice_range xs a b ∷ l) (pieces_more b o os xs p s.1 l e)
  where
    rises_to : (a : ℕ) (os : List ℕ) → rises_from a os ≡ true → a ≤ last_from a os
    rises_to a [] h = omega arith
    rises_to a (o ∷ os) h = omega (arith, (step a o os h).0, rises_to o os (step a o os h).1)

pub pieces_grown : {A : Type 0} (o : ℕ) (os : List ℕ) (xs p : List A) → 1 ≤ length os → never_fall os ≡ true
    → last_from 0 os ≡ length xs → o ≡ length xs + length p → pieces (os ++ o ∷ []) (xs ++ p) ≡ pieces os xs ++ p ∷ []
pieces_grown o [] xs p some h l e = absurd (omega (arith, some))
pieces_grown o (a ∷ os) xs p some h l e = pieces_more a o os xs p (step 0 a os h).1 l e

-- ---- pieces and their offsets

none_some : {A : Type 0} (x : A) → None ≡ Some x → ⊥
none_some x e = cc

same : {A : Type 0} (x y : A) → Some x ≡ Some y → x ≡ y
same x y e = cc

pub piece_fits : {A : Type 0} (a : ℕ) (os : List ℕ) (xs : List A) (i : ℕ) (p : List A) → rises_from a os ≡ true
    → slice_get (pieces os xs) i ≡ Some p → get_or os i 0 + length p ≤ get_or os (suc i) 0
piece_fits a [] xs i p h e = absurd (none_some p e)
piece_fits a (o ∷ []) xs i p h e = absurd (none_some p e)
piece_fits a (o ∷ (q ∷ os)) xs zero p h e =
    let long : length (slice_range xs o q) ≡ length p = ap length (same (slice_range xs o q) p e) in
    omega (arith, long, length-take (q - o) (drop o xs), (step o q os (step a o (q ∷ os) h).1).0)
piece_fits a (o ∷ (q ∷ os)) xs (suc i) p h e = piece_fits o (q ∷ os) xs i p (step a o (q ∷ os) h).1 e

pub offset_rises : (a : ℕ) (os : List ℕ) (i : ℕ) → rises_from a os ≡ true → suc i < length os → get_or os i 0 ≤ get_or os (suc i) 0
offset_rises a [] i h l = absurd (omega (arith, l))
offset_rises a (o ∷ []) i h l = absurd (omega (arith, l))
offset_rises a (o ∷ (q ∷ os)) zero h l = (step o q os (step a o (q ∷ os) h).1).0
offset_rises a (o ∷ (q ∷ os)) (suc i) h l = offset_rises o (q ∷ os) i (step a o (q ∷ os) h).1 (omega (arith, l))

-- ---- the pieces that a mask keeps

-- what is made of the first i
pub record AreKept {A : Type 0} (m : List Bool) (from : List ℕ) (xs : List A) (i : ℕ) (os : List ℕ) (ys : List A) : Type 0 where
  pub same : pieces os ys ≡ kept (take i m) (take i (pieces from xs))
  pub some : 1 ≤ length os
  pub rise : never_fall os ≡ true
  pub last : last_from 0 os ≡ length ys
  pub fits : length ys ≤ get_or from i 0

pub kept_none : {A : Type 0} (m : List Bool) (from : List ℕ) (xs : List A) (os : List ℕ) → os ≡ 0 ∷ [] → AreKept m from xs 0 os []
kept_none m from xs os e = rw e (record { same = refl; some = omega arith; rise = refl; last = refl; fits = omega arith })

pub kept_room : {A : Type 0} (m : List Bool) (from : List ℕ) (xs : List A) (i most : ℕ) (os : List ℕ) (ys zs p : List A)
    → AreKept m from xs i os ys → never_fall from ≡ true → slice_get (pieces from xs) i ≡ Some p
    → slice_get from (suc i) ≡ Some most → zs ≡ ys ++ p → length zs ≤ most
kept_room m from xs i most os ys zs p h r e f z =
    let next : get_or from (suc i) 0 ≡ most = get_or_from_slice_get from (suc i) most 0 f in
    omega (arith, ap length z, length-append ys p, h.fits, piece_fits 0 from xs i p r e, next)

pub kept_yes : {A : Type 0} (m : List Bool) (from : List ℕ) (xs : List A) (i o : ℕ) (os qs : List ℕ) (ys zs p : List A)
    → AreKept m from xs i os ys → never_fall from ≡ true → length m ≡ length (pieces from xs) → i < length (pieces from xs)
    → get_or m i false ≡ true → slice_get (pieces from xs) i ≡ Some p → zs ≡ ys ++ p → o ≡ length zs
    → qs ≡ os ++ o ∷ [] → AreKept m from xs (i + 1) qs zs
kept_yes m from xs i o os qs ys zs p h r l lt b e z end q =
    let ps = pieces from xs in
    let at : get_or ps i [] ≡ p = get_or_from_slice_get ps i p [] e in
    let more : kept (take (i + 1) m) (take (i + 1) ps) ≡ kept (take i m) (take i ps) ++ p ∷ [] =
    kept_more m ps i [] l lt
    ∙ ap (λ c. kept (take i m) (take i ps) ++ (if c then get_or ps i [] ∷ [] else [])) b
    ∙ ap (λ c. kept (take i m) (take i ps) ++ c ∷ []) at in
    let far : get_or from (suc i) 0 ≡ get_or from (i + 1) 0 = ap (λ j. get_or from j 0) (omega arith) in
    let long : o ≡ length ys + length p = end ∙ ap length z ∙ length-append ys p in
    let made : pieces (os ++ o ∷ []) (ys ++ p) ≡ kept (take (i + 1) m) (take (i + 1) ps) =
    pieces_grown o os ys p h.some h.rise h.last long ∙ ap (λ c. c ++ p ∷ []) h.same ∙ sym more in
    rw (q, z) (record {
      same = made;
      some = omega (arith, length-append os (o ∷ []));
      rise = rises_more 0 o os h.rise (omega (arith, h.last, long));
      last = last_more 0 o os ∙ long ∙ sym (length-append ys p);
      fits = omega (arith, length-append ys p, h.fits, piece_fits 0 from xs i p r e, far);
    })

pub kept_no : {A : Type 0} (m : List Bool) (from : List ℕ) (xs : List A) (i : ℕ) (os : List ℕ) (ys : List A)
    → AreKept m from xs i os ys → never_fall from ≡ true → length m ≡ length (pieces from xs) → i < length (pieces from xs)
    → get_or m i false ≡ false → i + 1 < length from → AreKept m from xs (i + 1) os ys
kept_no m from xs i os ys h r l lt b room =
    let ps = pieces from xs in
    let more : kept (take (i + 1) m) (take (i + 1) ps) ≡ kept (take i m) (take i ps) =
    kept_more m ps i [] l lt
    ∙ ap (λ c. kept (take i m) (take i ps) ++ (if c then get_or ps i [] ∷ [] else [])) b
    ∙ append-nil (kept (take i m) (take i ps)) in
    let far : get_or from (suc i) 0 ≡ get_or from (i + 1) 0 = ap (λ j. get_or from j 0) (omega arith) in
    record { same = h.same ∙ sym more; some = h.some; rise = h.rise; last = h.last; fits = omega (arith, h.fits, offset_rises 0 from i r (omega (arith, room)), far) }

-- ---- offsets that are made

pub push_more : (n : ℕ) (old new c : List ℕ) (os : List ℕ) (o : ℕ) → numbers_32 (suc n) old ≡ os
    → (length old ≡ suc n * 4) × IsTrue (never_fall (numbers_32 (suc n) old)) → c ≡ le_bytes w32 o
    → o < 2 ^ 32 → new ≡ old ++ c → numbers_32 (suc (n + 1)) new ≡ os ++ o ∷ []
push_more n old new c os o v h is few e =
    let next : suc (n + 1) ≡ suc (suc n) = omega arith in
    ap (λ j. numbers_32 j new) next ∙ ap (numbers_32 (suc (suc n))) e
    ∙ numbers_more (suc n) old c o h.0 is few ∙ ap (λ (l : List ℕ). l ++ o ∷ []) v

pub push_holds : (n : ℕ) (old new c : List ℕ) (os : List ℕ) (o : ℕ) → numbers_32 (suc n) old ≡ os
    → (length old ≡ suc n * 4) × IsTrue (never_fall (numbers_32 (suc n) old)) → last_from 0 os ≤ o → c ≡ le_bytes w32 o
    → o < 2 ^ 32 → new ≡ old ++ c
    → (length new ≡ suc (n + 1) * 4) × IsTrue (never_fall (numbers_32 (suc (n + 1)) new))
push_holds n old new c os o v h l is few e =
    let next : suc (n + 1) ≡ suc (suc n) = omega arith in
    let more : numbers_32 (suc (n + 1)) new ≡ os ++ o ∷ [] = push_more n old new c os o v h is few e in
    let rise : never_fall os ≡ true = ap never_fall (sym v) ∙ h.1 in
    (omega (arith, ap length e, length-append old c, h.0, ap length is, length-le_bytes w32 o), ap never_fall more ∙ rises_more 0 o os rise l)

-- ---- texts that are made

pub texts_made : (os bytes part : List ℕ) → 1 ≤ length os → never_fall os ≡ true → last_from 0 os ≤ length bytes
    → part ≡ bytes → IsBytes part → AreTexts (record { offsets = os; bytes = bytes })
texts_made [] bytes part some rise last e b = absurd (omega (arith, some))
texts_made (a ∷ os) bytes part some rise last e b =
    texts_hold (length os) (a ∷ os) bytes (record { count = refl; rise = rise; within = last }) (subst IsBytes e b)

pub kept_made : (m : List Bool) (from xs : List ℕ) (i : ℕ) (made os ys bytes part : List ℕ) → AreKept m from xs i made ys
    → os ≡ made → bytes ≡ ys → part ≡ bytes → IsBytes part → AreTexts (record { offsets = os; bytes = bytes })
kept_made m from xs i made os ys bytes part h e f p b =
    texts_made os bytes part (rw e h.some) (rw e h.rise) (rw (e, f) (omega (arith, h.last))) p b

-- ---- a range of pieces

last_take : (k a : ℕ) (os : List ℕ) → rises_from a os ≡ true → last_from a (take k os) ≤ last_from a os
last_take zero a os h = least_last a os h
last_take (suc k) a [] h = omega arith
last_take (suc k) a (o ∷ os) h = last_take k o os (step a o os h).1

pieces_take : {A : Type 0} (k : ℕ) (os : List ℕ) (xs : List A) → pieces (take (suc k) os) xs ≡ take k (pieces os xs)
pieces_take zero [] xs = refl
pieces_take zero (a ∷ []) xs = refl
pieces_take zero (a ∷ (b ∷ os)) xs = refl
pieces_take (suc k) [] xs = refl
pieces_take (suc k) (a ∷ []) xs = refl
pieces_take (suc k) (a ∷ (b ∷ os)) xs = ap (λ l. slice_range xs a b ∷ l) (pieces_take k (b ∷ os) xs)

pieces_drop : {A : Type 0} (k : ℕ) (os : List ℕ) (xs : List A) → pieces (drop k os) xs ≡ drop k (pieces os xs)
pieces_drop zero os xs = refl
pieces_drop (suc k) [] xs = refl
pieces_drop (suc k) (a ∷ []) xs = ap (λ (l : List ℕ). pieces l xs) (drop_all k [] (omega arith))
pieces_drop (suc k) (a ∷ (b ∷ os)) xs = pieces_drop k (b ∷ os) xs

pub pieces_range : {A : Type 0} (from to : ℕ) (os : List ℕ) (xs : List A) → from ≤ to
    → pieces (slice_range os from (suc to)) xs ≡ slice_range (pieces os xs) from to
pieces_range from to os xs le =
    let span : suc to - from ≡ suc (to - from) = omega (arith, le) in
    ap (λ j. pieces (take j (drop from os)) xs) span ∙ pieces_take (to - from) (drop from os) xs
    ∙ ap (take (to - from)) (pieces_drop from os xs)

last_drop : (k a : ℕ) (os : List ℕ) → k < length os → last_from a (drop k os) ≡ last_from a os
last_drop zero a os h = refl
last_drop (suc k) a [] h = absurd (omega (arith, h))
last_drop (suc k) a (o ∷ []) h = absurd (omega (arith, h))
last_drop (suc k) a (o ∷ (p ∷ os)) h = last_drop k a (p ∷ os) (omega (arith, h))

-- a range of offsets
pub offsets_range : (from to end : ℕ) (os new : List ℕ) → from ≤ to → to < length os → never_fall os ≡ true
    → last_from 0 os ≤ end → new ≡ slice_range os from (suc to)
    → (1 ≤ length new) × (never_fall new ≡ true) × (last_from 0 new ≤ end)
offsets_range from to end os new le hi h l e =
    let rest : rises_from 0 (drop from os) ≡ true = rises_drop from 0 os h in
    let last : last_from 0 (slice_range os from (suc to)) ≤ last_from 0 (drop from os) = last_take (suc to - from) 0 (drop from os) rest in
    rw e (omega (arith, length-take (suc to - from) (drop from os), length-drop from os, le, hi), rises_take (suc to - from) 0 (drop from os) rest, omega (arith, last, last_drop from 0 os (omega (arith, le, hi)), l))

pub texts_range : (from to : ℕ) (os bytes new copy part : List ℕ) → AreTexts (record { offsets = os; bytes = bytes })
    → from ≤ to → to ≤ length (pieces os bytes) → new ≡ slice_range os from (suc to) → copy ≡ bytes → part ≡ copy → IsBytes part
    → AreTexts (record { offsets = new; bytes = copy })
texts_range from to os bytes new copy part h le hi e c p b =
    let found = offsets_range from to (length bytes) os new le (omega (arith, hi, h.offsets.count)) h.offsets.rise h.offsets.within e in
    texts_made new copy part found.0 found.1 (rw c found.2) p b

pub texts_pieces : (from to : ℕ) (os bytes new copy : List ℕ) (t : TextBytes) → record { offsets = os; bytes = bytes } ≡ t
    → from ≤ to → new ≡ slice_range os from (suc to) → copy ≡ bytes
    → text_pieces (record { offsets = new; bytes = copy }) ≡ slice_range (text_pieces t) from to
texts_pieces from to os bytes new copy t v le e c =
    ap (λ l. pieces l copy) e ∙ ap (λ l. pieces (slice_range os from (suc to)) l) c ∙ pieces_range from to os bytes le
    ∙ ap (λ (t : TextBytes). slice_range (text_pieces t) from to) v
