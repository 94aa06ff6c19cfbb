-- What is picked at places that a mask keeps, or that are given, and of what is in rows.
use Rattle.std.proofs.Common.{◌≡◌, ◌≤◌, ◌<◌, ◌+◌, ◌-◌, ◌*◌, ℕ, zero, suc, List, [], ◌∷◌, ◌++◌, Bool, true, false, map, length, replicate, take, drop, get_or, if◌then◌else◌, refl, sym, ap, ◌∙◌, arith, length-append}
use Rattle.std.specs.Prelude.{slice_range}
use Rattle.std.specs.List.{flat_map}
use Rattle.std.proofs.lemmas.Grind.{flat_map-append}
use Rattle.std.proofs.lemmas.List.{append-nil, length-replicate, take_all}
use Rattle.vortex_mask.specs.Truths.{kept, places_from, places_of}
use Rattle.vortex_mask.proofs.Filters.{places-append, places_more}
use Rattle.vortex_array_data.specs.inner.Picked.{at_onto, picked, from_on}
use Rattle.vortex_array_data.specs.inner.Spans.{spans, AreStarts}
use Rattle.vortex_array_data.proofs.PickLaws.{Below, picked_range, below_from_on}

-- ---- single places

pub at_onto-get : {A : Type 0} (xs : List A) (i : ℕ) (d : A) (ys : List A) → i < length xs → at_onto xs i ys ≡ get_or xs i d ∷ ys
at_onto-get [] i d ys lt = absurd (omega (arith, lt))
at_onto-get (x ∷ xs) zero d ys lt = refl
at_onto-get (x ∷ xs) (suc i) d ys lt = at_onto-get xs i d ys (omega (arith, lt))

-- the elements at places, each by its place
pub picked-taken : {A : Type 0} (ps : List ℕ) (xs : List A) (d : A) → Below (length xs) ps → map (λ p. get_or xs p d) ps ≡ picked ps xs
picked-taken [] xs d h = refl
picked-taken {A = A} (p ∷ ps) xs d h =
    ap (λ (l : List A). get_or xs p d ∷ l) (picked-taken ps xs d h.1) ∙ sym (at_onto-get xs p d (picked ps xs) h.0)

at_onto-append : {A : Type 0} (xs : List A) (i : ℕ) (ys zs : List A) → at_onto xs i (ys ++ zs) ≡ at_onto xs i ys ++ zs
at_onto-append [] i ys zs = refl
at_onto-append (x ∷ xs) zero ys zs = refl
at_onto-append (x ∷ xs) (suc i) ys zs = at_onto-append xs i ys zs

pub picked-append : {A : Type 0} (is js : List ℕ) (xs : List A) → picked (is ++ js) xs ≡ picked is xs ++ picked js xs
picked-append [] js xs = refl
picked-append (i ∷ is) js xs = ap (at_onto xs i) (picked-append is js xs) ∙ at_onto-append xs i (picked is xs) (picked js xs)

-- ---- places of a mask

kept_at : {A : Type 0} (xs : List A) (i : ℕ) (m : List Bool) (ys : List A) → i < length xs → ys ≡ kept m (drop (suc i) xs) → at_onto xs i ys ≡ kept (true ∷ m) (drop i xs)
kept_at [] i m ys lt e = absurd (omega (arith, lt))
kept_at {A = A} (x ∷ xs) zero m ys lt e = ap (λ (l : List A). x ∷ l) e
kept_at (x ∷ xs) (suc i) m ys lt e = kept_at xs i m ys (omega (arith, lt)) e

kept_past : {A : Type 0} (xs : List A) (i : ℕ) (m : List Bool) → i < length xs → kept m (drop (suc i) xs) ≡ kept (false ∷ m) (drop i xs)
kept_past [] i m lt = absurd (omega (arith, lt))
kept_past (x ∷ xs) zero m lt = refl
kept_past (x ∷ xs) (suc i) m lt = kept_past xs i m (omega (arith, lt))

next : (i : ℕ) → i + 1 ≡ suc i
next i = omega arith

picked-true : {A : Type 0} (m : List Bool) (i : ℕ) (xs : List A) → i + length m ≤ length xs → picked (places_from i m) xs ≡ kept m (drop i xs)
picked-true [] i xs le = refl
picked-true (true ∷ m) i xs le =
    kept_at xs i m _ (omega (arith, le)) (ap (λ j. picked (places_from j m) xs) (next i) ∙ picked-true m (suc i) xs (omega (arith, le)))
picked-true (false ∷ m) i xs le =
    ap (λ j. picked (places_from j m) xs) (next i) ∙ picked-true m (suc i) xs (omega (arith, le)) ∙ kept_past xs i m (omega (arith, le))

pub picked-mask : {A : Type 0} (m : List Bool) (xs : List A) → length m ≡ length xs → picked (places_of m) xs ≡ kept m xs
picked-mask m xs e = picked-true m 0 xs (omega (arith, e))

below_places : (m : List Bool) (i n : ℕ) → i + length m ≤ n → Below n (places_from i m)
below_places [] i n le = tt
below_places (true ∷ m) i n le = (omega (arith, le), below_places m (i + 1) n (omega (arith, le)))
below_places (false ∷ m) i n le = below_places m (i + 1) n (omega (arith, le))

pub mask_below : (m : List Bool) (n : ℕ) → length m ≡ n → Below n (places_of m)
mask_below m n e = below_places m 0 n (omega (arith, e))

-- ---- what is in rows

-- what is picked of a list at the places in rows is what is in the rows that are picked, joined; ws are what is in each row
pub picked-spans : {A : Type 0} (start : ℕ → ℕ) (ps : List ℕ) (xs : List A) (ws : List (List A)) → AreStarts start (length ws) (length xs)
    → ((p : ℕ) → p < length ws → get_or ws p [] ≡ slice_range xs (start p) (start (suc p))) → Below (length ws) ps
    → picked (spans start ps) xs ≡ flat_map (λ w. w) (picked ps ws)
picked-spans start [] xs ws h e b = refl
picked-spans {A = A} start (p ∷ ps) xs ws h e b =
    let to : start (suc p) ≤ length xs = omega (arith, h.within, h.rise (suc p) (length ws) (omega (arith, b.0)) (omega arith)) in
    let first : picked (from_on (start (suc p) - start p) (start p)) xs ≡ get_or ws p [] =
    picked_range (start p) (start (suc p)) xs (h.rise p (suc p) (omega arith) (omega (arith, b.0))) to ∙ sym (e p b.0) in
    picked-append (from_on (start (suc p) - start p) (start p)) (spans start ps) xs
    ∙ ap (λ (l : List A). l ++ picked (spans start ps) xs) first
    ∙ ap (λ (l : List A). get_or ws p [] ++ l) (picked-spans start ps xs ws h e b.1)
    ∙ sym (ap (flat_map (λ (w : List A). w)) (at_onto-get ws p [] (picked ps ws) b.0))

below-append : (n : ℕ) (is js : List ℕ) → Below n is → Below n js → Below n (is ++ js)
below-append n [] js h k = k
below-append n (i ∷ is) js h k = (h.0, below-append n is js h.1 k)

pub below-spans : (start : ℕ → ℕ) (n end : ℕ) (ps : List ℕ) → AreStarts start n end → Below n ps → Below end (spans start ps)
below-spans start n end [] h b = tt
below-spans start n end (p ∷ ps) h b =
    let le : start p ≤ start (suc p) = h.rise p (suc p) (omega arith) (omega (arith, b.0)) in
    let to : start (suc p) ≤ end = omega (arith, h.within, h.rise (suc p) n (omega (arith, b.0)) (omega arith)) in
    below-append end (from_on (start (suc p) - start p) (start p)) (spans start ps)
    (below_from_on (start (suc p) - start p) (start p) end (omega (arith, le, to))) (below-spans start n end ps h b.1)

-- ---- a truth value for each of what is in rows

places_trues : (k a : ℕ) → places_from a (replicate k true) ≡ from_on k a
places_trues zero a = refl
places_trues (suc k) a = ap (λ (l : List ℕ). a ∷ l) (ap (λ j. places_from j (replicate k true)) (next a) ∙ places_trues k (suc a))

places_falses : (k a : ℕ) → places_from a (replicate k false) ≡ []
places_falses zero a = refl
places_falses (suc k) a = places_falses k (a + 1)

-- the truth values of what is in the first i rows, each as that of its row
pub record AreSpread (start : ℕ → ℕ) (m : List Bool) (i : ℕ) (out : List Bool) : Type 0 where
  pub long : length out ≡ start i
  pub same : places_of out ≡ spans start (places_of (take i m))

appended : (out : List Bool) (b : Bool) (k : ℕ)
    → places_of (out ++ replicate k b) ≡ places_of out ++ places_from (length out) (replicate k b)
appended out b k =
    places-append 0 out (replicate k b) ∙ ap (λ j. places_of out ++ places_from j (replicate k b)) (omega arith)

pub spread_none : (start : ℕ → ℕ) (m out : List Bool) (k : ℕ) → k ≡ start 0 → out ≡ replicate k false → AreSpread start m 0 out
spread_none start m out k s e =
    rw e (record { long = length-replicate k false ∙ s; same = places_falses k 0 })

pub spread_more : (start : ℕ → ℕ) (m out new : List Bool) (i k : ℕ) (b : Bool) → AreSpread start m i out → i < length m
    → start i ≤ start (suc i) → k ≡ start (suc i) - start i → b ≡ get_or m i false → new ≡ out ++ replicate k b
    → AreSpread start m (i + 1) new
spread_more start m out new i k true h lt le s t e = rw e (record {
  long = length-append out (replicate k true) ∙ omega (arith, h.long, length-replicate k true, le, s) ∙ ap start (sym (next i));
  same = appended out true k ∙ ap (λ (l : List ℕ). l ++ places_from (length out) (replicate k true)) h.same
      ∙ ap (λ (l : List ℕ). spans start (places_of (take i m)) ++ l)
      (places_trues k (length out) ∙ ap (from_on k) h.long ∙ ap (λ j. from_on j (start i)) s ∙ sym (append-nil (from_on (start (suc i) - start i) (start i))))
      ∙ sym (flat_map-append (λ p. from_on (start (suc p) - start p) (start p)) (places_of (take i m)) (i ∷ []))
      ∙ ap (spans start) (sym (places_more m i lt ∙ ap (λ (b : Bool). places_of (take i m) ++ (if b then i ∷ [] else [])) (sym t)));
})
spread_more start m out new i k false h lt le s t e = rw e (record {
  long = length-append out (replicate k false) ∙ omega (arith, h.long, length-replicate k false, le, s) ∙ ap start (sym (next i));
  same = appended out false k ∙ ap (λ (l : List ℕ). l ++ places_from (length out) (replicate k false)) h.same
      ∙ ap (λ (l : List ℕ). spans start (places_of (take i m)) ++ l) (places_falses k (length out))
      ∙ append-nil (spans start (places_of (take i m)))
      ∙ ap (spans start) (sym (places_more m i lt ∙ ap (λ (b : Bool). places_of (take i m) ++ (if b then i ∷ [] else [])) (sym t) ∙ append-nil (places_of (take i m))));
})

pub spread_all : (start : ℕ → ℕ) (m out new : List Bool) (i k end : ℕ) → AreSpread start m i out → i ≡ length m
    → start (length m) ≤ end → k ≡ end - start (length m) → new ≡ out ++ replicate k false
    → (length new ≡ end) × (places_of new ≡ spans start (places_of m))
spread_all start m out new i k end h all le s e =
    let last : start i ≡ start (length m) = ap start all in
    rw e (
      length-append out (replicate k false) ∙ omega (arith, h.long, length-replicate k false, le, s, last),
      appended out false k ∙ ap (λ (l : List ℕ). l ++ places_from (length out) (replicate k false)) h.same
          ∙ ap (λ (l : List ℕ). spans start (places_of (take i m)) ++ l) (places_falses k (length out))
          ∙ append-nil (spans start (places_of (take i m))) ∙ ap (λ (l : List Bool). spans start (places_of l)) (take_all i m (omega (arith, all))),
    )
