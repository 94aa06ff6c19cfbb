-- Places of which none stands twice: what is in the rows at them is no more than what is in all rows.
use Rattle.std.proofs.Common.{◌≡◌, ◌≢◌, ◌≤◌, ◌<◌, ◌+◌, ◌-◌, ◌⊎◌, inl, inr, ℕ, zero, suc, List, [], ◌∷◌, ◌++◌, length, refl, ap, arith}
use Rattle.std.specs.List.{AllByRecursion}
use Rattle.vortex_array_data.specs.Taken.{StandsIn, Repeats}
use Rattle.vortex_array_data.specs.inner.Picked.{from_on}
use Rattle.vortex_array_data.specs.inner.Spans.{spans, AreStarts}
use Rattle.vortex_array_data.proofs.PickLaws.{Below}
use Rattle.vortex_array_data.proofs.PickPlaces.{below-spans}

-- the place is none of these
abbrev pub Apart : ℕ → List ℕ → Type 0
Apart p qs = AllByRecursion (λ q. p ≢ q) qs

abbrev pub Distinct : List ℕ → Type 0
Distinct [] = Unit {0}
Distinct (p ∷ ps) = Apart p ps × Distinct ps

same_or_not : (p q : ℕ) → (p ≡ q) ⊎ (p ≢ q)
same_or_not zero zero = inl refl
same_or_not zero (suc q) = inr (λ e. omega (arith, e))
same_or_not (suc p) zero = inr (λ e. omega (arith, e))
same_or_not (suc p) (suc q) = up (same_or_not p q)
  where
    up : (p ≡ q) ⊎ (p ≢ q) → (suc p ≡ suc q) ⊎ (suc p ≢ suc q)
    up (inl e) = inl (ap suc e)
    up (inr n) = inr (λ e. n (omega (arith, e)))

stands_or_not : (p : ℕ) (qs : List ℕ) → StandsIn p qs ⊎ Apart p qs
stands_or_not p [] = inr tt
stands_or_not p (q ∷ qs) = first (same_or_not p q) (stands_or_not p qs)
  where
    first : (p ≡ q) ⊎ (p ≢ q) → StandsIn p qs ⊎ Apart p qs → StandsIn p (q ∷ qs) ⊎ Apart p (q ∷ qs)
    first (inl e) h = inl (inl e)
    first (inr n) (inl s) = inl (inr s)
    first (inr n) (inr a) = inr (n, a)

pub repeats_or_not : (ps : List ℕ) → Repeats ps ⊎ Distinct ps
repeats_or_not [] = inr tt
repeats_or_not (p ∷ ps) = first (stands_or_not p ps) (repeats_or_not ps)
  where
    first : StandsIn p ps ⊎ Apart p ps → Repeats ps ⊎ Distinct ps → Repeats (p ∷ ps) ⊎ Distinct (p ∷ ps)
    first (inl s) h = inl (inl s)
    first (inr a) (inl r) = inl (inr r)
    first (inr a) (inr d) = inr (a, d)

stands_apart : (p : ℕ) (qs : List ℕ) → StandsIn p qs → Apart p qs → ⊥
stands_apart p [] s a = s
stands_apart p (q ∷ qs) (inl e) a = a.0 e
stands_apart p (q ∷ qs) (inr s) a = stands_apart p qs s a.1

pub repeats_distinct : (ps : List ℕ) → Repeats ps → Distinct ps → ⊥
repeats_distinct [] r d = r
repeats_distinct (p ∷ ps) (inl s) d = stands_apart p ps s d.0
repeats_distinct (p ∷ ps) (inr r) d = repeats_distinct ps r d.1

-- ---- what is in rows at distinct places

apart-append : (x : ℕ) (is js : List ℕ) → Apart x is → Apart x js → Apart x (is ++ js)
apart-append x [] js h k = k
apart-append x (i ∷ is) js h k = (h.0, apart-append x is js h.1 k)

-- a place outside of a range is none of it
apart_from_on : (x k a : ℕ) → (x < a) ⊎ (a + k ≤ x) → Apart x (from_on k a)
apart_from_on x zero a h = tt
apart_from_on x (suc k) a (inl h) = (λ e. omega (arith, e, h), apart_from_on x k (suc a) (inl (omega (arith, h))))
apart_from_on x (suc k) a (inr h) = (λ e. omega (arith, e, h), apart_from_on x k (suc a) (inr (omega (arith, h))))

order : (p q : ℕ) → p ≢ q → (p < q) ⊎ (q < p)
order zero zero n = absurd (n refl)
order zero (suc q) n = inl (omega arith)
order (suc p) zero n = inr (omega arith)
order (suc p) (suc q) n = up (order p q (λ e. n (ap suc e)))
  where
    up : (p < q) ⊎ (q < p) → (suc p < suc q) ⊎ (suc q < suc p)
    up (inl l) = inl (omega (arith, l))
    up (inr l) = inr (omega (arith, l))

-- what is in one row is not in another
other_row : (start : ℕ → ℕ) (n end p q x : ℕ) → AreStarts start n end → p < n → q < n → start p ≤ x → x < start (suc p)
    → (p < q) ⊎ (q < p) → Apart x (from_on (start (suc q) - start q) (start q))
other_row start n end p q x h pn qn lo hi (inl l) =
    apart_from_on x (start (suc q) - start q) (start q) (inl (omega (arith, hi, h.rise (suc p) q (omega (arith, l)) (omega (arith, qn)))))
other_row start n end p q x h pn qn lo hi (inr l) =
    apart_from_on x (start (suc q) - start q) (start q)
    (inr (omega (arith, lo, h.rise (suc q) p (omega (arith, l)) (omega (arith, pn)), h.rise q (suc q) (omega arith) (omega (arith, qn)))))

apart_spans : (start : ℕ → ℕ) (n end p x : ℕ) (qs : List ℕ) → AreStarts start n end → p < n → Below n qs → start p ≤ x
    → x < start (suc p) → Apart p qs → Apart x (spans start qs)
apart_spans start n end p x [] h pn b lo hi a = tt
apart_spans start n end p x (q ∷ qs) h pn b lo hi a =
    apart-append x (from_on (start (suc q) - start q) (start q)) (spans start qs)
    (other_row start n end p q x h pn b.0 lo hi (order p q a.0)) (apart_spans start n end p x qs h pn b.1 lo hi a.1)

-- a range before others, which are apart from each place in it
distinct_range : (k a : ℕ) (ys : List ℕ) → ((x : ℕ) → a ≤ x → x < a + k → Apart x ys) → Distinct ys → Distinct (from_on k a ++ ys)
distinct_range zero a ys h d = d
distinct_range (suc k) a ys h d = (
  apart-append a (from_on k (suc a)) ys (apart_from_on a k (suc a) (inl (omega arith))) (h a (omega arith) (omega arith)),
  distinct_range k (suc a) ys (λ x lo hi. h x (omega (arith, lo)) (omega (arith, hi))) d,
)

pub distinct_spans : (start : ℕ → ℕ) (n end : ℕ) (ps : List ℕ) → AreStarts start n end → Below n ps → Distinct ps → Distinct (spans start ps)
distinct_spans start n end [] h b d = tt
distinct_spans start n end (p ∷ ps) h b d =
    let le : start p ≤ start (suc p) = h.rise p (suc p) (omega arith) (omega (arith, b.0)) in
    distinct_range (start (suc p) - start p) (start p) (spans start ps)
    (λ x lo hi. apart_spans start n end p x ps h b.0 b.1 lo (omega (arith, hi, le)) d.0) (distinct_spans start n end ps h b.1 d.1)

-- ---- distinct places below n are at most n

-- places of which none is n, where those of ps are at most n
record Removed (n : ℕ) (ps : List ℕ) : Type 0 where
  left : List ℕ
  distinct : Distinct left
  below : Below n left
  long : length ps ≤ suc (length left)
  apart : (x : ℕ) → Apart x ps → Apart x left

below_apart : (n p : ℕ) (ps : List ℕ) → p ≡ n → Below (suc n) ps → Apart p ps → Below n ps
below_apart n p [] e b a = tt
below_apart n p (q ∷ ps) e b a = (less n p q e b.0 a.0, below_apart n p ps e b.1 a.1)
  where
    less : (n p q : ℕ) → p ≡ n → q < suc n → p ≢ q → q < n
    less n p q e l a = other n p q e l a (order p q a)
      where
        other : (n p q : ℕ) → p ≡ n → q < suc n → p ≢ q → (p < q) ⊎ (q < p) → q < n
        other n p q e l a (inl h) = absurd (omega (arith, e, l, h))
        other n p q e l a (inr h) = omega (arith, e, h)

less_than : (n p : ℕ) → p < suc n → p ≢ n → p < n
less_than n p l a = by (order p n a)
  where
    by : (p < n) ⊎ (n < p) → p < n
    by (inl h) = h
    by (inr h) = absurd (omega (arith, l, h))

removed : (n : ℕ) (ps : List ℕ) → Distinct ps → Below (suc n) ps → Removed n ps
removed n [] d b = record { left = []; distinct = tt; below = tt; long = omega arith; apart = λ x a. tt }
removed n (p ∷ ps) d b = first (same_or_not p n) (removed n ps d.1 b.1)
  where
    first : (p ≡ n) ⊎ (p ≢ n) → Removed n ps → Removed n (p ∷ ps)
    first (inl e) r = record { left = ps; distinct = d.1; below = below_apart n p ps e b.1 d.0; long = omega arith; apart = λ x a. a.1 }
    first (inr e) r = record {
      left = p ∷ r.left;
      distinct = (r.apart p d.0, r.distinct);
      below = (less_than n p b.0 e, r.below);
      long = omega (arith, r.long);
      apart = λ x a. (a.0, r.apart x a.1);
    }

distinct_few : (n : ℕ) (ps : List ℕ) → Distinct ps → Below n ps → length ps ≤ n
distinct_few zero [] d b = omega arith
distinct_few zero (p ∷ ps) d b = absurd (omega (arith, b.0))
distinct_few (suc n) ps d b =
    let r = removed n ps d b in
    omega (arith, r.long, distinct_few n r.left r.distinct r.below)

-- ---- what is in rows

-- where what is in the rows at places is more than what is in all rows, a place stands twice
pub much_repeats : (start : ℕ → ℕ) (n end : ℕ) (ps : List ℕ) → AreStarts start n end → Below n ps
    → end < length (spans start ps) → Repeats ps
much_repeats start n end ps h b l = by (repeats_or_not ps)
  where
    by : Repeats ps ⊎ Distinct ps → Repeats ps
    by (inl r) = r
    by (inr d) =
        absurd (omega (arith, l, distinct_few end (spans start ps) (distinct_spans start n end ps h b d) (below-spans start n end ps h b)))

pub spans_repeat : (start : ℕ → ℕ) (n end : ℕ) (ps : List ℕ) → AreStarts start n end → Below n ps → Repeats (spans start ps) → Repeats ps
spans_repeat start n end ps h b s = by (repeats_or_not ps)
  where
    by : Repeats ps ⊎ Distinct ps → Repeats ps
    by (inl r) = r
    by (inr d) = absurd (repeats_distinct (spans start ps) s (distinct_spans start n end ps h b d))
