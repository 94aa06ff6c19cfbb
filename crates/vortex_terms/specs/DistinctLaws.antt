-- The laws of a column as a dictionary.
--     distinct-IsDistinct      no row stands twice among the distinct ones
--     codes_of-spell           the rows at the codes are the column
--     codes_of-below           each code is a place among the distinct rows
--     length-distinct          there are no more distinct rows than rows
--     sum_by-distinct          a sum over the distinct rows, from that of the rows after the first
--     distinct-shortest        no values and codes that spell the rows have fewer values
--     distinct-push, codes_of-push    what one row more adds
--     codes_of-get             the rows at the codes are the column, as one equation
use Rattle.std.specs.Prelude.{◌≡◌, ◌+◌, ℕ, zero, suc, ◌<◌, ◌≤◌, Bool, true, false, not, ◌||◌, cond, List, [], ◌∷◌, ◌++◌, map, length, get_or, slice_get, Some, refl}
use Rattle.std.specs.List.{filter, list_any, sum_by, AllByRecursion, IsDistinct}
use Rattle.std.specs.Cmp.{both_ways}
use Rattle.std.proofs.lemmas.List.{append-nil, map-append}
use Rattle.std.proofs.lemmas.List.Elements.{filter-append}
use Rattle.std.proofs.lemmas.Option.{slice_get-get_or}
use Rattle.std.proofs.lemmas.List.Sums.{sum_by-cons}
use Rattle.std.proofs.lemmas.List.Filters.{sum_by-filter_both}
use Rattle.std.proofs.Common.{subst, ap, sym, ◌∙◌, arith, true≢false}
use Rattle.vortex_terms.specs.Row.{Row}
use Rattle.vortex_terms.specs.Order.{row_eq}
use Rattle.vortex_terms.specs.OrderLaws.{row_eq-Decides}
use Rattle.vortex_terms.specs.Distinct.{distinct, first_place, codes_of}

-- the rows that are not r
abbrev others : Row → List Row → List Row
others r rs = filter (λ s. not (row_eq r s)) rs

-- ---- no row twice

others-apart : (r : Row) (rs : List Row) → AllByRecursion (λ s. row_eq r s ≡ false) (others r rs)
others-apart r [] = tt
others-apart r (s ∷ rs) = by (others-apart r rs) (row_eq r s) refl
  where
    by : AllByRecursion (λ q. row_eq r q ≡ false) (others r rs) → (b : Bool) → row_eq r s ≡ b
        → AllByRecursion (λ q. row_eq r q ≡ false) (cond (not b) (s ∷ others r rs) (others r rs))
    by rest true e = rest
    by rest false e = (e, rest)

filter-all : (P : Row → Type 0) (p : Row → Bool) (rs : List Row) → AllByRecursion P rs
    → AllByRecursion P (filter p rs)
filter-all P p [] a = tt
filter-all P p (s ∷ rs) a = by (filter-all P p rs a.1) (p s)
  where
    by : AllByRecursion P (filter p rs) → (b : Bool)
        → AllByRecursion P (cond b (s ∷ filter p rs) (filter p rs))
    by rest true = (a.0, rest)
    by rest false = rest

filter-distinct : (p : Row → Bool) (rs : List Row) → IsDistinct row_eq rs
    → IsDistinct row_eq (filter p rs)
unfolding IsDistinct
filter-distinct p [] a = tt
filter-distinct p (s ∷ rs) a = by (filter-distinct p rs a.1) (p s)
  where
    by : IsDistinct row_eq (filter p rs) → (b : Bool)
        → IsDistinct row_eq (cond b (s ∷ filter p rs) (filter p rs))
    by rest true = (filter-all (λ q. row_eq s q ≡ false) p rs a.0, rest)
    by rest false = rest

pub distinct-IsDistinct : (rs : List Row) → IsDistinct row_eq (distinct rs)
unfolding IsDistinct
distinct-IsDistinct [] = tt
distinct-IsDistinct (r ∷ rs) = (
  others-apart r (distinct rs),
  filter-distinct (λ s. not (row_eq r s)) (distinct rs) (distinct-IsDistinct rs),
)

-- ---- each row is among the distinct ones

-- r stands in the list
abbrev Stands : Row → List Row → Type 0
Stands r rs = list_any (row_eq r) rs ≡ true

same_row : (r s : Row) → row_eq r s ≡ true → r ≡ s
same_row r s e = (row_eq-Decides r s).0 e

itself : (r : Row) → row_eq r r ≡ true
itself r = (row_eq-Decides r r).1 refl

others-keep : (r q : Row) (rs : List Row) → row_eq r q ≡ false → Stands q rs
    → Stands q (others r rs)
others-keep r q [] apart h = h
others-keep r q (s ∷ rs) apart h =
    by (others-keep r q rs apart) (row_eq q s) (row_eq r s) refl refl h
  where
    by : (Stands q rs → Stands q (others r rs)) → (a b : Bool) → row_eq q s ≡ a → row_eq r s ≡ b
        → a || list_any (row_eq q) rs ≡ true
        → list_any (row_eq q) (cond (not b) (s ∷ others r rs) (others r rs)) ≡ true
    by rest true true e f h =
        absurd (true≢false (sym f ∙ ap (row_eq r) (sym (same_row q s e)) ∙ apart))
    by rest true false e f h = rw e refl
    by rest false true e f h = rest h
    by rest false false e f h = rw e (rest h)

distinct-keeps : (r : Row) (rs : List Row) → Stands r rs → Stands r (distinct rs)
distinct-keeps r [] h = h
distinct-keeps r (s ∷ rs) h = by (distinct-keeps r rs) (row_eq r s) refl h
  where
    flipped : row_eq r s ≡ false → (b : Bool) → row_eq s r ≡ b → row_eq s r ≡ false
    flipped e false g = g
    flipped e true g =
        absurd (true≢false (sym (itself r) ∙ ap (row_eq r) (sym (same_row s r g)) ∙ e))

    by : (Stands r rs → Stands r (distinct rs)) → (b : Bool) → row_eq r s ≡ b
        → b || list_any (row_eq r) rs ≡ true
        → row_eq r s || list_any (row_eq r) (others s (distinct rs)) ≡ true
    by rest true e h = rw e refl
    by rest false e h = rw e (others-keep s r (distinct rs) (flipped e (row_eq s r) refl) (rest h))

-- ---- the first place

first_place-spells : (r : Row) (rs : List Row) (d : Row) → Stands r rs
    → get_or rs (first_place r rs) d ≡ r
first_place-spells r [] d h = absurd (true≢false (sym h))
first_place-spells r (s ∷ rs) d h = by (first_place-spells r rs d) (row_eq r s) refl h
  where
    by : (Stands r rs → get_or rs (first_place r rs) d ≡ r) → (b : Bool) → row_eq r s ≡ b
        → b || list_any (row_eq r) rs ≡ true
        → get_or (s ∷ rs) (cond b 0 (suc (first_place r rs))) d ≡ r
    by rest true e h = sym (same_row r s e)
    by rest false e h = rest h

first_place-below : (r : Row) (rs : List Row) → Stands r rs → first_place r rs < length rs
first_place-below r [] h = absurd (true≢false (sym h))
first_place-below r (s ∷ rs) h = by (first_place-below r rs) (row_eq r s) h
  where
    by : (Stands r rs → first_place r rs < length rs) → (b : Bool)
        → b || list_any (row_eq r) rs ≡ true → cond b 0 (suc (first_place r rs)) < suc (length rs)
    by rest true h = omega arith
    by rest false h = let under = rest h in omega arith

-- ---- the codes

all-stand : (rs qs : List Row) → ((r : Row) → Stands r rs → Stands r qs)
    → AllByRecursion (λ r. Stands r qs) rs
all-stand [] qs keep = tt
all-stand (r ∷ rs) qs keep = (
  keep r (ap (λ b. b || list_any (row_eq r) rs) (itself r)),
  all-stand rs qs (λ q h. keep q (by (row_eq q r) (list_any (row_eq q) rs) h)),
)
  where
    by : (a b : Bool) → b ≡ true → a || b ≡ true
    by true b h = refl
    by false b h = h

spelled : (qs rs : List Row) (d : Row) → AllByRecursion (λ r. Stands r qs) rs
    → map (λ c. get_or qs c d) (map (λ r. first_place r qs) rs) ≡ rs
spelled qs [] d a = refl
spelled qs (r ∷ rs) d a = λ i. first_place-spells r qs d a.0 i ∷ spelled qs rs d a.1 i

below : (qs rs : List Row) → AllByRecursion (λ r. Stands r qs) rs
    → AllByRecursion (λ c. c < length qs) (map (λ r. first_place r qs) rs)
below qs [] a = tt
below qs (r ∷ rs) a = (first_place-below r qs a.0, below qs rs a.1)

pub codes_of-spell : (rs : List Row) (d : Row)
    → map (λ c. get_or (distinct rs) c d) (codes_of rs) ≡ rs
codes_of-spell rs d =
    spelled (distinct rs) rs d (all-stand rs (distinct rs) (λ r h. distinct-keeps r rs h))

pub codes_of-below : (rs : List Row) → AllByRecursion (λ c. c < length (distinct rs)) (codes_of rs)
codes_of-below rs =
    below (distinct rs) rs (all-stand rs (distinct rs) (λ r h. distinct-keeps r rs h))

length-filter : (p : Row → Bool) (rs : List Row) → length (filter p rs) ≤ length rs
length-filter p [] = omega arith
length-filter p (r ∷ rs) = by (length-filter p rs) (p r)
  where
    by : length (filter p rs) ≤ length rs → (b : Bool)
        → length (cond b (r ∷ filter p rs) (filter p rs)) ≤ suc (length rs)
    by rest true = omega arith
    by rest false = omega arith

pub length-distinct : (rs : List Row) → length (distinct rs) ≤ length rs
length-distinct [] = omega arith
length-distinct (r ∷ rs) =
    omega (arith, length-distinct rs, length-filter (λ s. not (row_eq r s)) (distinct rs))

-- ---- sums

-- what stands among the distinct rows stands among the rows
filter-only : (r : Row) (p : Row → Bool) (rs : List Row) → Stands r (filter p rs) → Stands r rs
filter-only r p [] h = h
filter-only r p (s ∷ rs) h = by (filter-only r p rs) (p s) (row_eq r s) refl h
  where
    by : (Stands r (filter p rs) → Stands r rs) → (b c : Bool) → row_eq r s ≡ c
        → Stands r (cond b (s ∷ filter p rs) (filter p rs)) → c || list_any (row_eq r) rs ≡ true
    by rest b true e h = refl
    by rest true false e h = rest (rw e at h)
    by rest false false e h = rest h

distinct-only : (r : Row) (rs : List Row) → Stands r (distinct rs) → Stands r rs
distinct-only r [] h = h
distinct-only r (s ∷ rs) h = by (distinct-only r rs) (row_eq r s) refl h
  where
    by : (Stands r (distinct rs) → Stands r rs) → (b : Bool) → row_eq r s ≡ b
        → Stands r (s ∷ others s (distinct rs)) → b || list_any (row_eq r) rs ≡ true
    by rest true e h = refl
    by rest false e h = rest (filter-only r (λ q. not (row_eq s q)) (distinct rs) (rw e at h))

pub distinct-stands : (r : Row) (rs : List Row)
    → list_any (row_eq r) (distinct rs) ≡ list_any (row_eq r) rs
distinct-stands r rs =
    both_ways (list_any (row_eq r) (distinct rs)) (list_any (row_eq r) rs) (distinct-only r rs)
    (distinct-keeps r rs)

none-same : (r s : Row) (rs : List Row) → r ≡ s → AllByRecursion (λ q. row_eq s q ≡ false) rs
    → filter (row_eq r) rs ≡ []
none-same r s [] e a = refl
none-same r s (q ∷ rs) e a = rw (ap (λ x. row_eq x q) e ∙ a.0) (none-same r s rs e a.1)

-- of distinct rows, those that are r are r alone, or none
sum-same : (f : Row → ℕ) (r : Row) (rs : List Row) → IsDistinct row_eq rs
    → sum_by f (filter (row_eq r) rs) ≡ cond (list_any (row_eq r) rs) (f r) 0
unfolding IsDistinct
sum-same f r [] a = refl
sum-same f r (s ∷ rs) a = by (sum-same f r rs a.1) (row_eq r s) refl
  where
    by : sum_by f (filter (row_eq r) rs) ≡ cond (list_any (row_eq r) rs) (f r) 0 → (b : Bool)
        → row_eq r s ≡ b
        → sum_by f (cond b (s ∷ filter (row_eq r) rs) (filter (row_eq r) rs))
        ≡ cond (b || list_any (row_eq r) rs) (f r) 0
    by rest true e =
        sum_by-cons f s (filter (row_eq r) rs)
        ∙ ap (λ qs. f s + sum_by f qs) (none-same r s rs (same_row r s e) a.0)
        ∙ (let none : f s + 0 ≡ f s = omega arith in none) ∙ ap f (sym (same_row r s e))
    by rest false e = rest

-- a sum over the distinct rows counts a row where it stands last
pub sum_by-distinct : (f : Row → ℕ) (r : Row) (rs : List Row)
    → sum_by f (distinct (r ∷ rs)) ≡ cond (list_any (row_eq r) rs) 0 (f r) + sum_by f (distinct rs)
sum_by-distinct f r rs =
    let whole = sum_by-cons f r (others r (distinct rs)) in
    let split = sum_by-filter_both (row_eq r) (λ s. not (row_eq r s)) (λ s. refl) f (distinct rs) in
    let same = sum-same f r (distinct rs) (distinct-IsDistinct rs)
    ∙ ap (λ b. cond b (f r) 0) (distinct-stands r rs) in
    by (list_any (row_eq r) rs) (sum_by f (distinct (r ∷ rs))) (f r)
    (sum_by f (others r (distinct rs))) (sum_by f (filter (row_eq r) (distinct rs)))
    (sum_by f (distinct rs)) whole split same
  where
    by : (b : Bool) (w x o k d : ℕ) → w ≡ x + o → k + o ≡ d → k ≡ cond b x 0 → w ≡ cond b 0 x + d
    by true w x o k d e g h = omega arith
    by false w x o k d e g h = omega arith

-- ---- no dictionary is shorter

-- the list without the first r
abbrev remove_first : Row → List Row → List Row
remove_first r [] = []
remove_first r (s ∷ vs) = cond (row_eq r s) vs (s ∷ remove_first r vs)

length-remove_first : (r : Row) (vs : List Row) → Stands r vs
    → suc (length (remove_first r vs)) ≡ length vs
length-remove_first r [] h = absurd (true≢false (sym h))
length-remove_first r (s ∷ vs) h = by (length-remove_first r vs) (row_eq r s) h
  where
    by : (Stands r vs → suc (length (remove_first r vs)) ≡ length vs) → (b : Bool)
        → b || list_any (row_eq r) vs ≡ true
        → suc (length (cond b vs (s ∷ remove_first r vs))) ≡ suc (length vs)
    by rest true h = refl
    by rest false h = ap (λ n. suc n) (rest h)

remove_first-keeps : (r q : Row) (vs : List Row) → row_eq r q ≡ false → Stands q vs
    → Stands q (remove_first r vs)
remove_first-keeps r q [] apart h = h
remove_first-keeps r q (s ∷ vs) apart h =
    by (remove_first-keeps r q vs apart) (row_eq q s) (row_eq r s) refl refl h
  where
    by : (Stands q vs → Stands q (remove_first r vs)) → (a b : Bool) → row_eq q s ≡ a
        → row_eq r s ≡ b → a || list_any (row_eq q) vs ≡ true
        → list_any (row_eq q) (cond b vs (s ∷ remove_first r vs)) ≡ true
    by rest true true e f h =
        absurd (true≢false (sym f ∙ ap (row_eq r) (sym (same_row q s e)) ∙ apart))
    by rest true false e f h = rw e refl
    by rest false true e f h = h
    by rest false false e f h = rw e (rest h)

all-remove_first : (r : Row) (ds vs : List Row) → AllByRecursion (λ q. row_eq r q ≡ false) ds
    → AllByRecursion (λ q. Stands q vs) ds → AllByRecursion (λ q. Stands q (remove_first r vs)) ds
all-remove_first r [] vs a b = tt
all-remove_first r (q ∷ ds) vs a b =
    (remove_first-keeps r q vs a.0 b.0, all-remove_first r ds vs a.1 b.1)

-- distinct rows that all stand in a list are no more than it
distinct-fewer : (ds vs : List Row) → IsDistinct row_eq ds → AllByRecursion (λ q. Stands q vs) ds
    → length ds ≤ length vs
unfolding IsDistinct
distinct-fewer [] vs a b = omega arith
distinct-fewer (r ∷ ds) vs a b =
    let fewer = distinct-fewer ds (remove_first r vs) a.1 (all-remove_first r ds vs a.0 b.1) in
    let one = length-remove_first r vs b.0 in
    omega (arith, fewer, one)

distinct-all : (P : Row → Type 0) (rs : List Row) → AllByRecursion P rs
    → AllByRecursion P (distinct rs)
distinct-all P [] a = tt
distinct-all P (r ∷ rs) a =
    (a.0, filter-all P (λ s. not (row_eq r s)) (distinct rs) (distinct-all P rs a.1))

get-stands : (vs : List Row) (c : ℕ) (d : Row) → c < length vs → Stands (get_or vs c d) vs
get-stands [] c d h = absurd (omega arith)
get-stands (v ∷ vs) zero d h = ap (λ b. b || list_any (row_eq v) vs) (itself v)
get-stands (v ∷ vs) (suc c) d h =
    by (row_eq (get_or vs c d) v) (list_any (row_eq (get_or vs c d)) vs)
    (get-stands vs c d (omega arith))
  where
    by : (a b : Bool) → b ≡ true → a || b ≡ true
    by true b h = refl
    by false b h = h

got-stand : (vs : List Row) (cs : List ℕ) (d : Row) → AllByRecursion (λ c. c < length vs) cs
    → AllByRecursion (λ r. Stands r vs) (map (λ c. get_or vs c d) cs)
got-stand vs [] d a = tt
got-stand vs (c ∷ cs) d a = (get-stands vs c d a.0, got-stand vs cs d a.1)

-- whatever values and codes spell the rows, there are at least as many values as distinct rows
pub distinct-shortest : (rs vs : List Row) (cs : List ℕ) (d : Row)
    → AllByRecursion (λ c. c < length vs) cs → map (λ c. get_or vs c d) cs ≡ rs
    → length (distinct rs) ≤ length vs
distinct-shortest rs vs cs d a e =
    distinct-fewer (distinct rs) vs (distinct-IsDistinct rs)
    (distinct-all (λ r. Stands r vs) rs
    (subst (λ qs. AllByRecursion (λ r. Stands r vs) qs) e (got-stand vs cs d a)))

-- ---- one row more

-- a row that stands there adds nothing, and another comes last
pub distinct-push : (rs : List Row) (r : Row)
    → distinct (rs ++ r ∷ []) ≡ cond (list_any (row_eq r) rs) (distinct rs) (distinct rs ++ r ∷ [])
distinct-push [] r = refl
distinct-push (s ∷ rs) r =
    ap (λ ds. s ∷ others s ds) (distinct-push rs r)
    ∙ by (list_any (row_eq r) rs) (row_eq r s) (row_eq s r) refl refl
  where
    by : (a b c : Bool) → row_eq r s ≡ b → row_eq s r ≡ c
        → s ∷ others s (cond a (distinct rs) (distinct rs ++ r ∷ []))
        ≡ cond (b || a) (s ∷ others s (distinct rs)) (s ∷ others s (distinct rs) ++ r ∷ [])
    by true true c e f = refl
    by true false c e f = refl
    by false true true e f =
        ap (λ ds. s ∷ ds) (filter-append (λ q. not (row_eq s q)) (distinct rs) (r ∷ [])
        ∙ rw f (append-nil (others s (distinct rs))))
    by false true false e f =
        absurd (true≢false (sym (itself s) ∙ ap (row_eq s) (sym (same_row r s e)) ∙ f))
    by false false true e f =
        absurd (true≢false (sym (itself r) ∙ ap (row_eq r) (sym (same_row s r f)) ∙ e))
    by false false false e f =
        ap (λ ds. s ∷ ds) (filter-append (λ q. not (row_eq s q)) (distinct rs) (r ∷ []) ∙ rw f refl)

-- the first place of a row that stands there is not moved by rows behind
first_place-append : (q : Row) (ds es : List Row) → Stands q ds
    → first_place q (ds ++ es) ≡ first_place q ds
first_place-append q [] es h = absurd (true≢false (sym h))
first_place-append q (d ∷ ds) es h = by (first_place-append q ds es) (row_eq q d) h
  where
    by : (Stands q ds → first_place q (ds ++ es) ≡ first_place q ds) → (b : Bool)
        → b || list_any (row_eq q) ds ≡ true
        → cond b 0 (suc (first_place q (ds ++ es))) ≡ cond b 0 (suc (first_place q ds))
    by rest true h = refl
    by rest false h = ap (λ n. suc n) (rest h)

first_place-self : (r : Row) (ds : List Row) → first_place r (ds ++ r ∷ []) ≡ first_place r ds
first_place-self r [] = rw (itself r) refl
first_place-self r (d ∷ ds) = ap (λ n. cond (row_eq r d) 0 (suc n)) (first_place-self r ds)

codes-stay : (rs : List Row) (ds es : List Row) → AllByRecursion (λ r. Stands r ds) rs
    → map (λ r. first_place r (ds ++ es)) rs ≡ map (λ r. first_place r ds) rs
codes-stay [] ds es a = refl
codes-stay (r ∷ rs) ds es a = λ i. first_place-append r ds es a.0 i ∷ codes-stay rs ds es a.1 i

pub codes_of-push : (rs : List Row) (r : Row)
    → codes_of (rs ++ r ∷ []) ≡ codes_of rs ++ first_place r (distinct rs) ∷ []
codes_of-push rs r =
    let ds = distinct rs in
    let all = all-stand rs ds (λ q h. distinct-keeps q rs h) in
    map-append (λ q. first_place q (distinct (rs ++ r ∷ []))) rs (r ∷ [])
    ∙ ap (λ es. map (λ q. first_place q es) rs ++ first_place r es ∷ []) (distinct-push rs r)
    ∙ by (list_any (row_eq r) rs) all
  where
    by : (b : Bool) → AllByRecursion (λ q. Stands q (distinct rs)) rs
        → (let es = cond b (distinct rs) (distinct rs ++ r ∷ []) in map (λ q. first_place q es) rs
        ++ first_place r es ∷ []) ≡ map (λ q. first_place q (distinct rs)) rs
        ++ first_place r (distinct rs) ∷ []
    by true all = refl
    by false all =
        λ i. codes-stay rs (distinct rs) (r ∷ []) all i ++ first_place-self r (distinct rs) i ∷ []

-- ---- the rows at the codes, as one equation

get-spelled : (qs rs : List Row) → AllByRecursion (λ r. Stands r qs) rs
    → map (slice_get qs) (map (λ r. first_place r qs) rs) ≡ map Some rs
get-spelled qs [] a = refl
get-spelled qs (r ∷ rs) a =
    λ i. (slice_get-get_or qs (first_place r qs) r (first_place-below r qs a.0)
    ∙ ap Some (first_place-spells r qs r a.0)) i ∷ get-spelled qs rs a.1 i

pub codes_of-get : (rs : List Row) → map (slice_get (distinct rs)) (codes_of rs) ≡ map Some rs
codes_of-get rs =
    get-spelled (distinct rs) rs (all-stand rs (distinct rs) (λ r h. distinct-keeps r rs h))
