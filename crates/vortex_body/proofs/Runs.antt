-- How many words that name buffers stand one behind the other.
use Rattle.std.proofs.Common.{◌≡◌, ℕ, zero, suc, ◌+◌, ◌-◌, ◌*◌, ◌^◌, ◌<◌, ◌≤◌, Bool, true, false, leb, List, [], ◌∷◌, ◌++◌, length, get_or, Option, Some, None, refl, sym, ap, subst, ◌∙◌, arith}
use Rattle.std.specs.Prelude.{option_and_then, slice_get, is_some, min}
use Rattle.std.specs.Option.{option_map}
use Rattle.std.proofs.lemmas.Bool.{leb-true, leb-false, le-leb, lt-leb}
use Rattle.std.proofs.lemmas.List.{get_or_append_left, get_or_push, length-append}
use Rattle.std.proofs.lemmas.Grind.{get_or_default_zero}
use Rattle.std.proofs.lemmas.Option.{slice_get-get_or}
use Rattle.vortex_prelude.specs.Elements.{elements}
use Rattle.vortex_flat.specs.Numbers.{number}
use Rattle.vortex_flat.proofs.NumbersLemmas.{number_within}
use Rattle.vortex_flat.specs.Targets.{VectorShape}
use Rattle.vortex_body.specs.Body.{named_buffer, named_buffers}
use Rattle.vortex_body.specs.inner.Runs.{AreRuns, BodyView, IsRun, words_at}
use Rattle.vortex_body.specs.inner.Walked.{named_count}
use Rattle.vortex_body.proofs.Named.{named_count_is}

-- ---- elements

some_mapped : {A B : Type 0} (f : A → B) (o : Option A) → is_some (option_map f o) ≡ is_some o
some_mapped f None = refl
some_mapped f (Some x) = refl

shifted : {A : Type 0} (f g : ℕ → Option A) (i n : ℕ) → ((j : ℕ) → f (j + 1) ≡ g j) → elements f (i + 1) n ≡ elements g i n
shifted f g i zero h = refl
shifted f g i (suc n) h =
    ap (λ o. option_and_then (λ x. option_map (λ xs. x ∷ xs) (elements f (i + 1 + 1) n)) o) (h i)
    ∙ ap (λ ys. option_and_then (λ x. option_map (λ xs. x ∷ xs) ys) (g i)) (shifted f g (i + 1) n h)

same_test : (a b c d : ℕ) → (a ≤ b → c ≤ d) → (c ≤ d → a ≤ b) → leb a b ≡ leb c d
same_test a b c d there back = by (leb a b) (leb c d) refl refl
  where
    by : (s t : Bool) → leb a b ≡ s → leb c d ≡ t → leb a b ≡ leb c d
    by true true e f = e ∙ sym f
    by false false e f = e ∙ sym f
    by true false e f = absurd (let under : d < c = leb-false c d f in omega (arith, under, there (leb-true a b e)))
    by false true e f = absurd (let under : b < a = leb-false a b e in omega (arith, under, back (leb-true c d f)))

run_zero : {A : Type 0} (f : ℕ → Option A) (count : ℕ) → f 0 ≡ None → is_some (elements f 0 count) ≡ leb count 0
run_zero f zero e = sym (le-leb 0 0 (omega arith))
run_zero f (suc count) e =
    ap (λ o. is_some (option_and_then (λ x. option_map (λ xs. x ∷ xs) (elements f 1 count)) o)) e ∙ sym (lt-leb (suc count) 0 (omega arith))

-- one more than the run behind it, and no more than the greatest number of 32 bits
abbrev pub one_more : ℕ → ℕ
one_more run = min (run + 1) 4294967295

run_more : {A : Type 0} (f g : ℕ → Option A) (x : A) (run count : ℕ) → f 0 ≡ Some x → ((j : ℕ) → f (j + 1) ≡ g j) → ((n : ℕ) → n < 2 ^ 32 → is_some (elements g 0 n) ≡ leb n run) → count < 2 ^ 32 → is_some (elements f 0 count) ≡ leb count (one_more run)
run_more f g x run zero e h behind lt = sym (le-leb 0 (one_more run) (omega arith))
run_more f g x run (suc count) e h behind lt =
    ap (λ o. is_some (option_and_then (λ x. option_map (λ xs. x ∷ xs) (elements f 1 count)) o)) e
    ∙ some_mapped (λ xs. x ∷ xs) (elements f 1 count) ∙ ap is_some (shifted f g 0 count h) ∙ behind count (omega (arith, lt))
    ∙ same_test count run (suc count) (one_more run) (λ le. omega (arith, le, lt)) (λ le. omega (arith, le))

-- ---- runs of words

-- the buffer that word i from place p on names
abbrev named_from : List ℕ → List (List ℕ) → ℕ → ℕ → Option (List ℕ)
named_from b buffers p i = named_buffer b buffers (words_at p 0) i

first_word : (b : List ℕ) (buffers : List (List ℕ)) (p : ℕ) → named_from b buffers p 0 ≡ option_and_then (slice_get buffers) (number b p 4)
first_word b buffers p = ap (λ i. option_and_then (slice_get buffers) (number b i 4)) (let here : p + 4 * 0 ≡ p = omega arith in here)

next_word : (b : List ℕ) (buffers : List (List ℕ)) (p q j : ℕ) → q ≡ p + 4 → named_from b buffers p (j + 1) ≡ named_from b buffers q j
next_word b buffers p q j e = ap (λ i. option_and_then (slice_get buffers) (number b i 4)) (let there : p + 4 * (j + 1) ≡ q + 4 * j = omega (arith, e) in there)

past : (buffers : List (List ℕ)) (k : ℕ) → length buffers ≤ k → slice_get buffers k ≡ None
past [] k h = refl
past (x ∷ xs) zero h = absurd (omega arith)
past (x ∷ xs) (suc k) h = past xs k (omega (arith, h))

pub no_word : (b : List ℕ) (buffers : List (List ℕ)) (p : ℕ) → number b p 4 ≡ None → IsRun b buffers p 0
unfolding IsRun
no_word b buffers p e count lt = run_zero (named_from b buffers p) count (first_word b buffers p ∙ ap (option_and_then (slice_get buffers)) e)

pub no_buffer : (b : List ℕ) (buffers : List (List ℕ)) (p k : ℕ) → number b p 4 ≡ Some k → length buffers ≤ k → IsRun b buffers p 0
unfolding IsRun
no_buffer b buffers p k e h count lt =
    run_zero (named_from b buffers p) count (first_word b buffers p ∙ ap (option_and_then (slice_get buffers)) e ∙ past buffers k h)

longer : (b : List ℕ) (buffers : List (List ℕ)) (p q k run : ℕ) → number b p 4 ≡ Some k → k < length buffers → q ≡ p + 4 → IsRun b buffers q run → IsRun b buffers p (one_more run)
unfolding IsRun
longer b buffers p q k run e h next behind count lt =
    run_more (named_from b buffers p) (named_from b buffers q) (get_or buffers k []) run count (first_word b buffers p ∙ ap (option_and_then (slice_get buffers)) e ∙ slice_get-get_or buffers k [] h) (λ j. next_word b buffers p q j next) behind lt

-- ---- the runs of a buffer

at_run : (b : List ℕ) (buffers : List (List ℕ)) (runs : List ℕ) (i : ℕ) → AreRuns b buffers runs → i < length runs → IsRun b buffers (length b - i) (get_or runs i 0)
unfolding AreRuns
at_run b buffers runs i h lt = h i lt

-- a word lies four places before the end, or more
pub four_runs : (b runs : List ℕ) (k : ℕ) → length runs ≤ length b → number b (length b - length runs) 4 ≡ Some k → 4 ≤ length runs
four_runs b runs k le e = omega (arith, le, number_within b (length b - length runs) 4 k e)

pub next_is : (b : List ℕ) (buffers : List (List ℕ)) (runs : List ℕ) (k : ℕ) → length runs ≤ length b → AreRuns b buffers runs → number b (length b - length runs) 4 ≡ Some k → k < length buffers → IsRun b buffers (length b - length runs) (one_more (get_or runs (length runs - 4) 0))
next_is b buffers runs k le h e lt =
    let four = four_runs b runs k le e in
    longer b buffers (length b - length runs) (length b - (length runs - 4)) k (get_or runs (length runs - 4) 0) e lt (omega (arith, le, four)) (at_run b buffers runs (length runs - 4) h (omega (arith, four)))

pub none_yet : (b : List ℕ) (buffers : List (List ℕ)) → AreRuns b buffers []
unfolding AreRuns
none_yet b buffers i lt = absurd (omega (arith, lt))

moved : (b : List ℕ) (buffers : List (List ℕ)) (p q m n : ℕ) → p ≡ q → m ≡ n → IsRun b buffers q n → IsRun b buffers p m
moved b buffers p q m n e f h = subst (λ k. IsRun b buffers k m) (sym e) (subst (IsRun b buffers q) (sym f) h)

pub pushed : (b : List ℕ) (buffers : List (List ℕ)) (runs : List ℕ) (x : ℕ) → AreRuns b buffers runs → IsRun b buffers (length b - length runs) x → AreRuns b buffers (runs ++ (x ∷ []))
unfolding AreRuns
pushed b buffers runs x h last i lt = by (leb (suc i) (length runs)) refl
  where
    by : (t : Bool) → leb (suc i) (length runs) ≡ t → IsRun b buffers (length b - i) (get_or (runs ++ (x ∷ [])) i 0)
    by true e =
        let under : i < length runs = leb-true (suc i) (length runs) e in
        moved b buffers (length b - i) (length b - i) (get_or (runs ++ (x ∷ [])) i 0) (get_or runs i 0) refl (get_or_append_left runs (x ∷ []) 0 i under) (h i under)
    by false e =
        let same : length runs ≡ i = omega (arith, leb-false (suc i) (length runs) e, lt, length-append runs (x ∷ [])) in
        moved b buffers (length b - i) (length b - length runs) (get_or (runs ++ (x ∷ [])) i 0) x (ap (λ n. length b - n) (sym same)) (get_or_push runs x 0 i same) last

run_tells : (b : List ℕ) (buffers : List (List ℕ)) (p run count : ℕ) → IsRun b buffers p run → count < 2 ^ 32 → is_some (named_buffers b buffers (words_at p count)) ≡ leb count run
unfolding IsRun
run_tells b buffers p run count h lt = h count lt

pub began : (b : List ℕ) (buffers : List (List ℕ)) (runs : List ℕ) → runs ≡ [] → (length runs ≡ 0) × AreRuns b buffers runs
began b buffers runs e = (ap length e, subst (AreRuns b buffers) (sym e) (none_yet b buffers))

pub went_on : (b : List ℕ) (buffers : List (List ℕ)) (runs seen more : List ℕ) (x i : ℕ) → seen ≡ runs → more ≡ runs ++ (x ∷ []) → (length runs ≡ i) × AreRuns b buffers runs → IsRun b buffers (length b - length seen) x → (length more ≡ i + 1) × AreRuns b buffers more
went_on b buffers runs seen more x i same e h last =
    (omega (arith, ap length e, length-append runs (x ∷ []), h.0), subst (AreRuns b buffers) (sym e) (pushed b buffers runs x h.1 (subst (λ (xs : List ℕ). IsRun b buffers (length b - length xs) x) same last)))

-- what is looked up is whether all are named
found_at : (b : List ℕ) (buffers : List (List ℕ)) (runs : List ℕ) (first count run : ℕ) → (length b < 2 ^ 32) × (length runs ≡ length b + 1) × AreRuns b buffers runs → first + 4 * count ≤ length b → run ≡ get_or runs (length b - first) 0 → leb count run ≡ is_some (named_buffers b buffers (words_at first count))
found_at b buffers runs first count run known within e =
    let small = known.0 in
    let long = known.1 in
    sym (run_tells b buffers first run count (moved b buffers first (length b - (length b - first)) run (get_or runs (length b - first) 0) (omega (arith, within)) e (at_run b buffers runs (length b - first) known.2 (omega (arith, within, long)))) (omega (arith, small, within)))

pub looked_up : (b : List ℕ) (buffers : List (List ℕ)) (runs : List ℕ) (v : BodyView) (first count run len : ℕ) → (length b < 2 ^ 32) × (length runs ≡ length b + 1) × AreRuns b buffers runs → ◌≡◌ {A = BodyView} (record { flat = b; buffers = buffers }) v → first + 4 * count ≤ length v.flat → len ≡ length b → run ≡ get_or runs (len - first) run
    → leb count run ≡ is_some (named_buffers v.flat v.buffers (words_at first count))
looked_up b buffers runs v first count run len known view within size e =
    subst (λ (w : BodyView). first + 4 * count ≤ length w.flat → leb count run ≡ is_some (named_buffers w.flat w.buffers (words_at first count))) view (λ within. found_at b buffers runs first count run known within (e ∙ get_or_default_zero runs (len - first) run (omega (arith, size, within, known.1)) ∙ ap (λ n. get_or runs (n - first) 0) size)) within

counted : (b : List ℕ) (buffers : List (List ℕ)) (v : VectorShape) (o : Option (List (List ℕ))) → named_buffers b buffers v ≡ o → is_some o ≡ true → named_count b buffers v ≡ Some v.count
counted b buffers v None e some = absurd cc
counted b buffers v (Some named) e some = ap (option_map length) e ∙ ap Some (sym (named_count_is b buffers named v e))

-- where all of them name buffers, they are counted
pub all_named : (b c : List ℕ) (buffers : List (List ℕ)) (v : VectorShape) (first count : ℕ) (found : Bool) → b ≡ c → first ≡ v.first → count ≡ v.count → v.width ≡ 4 → found ≡ is_some (named_buffers c buffers (words_at first count)) → found ≡ true → named_count b buffers v ≡ Some count
all_named b c buffers v first count found same first_is count_is width told some =
    let some_named : is_some (named_buffers b buffers v) ≡ true =
    (λ i. is_some (named_buffers (same i) buffers (record { first = sym first_is i; width = width i; count = sym count_is i }))) ∙ sym told ∙ some in
    counted b buffers v (named_buffers b buffers v) refl some_named ∙ ap Some (sym count_is)
