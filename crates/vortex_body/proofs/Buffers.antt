-- How the buffers of a region are cut.
use Rattle.std.proofs.Common.{◌≡◌, ℕ, zero, suc, ◌+◌, ◌-◌, ◌<◌, ◌≤◌, Bool, true, false, cond, eqb, leb, List, [], ◌∷◌, ◌++◌, length, take, drop, Option, Some, None, ◌⊎◌, inl, inr, refl, sym, ap, ◌∙◌, arith}
use Rattle.std.specs.Prelude.{◌&&◌, slice_range}
use Rattle.std.specs.Option.{option_map}
use Rattle.std.proofs.lemmas.Bool.{eq-eqb, le-leb, lt-leb, eqb-true}
use Rattle.std.proofs.lemmas.List.{append_assoc, append-nil, length-drop}
use Rattle.vortex_prelude.specs.Elements.{elements}
use Rattle.vortex_body.specs.Answers.{Refuses}
use Rattle.vortex_body.specs.declared.error.BodyError.{BodyError}
use Rattle.vortex_body.specs.declared.error.BodyError.TheVariants.{Malformed, OutOfMemory}
use Rattle.vortex_body.specs.Body.{BufferDescriptor, buffers_in}
use Rattle.vortex_body.specs.inner.Walked.{buffers_from, next_buffer}
use Rattle.vortex_body.proofs.Walking.{elements_more, elements_end}

fail_if : {A : Type 0} (s t : Bool) (x : A) → (s ≡ false) ⊎ (t ≡ false) → cond (s && t) (Some x) None ≡ None
fail_if true true x (inl e) = absurd cc
fail_if true true x (inr e) = absurd cc
fail_if true false x h = refl
fail_if false t x h = refl

not_zero : (n : ℕ) (t : Bool) → eqb n 0 ≡ t → (n ≡ 0 → ⊥) → t ≡ false
not_zero n true e h = absurd (h (eqb-true n 0 e))
not_zero n false e h = refl

pub next_fails : (d : BufferDescriptor) (region : List ℕ) → (d.compression ≡ 0 → ⊥) ⊎ (length region < d.padding + d.length) → next_buffer d region ≡ None
unfolding next_buffer
next_fails d region (inl h) = fail_if (eqb d.compression 0) (leb (d.padding + d.length) (length region)) _ (inl (not_zero d.compression (eqb d.compression 0) refl h))
next_fails d region (inr h) = fail_if (eqb d.compression 0) (leb (d.padding + d.length) (length region)) _ (inr (lt-leb (d.padding + d.length) (length region) h))

take_all : (xs : List ℕ) (n : ℕ) → length xs ≤ n → take n xs ≡ xs
take_all [] zero h = refl
take_all [] (suc n) h = refl
take_all (x ∷ xs) zero h = absurd (omega arith)
take_all (x ∷ xs) (suc n) h = ap (λ ys. x ∷ ys) (take_all xs n (omega arith))

pub next_there : (d : BufferDescriptor) (region x y : List ℕ) → d.compression ≡ 0 → d.padding + d.length ≤ length region → x ≡ slice_range region d.padding (d.padding + d.length) → y ≡ slice_range region (d.padding + d.length) (length region) → next_buffer d region ≡ Some (x, y)
unfolding next_buffer
next_there d region x y c h first rest =
    let size : d.padding + d.length - d.padding ≡ d.length = omega arith in
    let front : take d.length (drop d.padding region) ≡ x = sym (first ∙ ap (λ n. take n (drop d.padding region)) size) in
    let back : drop (d.padding + d.length) region ≡ y = sym (rest ∙ take_all (drop (d.padding + d.length) region) (length region - (d.padding + d.length)) (dropped (d.padding + d.length) region)) in
    rw (eq-eqb d.compression 0 c, le-leb (d.padding + d.length) (length region) h) (λ i. Some (front i, back i))
  where
    dropped : (n : ℕ) (xs : List ℕ) → length (drop n xs) ≤ length xs - n
    dropped n xs = omega (arith, length-drop n xs)

-- ---- a list of them

-- the first buffer and the region behind it
abbrev both : BufferDescriptor → List ℕ → List ℕ × List ℕ
both d region = (take d.length (drop d.padding region), drop (d.padding + d.length) region)

same_pair : (p q : List ℕ × List ℕ) → Some p ≡ Some q → p ≡ q
same_pair p q e = cc

none_behind : (region : List ℕ) (d : BufferDescriptor) (ds : List BufferDescriptor) → next_buffer d region ≡ None → buffers_in region (d ∷ ds) ≡ None
unfolding next_buffer buffers_in
none_behind region d ds e = by (eqb d.compression 0 && leb (d.padding + d.length) (length region)) (option_map (λ buffers. take d.length (drop d.padding region) ∷ buffers) (buffers_in (drop (d.padding + d.length) region) ds)) e
  where
    by : (t : Bool) (o : Option (List (List ℕ))) → cond t (Some (both d region)) None ≡ None → cond t o None ≡ None
    by true o e = absurd cc
    by false o e = refl

first_behind : (region : List ℕ) (d : BufferDescriptor) (ds : List BufferDescriptor) (p : List ℕ × List ℕ) → next_buffer d region ≡ Some p → buffers_in region (d ∷ ds) ≡ option_map (λ buffers. p.0 ∷ buffers) (buffers_in p.1 ds)
unfolding next_buffer buffers_in
first_behind region d ds p e = by (eqb d.compression 0 && leb (d.padding + d.length) (length region)) (λ (q : List ℕ × List ℕ). option_map (λ buffers. q.0 ∷ buffers) (buffers_in q.1 ds)) e
  where
    by : (t : Bool) (k : List ℕ × List ℕ → Option (List (List ℕ))) → cond t (Some (both d region)) None ≡ Some p → cond t (k (both d region)) None ≡ k p
    by true k e = ap k (same_pair (both d region) p e)
    by false k e = absurd cc

from_none : (region : List ℕ) (d : BufferDescriptor) (o : Option (List BufferDescriptor)) → next_buffer d region ≡ None → buffers_from region (option_map (λ ds. d ∷ ds) o) ≡ None
from_none region d None e = refl
from_none region d (Some ds) e = none_behind region d ds e

from_first : (region : List ℕ) (d : BufferDescriptor) (x rest : List ℕ) (o : Option (List BufferDescriptor)) → next_buffer d region ≡ Some (x, rest) → buffers_from region (option_map (λ ds. d ∷ ds) o) ≡ option_map (λ buffers. x ∷ buffers) (buffers_from rest o)
from_first region d x rest None e = refl
from_first region d x rest (Some ds) e = first_behind region d ds (x, rest) e

append_more : (xs : List (List ℕ)) (x : List ℕ) (o : Option (List (List ℕ))) → option_map (λ bs. xs ++ bs) (option_map (λ bs. x ∷ bs) o) ≡ option_map (λ bs. (xs ++ (x ∷ [])) ++ bs) o
append_more xs x None = refl
append_more xs x (Some bs) = ap Some (sym (append_assoc xs (x ∷ []) bs))

pub none_cut : (f : ℕ → Option BufferDescriptor) (i n : ℕ) (d : BufferDescriptor) (xs : List (List ℕ)) (region : List ℕ) (total : Option (List (List ℕ))) → i < n → f i ≡ Some d → next_buffer d region ≡ None → option_map (λ bs. xs ++ bs) (buffers_from region (elements f i (n - i))) ≡ total → total ≡ None
none_cut f i n d xs region total lt e none h =
    sym h ∙ ap (λ o. option_map (λ bs. xs ++ bs) (buffers_from region o)) (elements_more f i n d lt e) ∙ ap (option_map (λ bs. xs ++ bs)) (from_none region d (elements f (i + 1) (n - (i + 1))) none)

pub one_cut : (f : ℕ → Option BufferDescriptor) (i n : ℕ) (d : BufferDescriptor) (xs : List (List ℕ)) (region x rest : List ℕ) (total : Option (List (List ℕ))) → i < n → f i ≡ Some d → next_buffer d region ≡ Some (x, rest) → option_map (λ bs. xs ++ bs) (buffers_from region (elements f i (n - i))) ≡ total
    → option_map (λ bs. (xs ++ (x ∷ [])) ++ bs) (buffers_from rest (elements f (i + 1) (n - (i + 1)))) ≡ total
one_cut f i n d xs region x rest total lt e some h =
    let others = elements f (i + 1) (n - (i + 1)) in
    sym (append_more xs x (buffers_from rest others)) ∙ sym (ap (λ o. option_map (λ bs. xs ++ bs) (buffers_from region o)) (elements_more f i n d lt e) ∙ ap (option_map (λ bs. xs ++ bs)) (from_first region d x rest others some)) ∙ h

no_descriptors : (region : List ℕ) → buffers_in region [] ≡ Some []
unfolding buffers_in
no_descriptors region = refl

pub all_cut : (f : ℕ → Option BufferDescriptor) (i n : ℕ) (xs : List (List ℕ)) (region : List ℕ) (total : Option (List (List ℕ))) → n ≤ i → option_map (λ bs. xs ++ bs) (buffers_from region (elements f i (n - i))) ≡ total → total ≡ Some xs
all_cut f i n xs region total le h =
    sym h ∙ ap (λ o. option_map (λ bs. xs ++ bs) (buffers_from region o)) (elements_end f i n le) ∙ ap (option_map (λ bs. xs ++ bs)) (no_descriptors region) ∙ ap Some (append-nil xs)

pub cut_refused : (f : ℕ → Option BufferDescriptor) (i n : ℕ) (d : BufferDescriptor) (xs : List (List ℕ)) (region : List ℕ) (e : BodyError) (total : Option (List (List ℕ))) → i < n → f i ≡ Some d → Refuses e (next_buffer d region) → option_map (λ bs. xs ++ bs) (buffers_from region (elements f i (n - i))) ≡ total → Refuses e total
cut_refused f i n d xs region Malformed total lt e none h = none_cut f i n d xs region total lt e none h
cut_refused f i n d xs region OutOfMemory total lt e none h = tt
