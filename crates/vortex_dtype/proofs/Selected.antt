-- Fields that are selected by names.
use Rattle.std.proofs.Common.{◌≡◌, ℕ, zero, suc, ◌+◌, ◌<◌, ◌≤◌, Bool, true, false, cond, List, [], ◌∷◌, ◌++◌, take, drop, length, get_or, Option, Some, None, Ok, Err, refl, sym, ap, ◌∙◌, arith, inl, inr}
use Rattle.std.specs.Prelude.{slice_get, ok_or, option_and_then, ◌⊎◌}
use Rattle.std.specs.Option.{option_map}
use Rattle.std.specs.Str.{bytes_eq}
use Rattle.vortex_terms.specs.Term.{Term, Fields, no_fields, field}
use Rattle.vortex_terms.specs.Types.{names_of, fields_from, fields_append, field_at, field_count, field_named, place_of}
use Rattle.vortex_terms.specs.StructFields.{projected}
use Rattle.vortex_names.specs.declared.error.DTypeError.{DTypeError}
use Rattle.vortex_names.specs.declared.error.DTypeError.TheVariants as error
use Rattle.vortex_names.specs.declared.selector.Field.{Field}
use Rattle.vortex_dtype.specs.ViewFields.{selected_names}
use Rattle.vortex_types.proofs.Fields.{fields_drop, drop_all}
use Rattle.vortex_types.proofs.Projected.{project_none, project_step, project_all}

-- ---- the place of a name

-- no field before the i-th has the name
abbrev pub Searched : Fields → List ℕ → ℕ → Type 0
Searched fs x i = place_of fs x ≡ option_map (λ j. i + j) (place_of (fields_drop i fs) x)

plus : (o : Option ℕ) → o ≡ option_map (λ j. 0 + j) o
plus None = refl
plus (Some j) = let same : j ≡ 0 + j = omega arith in ap Some same

pub search_first : (fs : Fields) (x : List ℕ) → Searched fs x 0
search_first fs x = plus (place_of fs x)

first_of : (y z x : List ℕ) (t : Term) (fs : Fields) → Some y ≡ Some z → bytes_eq z x ≡ true → place_of (field y t fs) x ≡ Some 0
first_of y z x t fs e h =
    let same : y ≡ z = cc in ap (λ c. cond c (Some 0) (option_map suc (place_of fs x))) (ap (λ w. bytes_eq w x) same ∙ h)

later_of : (y z x : List ℕ) (t : Term) (fs : Fields) → Some y ≡ Some z → bytes_eq z x ≡ false → place_of (field y t fs) x ≡ option_map suc (place_of fs x)
later_of y z x t fs e h =
    let same : y ≡ z = cc in ap (λ c. cond c (Some 0) (option_map suc (place_of fs x))) (ap (λ w. bytes_eq w x) same ∙ h)

here : (fs : Fields) (x z : List ℕ) (i : ℕ) → slice_get (names_of fs) i ≡ Some z → bytes_eq z x ≡ true → place_of (fields_drop i fs) x ≡ Some 0
here no_fields x z i e h = absurd (cc)
here (field y t fs) x z zero e h = first_of y z x t fs e h
here (field y t fs) x z (suc i) e h = here fs x z i e h

pub search_here : (fs : Fields) (x z : List ℕ) (i : ℕ) → slice_get (names_of fs) i ≡ Some z → bytes_eq x z ≡ true → bytes_eq z x ≡ bytes_eq x z → Searched fs x i → Some i ≡ place_of fs x
search_here fs x z i e h flip s =
    let same : i ≡ i + 0 = omega arith in
    ap Some same ∙ sym (s ∙ ap (option_map (λ j. i + j)) (here fs x z i e (flip ∙ h)))

there : (fs : Fields) (x z : List ℕ) (i : ℕ) → slice_get (names_of fs) i ≡ Some z → bytes_eq z x ≡ false → place_of (fields_drop i fs) x ≡ option_map suc (place_of (fields_drop (suc i) fs) x)
there no_fields x z i e h = absurd (cc)
there (field y t fs) x z zero e h = later_of y z x t fs e h
there (field y t fs) x z (suc i) e h = there fs x z i e h

pub search_on : (fs : Fields) (x z : List ℕ) (i : ℕ) → slice_get (names_of fs) i ≡ Some z → bytes_eq x z ≡ false → bytes_eq z x ≡ bytes_eq x z → Searched fs x i → Searched fs x (i + 1)
search_on fs x z i e h flip s =
    let next : suc i ≡ i + 1 = omega arith in
    s ∙ ap (option_map (λ j. i + j)) (there fs x z i e (flip ∙ h)) ∙ by (place_of (fields_drop (suc i) fs) x)
    ∙ ap (λ k. option_map (λ j. i + 1 + j) (place_of (fields_drop k fs) x)) next
  where
    by : (o : Option ℕ) → option_map (λ j. i + j) (option_map suc o) ≡ option_map (λ j. i + 1 + j) o
    by None = refl
    by (Some j) = let same : i + suc j ≡ i + 1 + j = omega arith in ap Some same

pub search_none : (fs : Fields) (x : List ℕ) (i : ℕ) → field_count fs ≡ i → Searched fs x i → None ≡ place_of fs x
search_none fs x i e s = sym (s ∙ ap (λ gs. option_map (λ j. i + j) (place_of gs x)) (drop_all fs i e))

-- ---- the type of a name

count_of : (fs : Fields) (x : List ℕ) (i : ℕ) → place_of fs x ≡ Some i → i < field_count fs
count_of no_fields x i e = absurd (cc)
count_of (field y t fs) x i e = by (bytes_eq y x) (place_of fs x) (λ j h. count_of fs x j h) e
  where
    below : (j i : ℕ) → j < field_count fs → Some (suc j) ≡ Some i → i < suc (field_count fs)
    below j i h e = let same : suc j ≡ i = cc in omega arith

    first : (i : ℕ) → Some 0 ≡ Some i → i < suc (field_count fs)
    first i e = let same : 0 ≡ i = cc in omega arith

    by : (c : Bool) (o : Option ℕ) → ((j : ℕ) → o ≡ Some j → j < field_count fs) → cond c (Some 0) (option_map suc o) ≡ Some i → i < suc (field_count fs)
    by true o h e = first i e
    by false None h e = absurd (cc)
    by false (Some j) h e = below j i (h j refl) e

pub found_within : (fs : Fields) (x : List ℕ) (i : ℕ) → Some i ≡ place_of fs x → i < field_count fs
found_within fs x i e = count_of fs x i (sym e)

pub named_at : (fs : Fields) (x : List ℕ) (i : ℕ) (t : Term) → Some i ≡ place_of fs x → field_at fs i ≡ Some t → field_named fs x ≡ Some t
named_at fs x i t e h = ap (option_and_then (field_at fs)) (sym e) ∙ h

pub not_named : (fs : Fields) (x : List ℕ) → None ≡ place_of fs x → field_named fs x ≡ None
not_named fs x e = ap (option_and_then (field_at fs)) (sym e)

-- ---- the types of names

taken_get : (xs : List (List ℕ)) (i : ℕ) (x : List ℕ) → i < length xs → x ≡ get_or xs i x → take i xs ++ x ∷ [] ≡ take (suc i) xs
taken_get [] i x h e = absurd (omega arith)
taken_get (y ∷ xs) zero x h e = ap (λ z. z ∷ []) e
taken_get (y ∷ xs) (suc i) x h e = ap (λ ys. y ∷ ys) (taken_get xs i x (omega arith) e)

-- what the types so far make
pub record Types (fs : Fields) (xs : List (List ℕ)) (i : ℕ) (ts : List Term) : Type 0 where
  pub as_many : length (take i xs) ≡ length ts
  pub rest : option_map (fields_append (fields_from (take i xs) ts)) (projected fs (drop i xs)) ≡ projected fs xs

pub types_first : (fs : Fields) (xs : List (List ℕ)) → Types fs xs 0 []
types_first fs xs = record { as_many = refl; rest = by (projected fs xs) }
  where
    by : (o : Option Fields) → option_map (fields_append no_fields) o ≡ o
    by None = refl
    by (Some gs) = refl

some_ok : (o : Option Term) (t : Term) → ok_or o error.FieldNotFound ≡ Ok t → Some t ≡ o
some_ok None t e = absurd (cc)
some_ok (Some u) t e = let same : u ≡ t = cc in ap Some (sym same)

pub types_on : (fs : Fields) (xs : List (List ℕ)) (i : ℕ) (ts : List Term) (x : List ℕ) (t : Term) → i < length xs → x ≡ get_or xs i x → ok_or (field_named fs x) error.FieldNotFound ≡ Ok t → Types fs xs i ts → Types fs xs (i + 1) (ts ++ t ∷ [])
types_on fs xs i ts x t h e found all =
    let next : suc i ≡ i + 1 = omega arith in
    let step = project_step fs (take i xs) ts xs i x t all.as_many h e (some_ok (field_named fs x) t found) all.rest in
    let longer : take i xs ++ x ∷ [] ≡ take (i + 1) xs = taken_get xs i x h e ∙ ap (λ k. take k xs) next in
    record {
      as_many = ap (λ ys. length ys) (sym longer) ∙ step.0;
      rest = ap (λ ys. option_map (fields_append (fields_from ys (ts ++ t ∷ []))) (projected fs (drop (i + 1) xs))) (sym longer) ∙ step.1;
    }

none_err : (o : Option Term) (e : DTypeError) → ok_or o error.FieldNotFound ≡ Err e → None ≡ o
none_err None e h = refl
none_err (Some u) e h = absurd (cc)

same_err : (o : Option Term) (e : DTypeError) → ok_or o error.FieldNotFound ≡ Err e → error.FieldNotFound ≡ e
same_err None e h = cc
same_err (Some u) e h = absurd (cc)

pub types_refused : (fs : Fields) (xs : List (List ℕ)) (i : ℕ) (ts : List Term) (x : List ℕ) (e : DTypeError) → i < length xs → x ≡ get_or xs i x → (e ≡ error.OutOfMemory) ⊎ (ok_or (field_named fs x) error.FieldNotFound ≡ Err e) → Types fs xs i ts → (e ≡ error.OutOfMemory) ⊎ (ok_or (projected fs xs) error.FieldNotFound ≡ Err e)
types_refused fs xs i ts x e h is (inl m) all = inl m
types_refused fs xs i ts x e h is (inr r) all =
    inr (ap (λ o. ok_or o error.FieldNotFound) (project_none fs (fields_from (take i xs) ts) xs i x h is (none_err (field_named fs x) e r) all.rest) ∙ ap Err (same_err (field_named fs x) e r))

all_taken : (xs : List (List ℕ)) (i : ℕ) → length xs ≤ i → take i xs ≡ xs
all_taken [] zero e = refl
all_taken [] (suc i) e = refl
all_taken (x ∷ xs) zero e = absurd (omega arith)
all_taken (x ∷ xs) (suc i) e = ap (λ ys. x ∷ ys) (all_taken xs i (omega arith))

pub types_all : (fs : Fields) (xs : List (List ℕ)) (i : ℕ) (ts : List Term) → length xs ≤ i → Types fs xs i ts → ok_or (projected fs xs) error.FieldNotFound ≡ Ok (fields_from xs ts)
types_all fs xs i ts h all =
    ap (λ o. ok_or o error.FieldNotFound) (project_all fs (fields_from (take i xs) ts) xs i h all.rest)
    ∙ ap (λ ys. Ok (fields_from ys ts)) (all_taken xs i h)

pub types_many : (fs : Fields) (xs : List (List ℕ)) (i : ℕ) (ts : List Term) → length xs ≤ i → Types fs xs i ts → length xs ≡ length ts
types_many fs xs i ts h all = ap (λ ys. length ys) (sym (all_taken xs i h)) ∙ all.as_many

-- ---- names

-- the names so far, and then those of the other selectors
abbrev pub Names : List Field → ℕ → List (List ℕ) → Type 0
Names fs i xs = option_map (λ ys. xs ++ ys) (selected_names (drop i fs)) ≡ selected_names fs

pub names_first : (fs : List Field) → Names fs 0 []
names_first fs = by (selected_names fs)
  where
    by : (o : Option (List (List ℕ))) → option_map (λ ys. [] ++ ys) o ≡ o
    by None = refl
    by (Some ys) = refl
