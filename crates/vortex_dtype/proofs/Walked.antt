-- Names of fields that are gone over one after the other.
use Rattle.std.proofs.Common.{◌≡◌, ℕ, zero, suc, ◌+◌, ◌≤◌, Bool, true, false, cond, List, [], ◌∷◌, drop, length, Option, Some, None, refl, sym, ap, ◌∙◌, arith}
use Rattle.std.specs.Option.{option_map_or}
use Rattle.std.specs.Prelude.{slice_get}
use Rattle.std.specs.List.{position_from}
use Rattle.std.proofs.lemmas.Iterator.Adapters.{position_from-zero}
use Rattle.std.specs.Str.{bytes_eq}
use Rattle.std.specs.Prelude.{nat_eq, ◌||◌, option_and_then}
use Rattle.vortex_terms.specs.Path.{by_name, element, step_type}
use Rattle.vortex_terms.specs.Term.{Term, null, boolean, primitive, decimal, utf8, binary, structure, list, extension, fixed_size_list, Fields}
use Rattle.vortex_terms.specs.Types.{names_of, field_at, field_count, part_at, place_of, type_number}
use Rattle.vortex_terms.specs.FieldLaws.{field_at-get, length-names_of, place_of-position}
use Rattle.vortex_types.specs.Accessors.{fields_of}

drop_end : {A : Type 0} (xs : List A) (i : ℕ) → length xs ≤ i → drop i xs ≡ []
drop_end [] zero h = refl
drop_end [] (suc i) h = refl
drop_end (x ∷ xs) zero h = absurd (omega arith)
drop_end (x ∷ xs) (suc i) h = drop_end xs i (omega arith)

module _ (p : List ℕ → Bool) where
  here_suc : (names : List (List ℕ)) (i n : ℕ) → position_from p n (drop i names) ≡ cond (option_map_or p (slice_get names i) false) (Some n) (position_from p (n + 1) (drop (suc i) names))
  here_suc [] zero n = refl
  here_suc [] (suc i) n = refl
  here_suc (x ∷ names) zero n = refl
  here_suc (x ∷ names) (suc i) n = here_suc names i n

  here : (names : List (List ℕ)) (i : ℕ) → position_from p i (drop i names) ≡ cond (option_map_or p (slice_get names i) false) (Some i) (position_from p (i + 1) (drop (i + 1) names))
  here names i =
      let next : suc i ≡ i + 1 = omega arith in
      here_suc names i i ∙ ap (λ (j : ℕ). cond (option_map_or p (slice_get names i) false) (Some i) (position_from p (i + 1) (drop j names))) next

-- the first place of a name from a place on
abbrev pub place_from : Fields → List ℕ → ℕ → Option ℕ
place_from fs x i = position_from (λ y. bytes_eq y x) i (drop i (names_of fs))

pub place_start : (fs : Fields) (x : List ℕ) → place_from fs x 0 ≡ place_of fs x
place_start fs x = sym (place_of-position fs x ∙ position_from-zero (λ y. bytes_eq y x) (names_of fs))

-- the first place is this one where the name stands here, and else one behind it
pub place_step : (fs : Fields) (x : List ℕ) (i : ℕ) (o : Option (List ℕ)) (b : Bool) (whole : Option ℕ) → o ≡ slice_get (names_of fs) i → b ≡ option_map_or (λ y. bytes_eq y x) o false
    → place_from fs x i ≡ whole → cond b (Some i) (place_from fs x (i + 1)) ≡ whole
place_step fs x i o b whole found tested so_far =
    ap (λ (c : Bool). cond c (Some i) (place_from fs x (i + 1))) (tested ∙ ap (λ (q : Option (List ℕ)). option_map_or (λ y. bytes_eq y x) q false) found)
    ∙ sym (here (λ y. bytes_eq y x) (names_of fs) i) ∙ so_far

-- the first place of a name from here on, where it is known from behind here on
pub place_before : (fs : Fields) (i : ℕ) (x q : List ℕ) (o n : Option ℕ) → slice_get (names_of fs) i ≡ Some x → o ≡ place_from fs q (i + 1)
    → n ≡ cond (bytes_eq x q) (Some i) o → n ≡ place_from fs q i
place_before fs i x q o n found known updated =
    updated ∙ ap (λ (p : Option ℕ). cond (bytes_eq x q) (Some i) p) known
    ∙ ap (λ (p : Option (List ℕ)). cond (option_map_or (λ y. bytes_eq y q) p false) (Some i) (place_from fs q (i + 1))) (sym found)
    ∙ sym (here (λ y. bytes_eq y q) (names_of fs) i)

-- it is nowhere where no name is left
pub place_end : (fs : Fields) (x : List ℕ) (i : ℕ) (whole : Option ℕ) → field_count fs ≤ i → place_from fs x i ≡ whole → None ≡ whole
place_end fs x i whole h so_far =
    let none : drop i (names_of fs) ≡ [] = drop_end (names_of fs) i (omega (arith, length-names_of fs, h)) in
    ap (position_from (λ y. bytes_eq y x) i) (sym none) ∙ so_far

-- no name stands behind the last field
pub place_none : (fs : Fields) (q : List ℕ) (i : ℕ) → i ≡ field_count fs → None ≡ place_from fs q i
place_none fs q i e = place_end fs q i (place_from fs q i) (omega (arith, e)) refl

-- ---- one step in a type

no_some : {A : Type 0} (i : A) → Some i ≡ None → ⊥
no_some i e = absurd (cc)

pub step_found : (t : Term) (x : List ℕ) (i : ℕ) → Some i ≡ place_of (fields_of t) x → part_at t i ≡ step_type t (by_name x)
step_found (structure fs n) x i e = sym (field_at-get fs i) ∙ ap (option_and_then (field_at fs)) e
step_found null x i e = absurd (no_some i e)
step_found (boolean n) x i e = absurd (no_some i e)
step_found (primitive k n) x i e = absurd (no_some i e)
step_found (decimal p s n) x i e = absurd (no_some i e)
step_found (utf8 n) x i e = absurd (no_some i e)
step_found (binary n) x i e = absurd (no_some i e)
step_found (list t n) x i e = absurd (no_some i e)
step_found (extension id t m) x i e = absurd (no_some i e)
step_found (fixed_size_list t k n) x i e = absurd (no_some i e)

pub step_lost : (t : Term) (x : List ℕ) → None ≡ place_of (fields_of t) x → None ≡ step_type t (by_name x)
step_lost (structure fs n) x e = ap (option_and_then (field_at fs)) e
step_lost null x e = refl
step_lost (boolean n) x e = refl
step_lost (primitive k n) x e = refl
step_lost (decimal p s n) x e = refl
step_lost (utf8 n) x e = refl
step_lost (binary n) x e = refl
step_lost (list t n) x e = refl
step_lost (extension id t m) x e = refl
step_lost (fixed_size_list t k n) x e = refl

not_true : false ≡ true → ⊥
not_true e = absurd (cc)

-- the kinds of lists are 8 and 10
abbrev pub is_list_kind : ℕ → Bool
is_list_kind k = nat_eq k 8 || nat_eq k 10

pub step_in : (t : Term) → is_list_kind (type_number t) ≡ true → part_at t 0 ≡ step_type t element
step_in (list t n) e = refl
step_in (fixed_size_list t k n) e = refl
step_in null e = absurd (not_true e)
step_in (boolean n) e = absurd (not_true e)
step_in (primitive k n) e = absurd (not_true e)
step_in (decimal p s n) e = absurd (not_true e)
step_in (utf8 n) e = absurd (not_true e)
step_in (binary n) e = absurd (not_true e)
step_in (structure fs n) e = absurd (not_true e)
step_in (extension id t m) e = absurd (not_true e)

pub no_step_in : (t : Term) → is_list_kind (type_number t) ≡ false → None ≡ step_type t element
no_step_in (list t n) e = absurd (not_true (sym e))
no_step_in (fixed_size_list t k n) e = absurd (not_true (sym e))
no_step_in null e = refl
no_step_in (boolean n) e = refl
no_step_in (primitive k n) e = refl
no_step_in (decimal p s n) e = refl
no_step_in (utf8 n) e = refl
no_step_in (binary n) e = refl
no_step_in (structure fs n) e = refl
no_step_in (extension id t m) e = refl
