-- Types that are read.
use Rattle.std.proofs.Common.{◌≡◌, ℕ, zero, suc, ◌+◌, List, [], ◌∷◌, ◌++◌, take, length, Option, Some, None, Result, Ok, Err, IfOk, IsOkUnless, refl, sym, ap, subst, ◌∙◌, arith, inl, add-one}
use Rattle.std.specs.Prelude.{IsSome, slice_get, unwrap_or}
use Rattle.vortex_terms.specs.Term.{Term, null, Fields}
use Rattle.vortex_terms.specs.Types.{Bounded, IsBytes, names_of, types_of, fields_from, field_at, field_count}
use Rattle.vortex_terms.specs.FieldLaws.{fields_from-parts, length-names_of, length-types_of, field_at-get}
use Rattle.vortex_schema.specs.Reading.{bounded_type_at}
use Rattle.vortex_schema.specs.TypeAt.{IsTypeAt}
use Rattle.vortex_schema.proofs.InPlace.{bounded_there, known_stands}
use Rattle.vortex_names.specs.declared.error.DTypeError.{DTypeError}
use Rattle.vortex_names.specs.declared.error.DTypeError.TheVariants as error
use Rattle.vortex_types.specs.Standing.{StandsAt, IsReadAs}

-- ---- places

is_there : (o : Option Term) (t : Term) → o ≡ Some t → IsSome o
is_there None t e = absurd (cc)
is_there (Some u) t e = refl

pub there : (b : List ℕ) (p : ℕ) (t : Term) → bounded_type_at b p ≡ Some t → IsSome (bounded_type_at b p)
there b p t e = is_there (bounded_type_at b p) t e

pub stands : (b : List ℕ) (p : ℕ) (t : Term) → IsBytes b → bounded_type_at b p ≡ Some t → StandsAt b p (unwrap_or (bounded_type_at b p) null)
stands b p t bytes e = known_stands b p bytes (there b p t e)

not_both : (o : Option Term) (t : Term) → o ≡ None → o ≡ Some t → ⊥
not_both o t e h = absurd (cc)

pub none_stands : (b : List ℕ) (p : ℕ) (t : Term) → bounded_type_at b p ≡ None → StandsAt b p t → ⊥
none_stands b p t e h = not_both (bounded_type_at b p) t e (bounded_there t b p h.0 h.1)

pub known_at : (b : List ℕ) (p : ℕ) → IsBytes b → IsSome (bounded_type_at b p) → IsTypeAt b p (unwrap_or (bounded_type_at b p) null)
known_at b p bytes h = (known_stands b p bytes h).0

pub known_bounded : (b : List ℕ) (p : ℕ) → IsBytes b → IsSome (bounded_type_at b p) → Bounded (unwrap_or (bounded_type_at b p) null)
known_bounded b p bytes h = (known_stands b p bytes h).1

pub known_term : (b : List ℕ) (p : ℕ) (t : Term) → bounded_type_at b p ≡ Some t → t ≡ unwrap_or (bounded_type_at b p) null
known_term b p t e = ap (λ o. unwrap_or o null) (sym e)

-- ---- answers

-- what is made of a type that stands so is read so
pub read_as : {X : Type 0} (view : X → Term) (r : Result X DTypeError) (t : Term) (Stands : Term → Type 0) → Stands t → IfOk r (λ x. view x ≡ t) → IsOkUnless r error.OutOfMemory → IsReadAs view r Stands
read_as view (Ok x) t Stands h e m = subst Stands (sym e) h
read_as view (Err e) t Stands h i m = inl m

-- ---- fields

one_taken : {A : Type 0} (xs : List A) (i : ℕ) (x : A) → slice_get xs i ≡ Some x → take (suc i) xs ≡ take i xs ++ x ∷ []
one_taken [] i x e = absurd (cc)
one_taken {A} (y ∷ xs) zero x e = same y x xs e
  where
    same : (y x : A) (xs : List A) → Some y ≡ Some x → y ∷ take zero xs ≡ x ∷ []
    same y x xs e = cc
one_taken (y ∷ xs) (suc i) x e = ap (λ ys. y ∷ ys) (one_taken xs i x e)

pub name_taken : (fs : Fields) (ns : List (List ℕ)) (i : ℕ) (x : List ℕ) → slice_get (names_of fs) i ≡ Some x → ns ≡ take i (names_of fs) → ns ++ x ∷ [] ≡ take (i + 1) (names_of fs)
name_taken fs ns i x e h = rw (add-one, h) (sym (one_taken (names_of fs) i x e))

pub type_taken : (fs : Fields) (ts : List Term) (i : ℕ) (t : Term) → field_at fs i ≡ Some t → ts ≡ take i (types_of fs) → ts ++ t ∷ [] ≡ take (i + 1) (types_of fs)
type_taken fs ts i t e h = rw (add-one, h) (sym (one_taken (types_of fs) i t (sym (field_at-get fs i) ∙ e)))

all_taken : {A : Type 0} (xs : List A) (i : ℕ) → length xs ≡ i → take i xs ≡ xs
all_taken [] zero e = refl
all_taken [] (suc i) e = absurd (omega arith)
all_taken (x ∷ xs) zero e = absurd (omega arith)
all_taken (x ∷ xs) (suc i) e = ap (λ ys. x ∷ ys) (all_taken xs i (omega arith))

pub as_many : (fs : Fields) (ns : List (List ℕ)) (ts : List Term) (i : ℕ) → field_count fs ≡ i → ns ≡ take i (names_of fs) → ts ≡ take i (types_of fs) → length ns ≡ length ts
as_many fs ns ts i e names types =
    ap (λ xs. length xs) (names ∙ all_taken (names_of fs) i (length-names_of fs ∙ e)) ∙ length-names_of fs
    ∙ sym (length-types_of fs) ∙ ap (λ xs. length xs) (sym (types ∙ all_taken (types_of fs) i (length-types_of fs ∙ e)))

pub all_fields : (fs : Fields) (ns : List (List ℕ)) (ts : List Term) (i : ℕ) → field_count fs ≡ i → ns ≡ take i (names_of fs) → ts ≡ take i (types_of fs) → fields_from ns ts ≡ fs
all_fields fs ns ts i e names types =
    ap (λ xs. fields_from xs ts) (names ∙ all_taken (names_of fs) i (length-names_of fs ∙ e))
    ∙ ap (fields_from (names_of fs)) (types ∙ all_taken (types_of fs) i (length-types_of fs ∙ e)) ∙ fields_from-parts fs
