-- Fields that are made from a struct's fields.
use Rattle.std.proofs.Common.{◌≡◌, ℕ, zero, suc, ◌+◌, ◌<◌, ◌≤◌, List, []}
use Rattle.std.proofs.Common.{◌∷◌, ◌++◌, take, drop, length, get_or, Option, Some, None, Result, Ok}
use Rattle.std.proofs.Common.{Err, IfOk, IsOkUnless, refl, sym, ap, ◌∙◌, arith, add-one, inl}
use Rattle.std.specs.Prelude.{slice_get, option_and_then}
use Rattle.std.specs.Option.{option_map}
use Rattle.std.specs.List.{remove}
use Rattle.std.proofs.lemmas.List.{length-append}
use Rattle.std.proofs.Math.Seq.{drop-cons}
use Rattle.vortex_terms.specs.Term.{Term, Fields, field}
use Rattle.vortex_terms.specs.Types.{names_of, types_of, fields_from, fields_append}
use Rattle.vortex_terms.specs.Types.{field_named}
use Rattle.vortex_terms.specs.StructFields.{projected}
use Rattle.vortex_terms.specs.FieldLaws.{field_named-get, fields_append-none, fields_from-parts}
use Rattle.vortex_terms.specs.FieldLaws.{names_of-append, types_of-append, length-names_of}
use Rattle.vortex_terms.specs.FieldLaws.{length-types_of}
use Rattle.vortex_names.specs.declared.error.DTypeError.{DTypeError}
use Rattle.vortex_names.specs.declared.error.DTypeError.TheVariants as error
use Rattle.vortex_types.specs.Answers.{Answers}
use Rattle.vortex_types.specs.NameIndex.{first_place}

-- what is made of parts that are known is the wanted answer
pub made_answer : (r : Result Fields DTypeError) (fs : Fields) (wanted : Result Fields DTypeError) → wanted ≡ Ok fs
    → IfOk r (λ s. s ≡ fs) → IsOkUnless r error.OutOfMemory → Answers (λ s. s) r wanted
made_answer (Ok s) fs wanted e made memory = e ∙ ap Ok (sym made)
made_answer (Err e) fs wanted w made memory = inl memory

-- the field of a name, found by its place
pub found_field : (fs : Fields) (ns : List (List ℕ)) (ts : List Term) (x : List ℕ) (p : Option ℕ) (o : Option Term)
    → ns ≡ names_of fs → ts ≡ types_of fs → p ≡ first_place ns x → o ≡ option_and_then (slice_get ts) p → o ≡ field_named fs x
found_field fs ns ts x p o n t place e =
    e ∙ (λ i. option_and_then (slice_get (t i)) (place i)) ∙ ap (λ ms. option_and_then (slice_get (types_of fs)) (first_place ms x)) n ∙ sym (field_named-get fs x)

rest_from : (xs : List (List ℕ)) (i : ℕ) (x : List ℕ) → i < length xs → x ≡ get_or xs i x → drop i xs ≡ x ∷ drop (i + 1) xs
rest_from xs i x h e = rw (add-one, e) (drop-cons xs i x h)

-- a name without a field ends it
pub project_none : (fs gs : Fields) (xs : List (List ℕ)) (i : ℕ) (x : List ℕ) → i < length xs → x ≡ get_or xs i x → None ≡ field_named fs x
    → option_map (fields_append gs) (projected fs (drop i xs)) ≡ projected fs xs → projected fs xs ≡ None
project_none fs gs xs i x h e none all =
    sym all ∙ ap (λ ys. option_map (fields_append gs) (projected fs ys)) (rest_from xs i x h e)
    ∙ ap (λ o. option_map (fields_append gs) (option_and_then (λ t. option_map (field x t) (projected fs (drop (i + 1) xs))) o)) (sym none)

-- one more field behind fields
one_more : (ns : List (List ℕ)) (ts : List Term) (x : List ℕ) (t : Term) (hs : Fields) → length ns ≡ length ts
    → fields_append (fields_from ns ts) (field x t hs) ≡ fields_append (fields_from (ns ++ x ∷ []) (ts ++ t ∷ [])) hs
one_more [] [] x t hs e = refl
one_more (n ∷ ns) (u ∷ ts) x t hs e = ap (field n u) (one_more ns ts x t hs (omega arith))
one_more [] (u ∷ ts) x t hs e = absurd (omega arith)
one_more (n ∷ ns) [] x t hs e = absurd (omega arith)

pub project_step : (fs : Fields) (ns : List (List ℕ)) (ts : List Term) (xs : List (List ℕ)) (i : ℕ) (x : List ℕ) (t : Term)
    → length ns ≡ length ts → i < length xs → x ≡ get_or xs i x → Some t ≡ field_named fs x
    → option_map (fields_append (fields_from ns ts)) (projected fs (drop i xs)) ≡ projected fs xs
    → (length (ns ++ x ∷ []) ≡ length (ts ++ t ∷ []))
    × (option_map (fields_append (fields_from (ns ++ x ∷ []) (ts ++ t ∷ []))) (projected fs (drop (i + 1) xs)) ≡ projected fs xs)
project_step fs ns ts xs i x t same h e found all = (
  omega (arith, same, length-append ns (x ∷ []), length-append ts (t ∷ [])),
  by (projected fs (drop (i + 1) xs))
      ∙ ap (λ o. option_map (fields_append (fields_from ns ts)) (option_and_then (λ u. option_map (field x u) (projected fs (drop (i + 1) xs))) o)) found
      ∙ ap (λ ys. option_map (fields_append (fields_from ns ts)) (projected fs ys)) (sym (rest_from xs i x h e)) ∙ all,
)
  where
    by : (o : Option Fields) → option_map (fields_append (fields_from (ns ++ x ∷ []) (ts ++ t ∷ []))) o ≡ option_map (fields_append (fields_from ns ts)) (option_map (field x t) o)
    by None = refl
    by (Some hs) = ap Some (sym (one_more ns ts x t hs same))

drop_whole : (xs : List (List ℕ)) (i : ℕ) → length xs ≤ i → drop i xs ≡ []
drop_whole [] zero h = refl
drop_whole [] (suc i) h = refl
drop_whole (x ∷ xs) zero h = absurd (omega arith)
drop_whole (x ∷ xs) (suc i) h = drop_whole xs i (omega arith)

-- behind the last name, what is made is all
pub project_all : (fs gs : Fields) (xs : List (List ℕ)) (i : ℕ) → length xs ≤ i
    → option_map (fields_append gs) (projected fs (drop i xs)) ≡ projected fs xs → projected fs xs ≡ Some gs
project_all fs gs xs i h all =
    sym all ∙ ap (λ ys. option_map (fields_append gs) (projected fs ys)) (drop_whole xs i h) ∙ ap Some (fields_append-none gs)

-- the names and the types of two lists of fields are as many
pub merged_lengths : (fs gs : Fields) → length (names_of fs ++ names_of gs) ≡ length (types_of fs ++ types_of gs)
merged_lengths fs gs =
    omega (arith, length-append (names_of fs) (names_of gs), length-append (types_of fs) (types_of gs), length-names_of fs, length-names_of gs, length-types_of fs, length-types_of gs)

pub merged : (fs gs : Fields) → fields_from (names_of fs ++ names_of gs) (types_of fs ++ types_of gs) ≡ fields_append fs gs
merged fs gs = rw (← names_of-append fs gs, ← types_of-append fs gs) (fields_from-parts (fields_append fs gs))

-- ---- without the one at a place

pub removed : {A : Type 0} (vs xs ys : List A) (i : ℕ) → vs ≡ take i ys ++ drop (i + 1) ys → ys ≡ xs → vs ≡ remove xs i
removed vs xs ys i e same = e ∙ ap (λ zs. take i zs ++ drop (i + 1) zs) same ∙ ap (λ n. take i xs ++ drop n xs) next
  where
    next : i + 1 ≡ suc i
    next = omega arith

pub same_removed : {A B : Type 0} (xs : List A) (ys : List B) (i : ℕ) → length xs ≡ length ys → length (remove xs i) ≡ length (remove ys i)
same_removed [] [] zero e = refl
same_removed [] [] (suc i) e = refl
same_removed (x ∷ xs) (y ∷ ys) zero e = omega arith
same_removed (x ∷ xs) (y ∷ ys) (suc i) e = ap suc (same_removed xs ys i (omega arith))
same_removed [] (y ∷ ys) i e = absurd (omega arith)
same_removed (x ∷ xs) [] i e = absurd (omega arith)
