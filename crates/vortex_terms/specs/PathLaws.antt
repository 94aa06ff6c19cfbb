-- The laws of paths in types.
--     path_part_eq-Decides        the test of equality of two steps
--     resolved-append             a path after another leads on from where that led
--     target-resolved             names lead through structs where a path does, an extension at the
--         end being seen as its storage
--     step-part                   a step leads to a part of the type
--     resolved-bounded            what a path leads to in a bounded type is bounded
use Rattle.std.specs.Prelude.{◌≡◌, ℕ, Bool, List, [], ◌∷◌, ◌++◌, map, Option, Some, None, refl}
use Rattle.std.specs.Bool.{Decides}
use Rattle.std.specs.Option.{option_map, option_and_then, unwrap_or}
use Rattle.std.specs.Cmp.Lexicographic.{bytes_decides}
use Rattle.std.proofs.Common.{ap, sym, subst, ◌∙◌, true≢false}
use Rattle.vortex_terms.specs.Term.{Term, null, boolean, primitive, decimal, utf8, binary, structure, list, extension, fixed_size_list, Fields}
use Rattle.vortex_terms.specs.Types.{storage_of, place_of, field_at, field_named, part_at, Bounded}
use Rattle.vortex_terms.specs.FieldLaws.{field_at-get}
use Rattle.vortex_terms.specs.TermLaws.{part_at-bounded}
use Rattle.vortex_terms.specs.Path.{PathPart, by_name, element, named_type, step_type, resolved, target, path_part_eq}

pub path_part_eq-Decides : (a b : PathPart) → Decides (path_part_eq a b) (a ≡ b)
path_part_eq-Decides (by_name x) (by_name y) =
    (λ h. ap by_name ((bytes_decides x y).0 h), λ e. (bytes_decides x y).1 (ap name_in e))
  where
    name_in : PathPart → List ℕ
    name_in (by_name z) = z
    name_in element = []
path_part_eq-Decides element element = (λ h. refl, λ e. refl)
path_part_eq-Decides _ _ = (λ h. absurd (true≢false (sym h)), λ e. absurd (cc))

-- one name leads to the first field of that name
pub resolved-field : (fs : Fields) (n : Bool) (x : List ℕ)
    → resolved (structure fs n) (by_name x ∷ []) ≡ field_named fs x
resolved-field fs n x = by (field_named fs x)
  where
    by : (o : Option Term) → option_and_then Some o ≡ o
    by None = refl
    by (Some t) = refl

pub resolved-append : (t : Term) (path more : List PathPart)
    → resolved t (path ++ more) ≡ option_and_then (λ u. resolved u more) (resolved t path)
resolved-append t [] more = refl
resolved-append t (part ∷ path) more = by (step_type t part) (λ u. resolved-append u path more)
  where
    by : (o : Option Term)
        → ((u : Term) → resolved u (path ++ more)
        ≡ option_and_then (λ v. resolved v more) (resolved u path))
        → option_and_then (λ u. resolved u (path ++ more)) o
        ≡ option_and_then (λ v. resolved v more) (option_and_then (λ u. resolved u path) o)
    by None rest = refl
    by (Some u) rest = rest u

step-named : (t : Term) (x : List ℕ) → step_type t (by_name x) ≡ named_type t (by_name x)
step-named null x = refl
step-named (boolean n) x = refl
step-named (primitive k n) x = refl
step-named (decimal p s n) x = refl
step-named (utf8 n) x = refl
step-named (binary n) x = refl
step-named (structure fs n) x = refl
step-named (list t n) x = refl
step-named (extension id t m) x = refl
step-named (fixed_size_list t k n) x = refl

pub target-resolved : (t : Term) (xs : List (List ℕ))
    → target t (map by_name xs) ≡ option_map storage_of (resolved t (map by_name xs))
target-resolved t [] = refl
target-resolved t (x ∷ xs) =
    ap (option_and_then (λ u. target u (map by_name xs))) (sym (step-named t x))
    ∙ by (step_type t (by_name x)) (λ u. target-resolved u xs)
  where
    by : (o : Option Term)
        → ((u : Term) → target u (map by_name xs)
        ≡ option_map storage_of (resolved u (map by_name xs)))
        → option_and_then (λ u. target u (map by_name xs)) o
        ≡ option_map storage_of (option_and_then (λ u. resolved u (map by_name xs)) o)
    by None rest = refl
    by (Some u) rest = rest u

-- ---- what a path leads to is inside the type

-- a step leads to a part
pub step-part : (t : Term) (part : PathPart) (u : Term) → step_type t part ≡ Some u
    → (i : ℕ) × (part_at t i ≡ Some u)
step-part (structure fs n) (by_name x) u e = by (place_of fs x) e
  where
    by : (o : Option ℕ) → option_and_then (field_at fs) o ≡ Some u
        → (i : ℕ) × (part_at (structure fs n) i ≡ Some u)
    by None h = absurd (cc)
    by (Some i) h = (i, sym (field_at-get fs i) ∙ h)
step-part (list t n) element u e = (0, e)
step-part (fixed_size_list t k n) element u e = (0, e)
step-part _ part u e = absurd (cc)

pub resolved-bounded : (t : Term) (path : List PathPart) (u : Term) → Bounded t
    → resolved t path ≡ Some u → Bounded u
resolved-bounded t [] u b e = subst Bounded (ap (λ o. unwrap_or o t) e) b
resolved-bounded t (part ∷ path) u b e =
    by (step_type t part) refl e (λ v. resolved-bounded v path u)
  where
    by : (o : Option Term) → step_type t part ≡ o → option_and_then (λ v. resolved v path) o ≡ Some u
        → ((v : Term) → Bounded v → resolved v path ≡ Some u → Bounded u) → Bounded u
    by None s h rest = absurd (cc)
    by (Some v) s h rest =
        let place = step-part t part v s in
        rest v (part_at-bounded t place.0 v b place.1) h
