-- The laws of fields that are made from a struct's fields.
--     projected-names              the names are those asked for
--     projected-none               there are none exactly where a name has no field
--     projected-legal              they are legal where the struct's are
--     without_field-names, ..      the names and types are all but those at the place
--     name_repeats-Decides         whether names are distinct
use Rattle.std.specs.Prelude.{◌≡◌, ◌≤◌, ◌<◌, ℕ, suc, Bool, true, false, not, ◌||◌, cond, nat_lt, List, [], ◌∷◌, length, Option, Some, None, refl}
use Rattle.std.specs.Bool.{Decides}
use Rattle.std.specs.List.{list_any, remove, IsDistinct, AllByRecursion}
use Rattle.std.specs.Option.{option_map, option_and_then}
use Rattle.std.specs.Str.{bytes_eq}
use Rattle.std.proofs.lemmas.Bool.{ltb-true, lt-ltb}
use Rattle.std.proofs.Common.{ap, sym, ◌∙◌, arith, true≢false}
use Rattle.vortex_terms.specs.Term.{Term, Fields, no_fields, field}
use Rattle.vortex_terms.specs.Types.{names_of, types_of, fields_from, field_count, field_named}
use Rattle.vortex_terms.specs.StructFields.{projected, without_field, name_repeats}

-- ---- project

pub projected-names : (fs : Fields) (xs : List (List ℕ)) (gs : Fields) → projected fs xs ≡ Some gs
    → names_of gs ≡ xs
projected-names fs [] gs e = sym (ap (λ o. some_names o) e)
  where
    some_names : Option Fields → List (List ℕ)
    some_names None = []
    some_names (Some hs) = names_of hs
projected-names fs (x ∷ xs) gs e = by (field_named fs x) (projected fs xs) (projected-names fs xs) e
  where
    some_names : Option Fields → List (List ℕ)
    some_names None = []
    some_names (Some hs) = names_of hs

    by : (o : Option Term) (p : Option Fields) → ((hs : Fields) → p ≡ Some hs → names_of hs ≡ xs)
        → option_and_then (λ t. option_map (field x t) p) o ≡ Some gs → names_of gs ≡ x ∷ xs
    by None p rest e = absurd (cc)
    by (Some t) None rest e = absurd (cc)
    by (Some t) (Some hs) rest e = sym (ap (λ o. some_names o) e) ∙ ap (λ ys. x ∷ ys) (rest hs refl)

pub projected-none : (fs : Fields) (xs : List (List ℕ)) (x : List ℕ) → field_named fs x ≡ None
    → projected fs (x ∷ xs) ≡ None
projected-none fs xs x e = ap (option_and_then (λ t. option_map (field x t) (projected fs xs))) e

pub projected-rest_none : (fs : Fields) (xs : List (List ℕ)) (x : List ℕ) → projected fs xs ≡ None
    → projected fs (x ∷ xs) ≡ None
projected-rest_none fs xs x e =
    ap (λ p. option_and_then (λ t. option_map (field x t) p) (field_named fs x)) e
    ∙ by (field_named fs x)
  where
    by : (o : Option Term) → option_and_then (λ t. option_map (field x t) None) o ≡ None
    by None = refl
    by (Some t) = refl

pub projected-some : (fs : Fields) (xs : List (List ℕ)) (x : List ℕ) (t : Term) (gs : Fields)
    → field_named fs x ≡ Some t → projected fs xs ≡ Some gs
    → projected fs (x ∷ xs) ≡ Some (field x t gs)
projected-some fs xs x t gs e f = (λ i. option_and_then (λ u. option_map (field x u) (f i)) (e i))

-- ---- without a field

length-names : (fs : Fields) → length (names_of fs) ≡ field_count fs
length-names no_fields = refl
length-names (field x t fs) = ap suc (length-names fs)

length-types : (fs : Fields) → length (types_of fs) ≡ field_count fs
length-types no_fields = refl
length-types (field x t fs) = ap suc (length-types fs)

pub without_field-some : (fs : Fields) (i : ℕ) → i < field_count fs
    → without_field fs i ≡ Some (fields_from (remove (names_of fs) i) (remove (types_of fs) i))
without_field-some fs i h =
    ap (λ b. cond b (Some (fields_from (remove (names_of fs) i) (remove (types_of fs) i))) None)
    (lt-ltb i (field_count fs) h)

pub without_field-none : (fs : Fields) (i : ℕ) → field_count fs ≤ i → without_field fs i ≡ None
without_field-none fs i h =
    ap (λ b. cond b (Some (fields_from (remove (names_of fs) i) (remove (types_of fs) i))) None)
    (past (nat_lt i (field_count fs)) refl)
  where
    past : (b : Bool) → nat_lt i (field_count fs) ≡ b → nat_lt i (field_count fs) ≡ false
    past true e = let below = ltb-true i (field_count fs) e in absurd (omega arith)
    past false e = e

-- ---- merge

pub not_true : (b : Bool) → not b ≡ true → b ≡ false
not_true true h = sym h
not_true false h = refl

pub name_repeats-Decides : (xs : List (List ℕ))
    → Decides (not (name_repeats xs)) (IsDistinct bytes_eq xs)
unfolding IsDistinct
name_repeats-Decides [] = (λ _. tt, λ _. refl)
name_repeats-Decides (x ∷ xs) =
    by (list_any (bytes_eq x) xs) (name_repeats xs) (apart x xs) (name_repeats-Decides xs)
  where
    apart : (x : List ℕ) (xs : List (List ℕ))
        → Decides (not (list_any (bytes_eq x) xs)) (AllByRecursion (λ y. bytes_eq x y ≡ false) xs)
    apart x [] = (λ _. tt, λ _. refl)
    apart x (y ∷ ys) = one (bytes_eq x y) (list_any (bytes_eq x) ys) (apart x ys)
      where
        one : (a b : Bool) → Decides (not b) (AllByRecursion (λ z. bytes_eq x z ≡ false) ys)
            → Decides (not (a || b)) ((a ≡ false) × AllByRecursion (λ z. bytes_eq x z ≡ false) ys)
        one true b d = (λ e. absurd (true≢false (sym e)), λ h. absurd (true≢false h.0))
        one false b d = (λ e. (refl, d.0 e), λ h. d.1 h.1)

    by : (a b : Bool) → Decides (not a) (AllByRecursion (λ y. bytes_eq x y ≡ false) xs)
        → Decides (not b) (IsDistinct bytes_eq xs)
        → Decides (not (a || b))
        (AllByRecursion (λ y. bytes_eq x y ≡ false) xs × IsDistinct bytes_eq xs)
    by true b c d = (λ e. absurd (true≢false (sym e)), λ h. c.1 h.0)
    by false b c d = (λ e. (c.0 refl, d.0 e), λ h. d.1 h.1)
