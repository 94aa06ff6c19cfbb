-- The laws of a struct's fields as lists of names and types, and by place.
--     fields_from-parts, names_of-from, types_of-from        fields are their names and types
--     names_of-append, types_of-append, ..                   what is said of fields behind others
--     fields_levels-most, fields_nodes-sum, ..               measures, by the fields' types
--     LegalFields-All                                        fields are legal where their names are
--         text and their types legal
--     field_at-get, place_of-position                        the type at a place and the place of a
--         name, in the lists
--     place_of-field                                         the place of a name is that of a field
use Rattle.std.specs.Prelude.{◌≡◌, ℕ, zero, suc, ◌+◌, max, Bool, true, false, cond, List, [], ◌∷◌, ◌++◌, map, length, sum_by, Option, Some, None, refl}
use Rattle.std.specs.List.{All, AllByRecursion, slice_get, position, position_from}
use Rattle.std.specs.Option.{option_map, option_and_then}
use Rattle.std.specs.Str.{IsUtf8, bytes_eq}
use Rattle.std.proofs.lemmas.List.Elements.{All-from_recursion, recursion_from_All}
use Rattle.std.proofs.lemmas.List.Sums.{sum_by-cons}
use Rattle.std.proofs.lemmas.Iterator.Adapters.{position_from-zero}
use Rattle.std.proofs.Common.{ap, sym, ◌∙◌, arith}
use denote.Param.Weighed.{most}
use Rattle.vortex_terms.specs.Term.{Term, Fields, no_fields, field}
use Rattle.vortex_terms.specs.Types.{bare, bare_fields, levels, fields_levels, nodes, fields_nodes, text_length, fields_text_length, Legal, LegalFields, names_of, types_of, fields_from, fields_append, field_count, place_of, field_at, field_named}
use Rattle.vortex_terms.specs.Weight.{fields_weight}

-- ---- names and types

pub fields_from-parts : (fs : Fields) → fields_from (names_of fs) (types_of fs) ≡ fs
fields_from-parts no_fields = refl
fields_from-parts (field x t fs) = ap (field x t) (fields_from-parts fs)

pub names_of-from : (xs : List (List ℕ)) (ts : List Term) → length xs ≡ length ts
    → names_of (fields_from xs ts) ≡ xs
names_of-from [] [] e = refl
names_of-from (x ∷ xs) (t ∷ ts) e = ap (λ ys. x ∷ ys) (names_of-from xs ts (omega arith))
names_of-from [] (t ∷ ts) e = absurd (omega arith)
names_of-from (x ∷ xs) [] e = absurd (omega arith)

pub types_of-from : (xs : List (List ℕ)) (ts : List Term) → length xs ≡ length ts
    → types_of (fields_from xs ts) ≡ ts
types_of-from [] [] e = refl
types_of-from (x ∷ xs) (t ∷ ts) e = ap (λ us. t ∷ us) (types_of-from xs ts (omega arith))
types_of-from [] (t ∷ ts) e = absurd (omega arith)
types_of-from (x ∷ xs) [] e = absurd (omega arith)

pub length-names_of : (fs : Fields) → length (names_of fs) ≡ field_count fs
length-names_of no_fields = refl
length-names_of (field x t fs) = ap suc (length-names_of fs)

pub length-types_of : (fs : Fields) → length (types_of fs) ≡ field_count fs
length-types_of no_fields = refl
length-types_of (field x t fs) = ap suc (length-types_of fs)

pub names_of-bare : (fs : Fields) → names_of (bare_fields fs) ≡ names_of fs
names_of-bare no_fields = refl
names_of-bare (field x t fs) = ap (λ ys. x ∷ ys) (names_of-bare fs)

pub types_of-bare : (fs : Fields) → types_of (bare_fields fs) ≡ map bare (types_of fs)
types_of-bare no_fields = refl
types_of-bare (field x t fs) = ap (λ ts. bare t ∷ ts) (types_of-bare fs)

-- ---- fields behind others

pub names_of-append : (fs gs : Fields) → names_of (fields_append fs gs) ≡ names_of fs ++ names_of gs
names_of-append no_fields gs = refl
names_of-append (field x t fs) gs = ap (λ ys. x ∷ ys) (names_of-append fs gs)

pub types_of-append : (fs gs : Fields) → types_of (fields_append fs gs) ≡ types_of fs ++ types_of gs
types_of-append no_fields gs = refl
types_of-append (field x t fs) gs = ap (λ ts. t ∷ ts) (types_of-append fs gs)

pub field_count-append : (fs gs : Fields)
    → field_count (fields_append fs gs) ≡ field_count fs + field_count gs
field_count-append no_fields gs = omega arith
field_count-append (field x t fs) gs = omega (arith, field_count-append fs gs)

pub fields_append-none : (fs : Fields) → fields_append fs no_fields ≡ fs
fields_append-none no_fields = refl
fields_append-none (field x t fs) = ap (field x t) (fields_append-none fs)

pub fields_append-again : (fs gs hs : Fields)
    → fields_append (fields_append fs gs) hs ≡ fields_append fs (fields_append gs hs)
fields_append-again no_fields gs hs = refl
fields_append-again (field x t fs) gs hs = ap (field x t) (fields_append-again fs gs hs)

pub fields_levels-append : (fs gs : Fields)
    → fields_levels (fields_append fs gs) ≡ max (fields_levels fs) (fields_levels gs)
fields_levels-append no_fields gs = omega arith
fields_levels-append (field x t fs) gs = omega (arith, fields_levels-append fs gs)

pub fields_nodes-append : (fs gs : Fields)
    → fields_nodes (fields_append fs gs) ≡ fields_nodes fs + fields_nodes gs
fields_nodes-append no_fields gs = omega arith
fields_nodes-append (field x t fs) gs = omega (arith, fields_nodes-append fs gs)

pub fields_text_length-append : (fs gs : Fields)
    → fields_text_length (fields_append fs gs) ≡ fields_text_length fs + fields_text_length gs
fields_text_length-append no_fields gs = omega arith
fields_text_length-append (field x t fs) gs = omega (arith, fields_text_length-append fs gs)

pub fields_weight-append : (fs gs : Fields)
    → fields_weight (fields_append fs gs) ≡ fields_weight fs + fields_weight gs
fields_weight-append no_fields gs = omega arith
fields_weight-append (field x t fs) gs = omega (arith, fields_weight-append fs gs)

-- ---- measures by the types

-- the levels are those of the deepest field
pub fields_levels-most : (fs : Fields) → fields_levels fs ≡ most levels (types_of fs)
fields_levels-most no_fields = refl
fields_levels-most (field x t fs) = ap (max (levels t)) (fields_levels-most fs)

pub fields_nodes-sum : (fs : Fields) → fields_nodes fs ≡ sum_by nodes (types_of fs)
fields_nodes-sum no_fields = refl
fields_nodes-sum (field x t fs) =
    omega (arith, fields_nodes-sum fs, sum_by-cons nodes t (types_of fs))

pub fields_text_length-sum : (fs : Fields)
    → fields_text_length fs ≡ sum_by length (names_of fs) + sum_by text_length (types_of fs)
fields_text_length-sum no_fields = refl
fields_text_length-sum (field x t fs) =
    let names : sum_by length (x ∷ names_of fs)
    ≡ length x + sum_by length (names_of fs) = sum_by-cons length x (names_of fs) in
    omega (arith, fields_text_length-sum fs, names, sum_by-cons text_length t (types_of fs))

-- ---- legal fields

legal-parts : (fs : Fields) → LegalFields fs
    → AllByRecursion IsUtf8 (names_of fs) × AllByRecursion Legal (types_of fs)
legal-parts no_fields h = (tt, tt)
legal-parts (field x t fs) h = let rest = legal-parts fs h.2 in ((h.0, rest.0), (h.1, rest.1))

legal-from : (fs : Fields) → AllByRecursion IsUtf8 (names_of fs)
    → AllByRecursion Legal (types_of fs) → LegalFields fs
legal-from no_fields a b = tt
legal-from (field x t fs) a b = (a.0, b.0, legal-from fs a.1 b.1)

-- fields are legal exactly where their names are text and their types legal
pub LegalFields-All : (fs : Fields)
    → (LegalFields fs → All IsUtf8 (names_of fs) × All Legal (types_of fs)) ×
    (All IsUtf8 (names_of fs) × All Legal (types_of fs) → LegalFields fs)
LegalFields-All fs = (
  λ h. let both =
      legal-parts fs h in (
        All-from_recursion IsUtf8 (names_of fs) both.0,
        All-from_recursion Legal (types_of fs) both.1,
      ),
  λ h. legal-from fs (recursion_from_All IsUtf8 (names_of fs) h.0)
      (recursion_from_All Legal (types_of fs) h.1),
)

pub LegalFields-append : (fs gs : Fields) → LegalFields fs → LegalFields gs
    → LegalFields (fields_append fs gs)
LegalFields-append no_fields gs a b = b
LegalFields-append (field x t fs) gs a b = (a.0, a.1, LegalFields-append fs gs a.2 b)

-- ---- places

pub field_at-get : (fs : Fields) (i : ℕ) → field_at fs i ≡ slice_get (types_of fs) i
field_at-get no_fields i = refl
field_at-get (field x t fs) zero = refl
field_at-get (field x t fs) (suc i) = field_at-get fs i

later : (p : List ℕ → Bool) (i : ℕ) (xs : List (List ℕ))
    → position_from p (i + 1) xs ≡ option_map suc (position_from p i xs)
later p i [] = refl
later p i (x ∷ xs) = by (later p (i + 1) xs) (p x)
  where
    next : Some (i + 1) ≡ option_map suc (Some i)
    next = let same : i + 1 ≡ suc i = omega arith in ap Some same

    by : position_from p (i + 1 + 1) xs ≡ option_map suc (position_from p (i + 1) xs) → (b : Bool)
        → cond b (Some (i + 1)) (position_from p (i + 1 + 1) xs)
        ≡ option_map suc (cond b (Some i) (position_from p (i + 1) xs))
    by rest true = next
    by rest false = rest

from_zero : (fs : Fields) (x : List ℕ)
    → place_of fs x ≡ position_from (λ y. bytes_eq y x) 0 (names_of fs)
from_zero no_fields x = refl
from_zero (field y t fs) x =
    ap (λ o. cond (bytes_eq y x) (Some 0) o)
    (ap (option_map suc) (from_zero fs x) ∙ sym (later (λ z. bytes_eq z x) 0 (names_of fs)))

-- the place of a name is its first place among the names
pub place_of-position : (fs : Fields) (x : List ℕ)
    → place_of fs x ≡ position (λ y. bytes_eq y x) (names_of fs)
place_of-position fs x = from_zero fs x ∙ sym (position_from-zero (λ y. bytes_eq y x) (names_of fs))

-- the type of a name is the one at the name's first place
pub field_named-get : (fs : Fields) (x : List ℕ)
    → field_named fs x ≡ option_and_then (slice_get (types_of fs))
    (position (λ y. bytes_eq y x) (names_of fs))
field_named-get fs x =
    by (place_of fs x) ∙ ap (option_and_then (slice_get (types_of fs))) (place_of-position fs x)
  where
    by : (o : Option ℕ)
        → option_and_then (field_at fs) o ≡ option_and_then (slice_get (types_of fs)) o
    by None = refl
    by (Some i) = field_at-get fs i

-- the place of a name is that of a field
pub place_of-field : (fs : Fields) (x : List ℕ)
    → option_and_then (field_at fs) (place_of fs x) ≡ None → place_of fs x ≡ None
place_of-field no_fields x e = refl
place_of-field (field y t fs) x e = by (place_of fs x) (place_of-field fs x) (bytes_eq y x) e
  where
    by : (o : Option ℕ) → (option_and_then (field_at fs) o ≡ None → o ≡ None) → (b : Bool)
        → option_and_then (field_at (field y t fs)) (cond b (Some 0) (option_map suc o)) ≡ None
        → cond b (Some 0) (option_map suc o) ≡ None
    by o rest true e = absurd (cc)
    by None rest false e = refl
    by (Some i) rest false e = let none = rest e in absurd (cc)
