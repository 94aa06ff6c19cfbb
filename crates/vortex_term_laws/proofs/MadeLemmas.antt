-- Fields that are projected and merged.
use Rattle.std.specs.Prelude.{◌≡◌, ◌↔◌, ℕ, Bool, true, false, not, List, [], ◌∷◌, ◌++◌, map, Option, Some, None, if◌then◌else◌, refl}
use Rattle.std.specs.Bool.{Decides}
use Rattle.std.specs.List.{IsDistinct}
use Rattle.std.specs.Option.{option_map, option_and_then}
use Rattle.std.specs.Str.{bytes_eq}
use Rattle.std.proofs.Common.{ap, sym, ◌∙◌, true≢false}
use Rattle.vortex_terms.specs.Term.{Term, Fields, no_fields, field}
use Rattle.vortex_terms.specs.Types.{names_of, types_of, fields_append, field_named}
use Rattle.vortex_terms.specs.StructFields.{projected, disjoint_merged, name_repeats}
use Rattle.vortex_terms.specs.StructFieldLaws.{name_repeats-Decides, projected-some}

abbrev pub AreFound : Fields → List (List ℕ) → Fields → Type 0
AreFound fs xs gs = (names_of gs ≡ xs) × (map (field_named fs) xs ≡ map Some (types_of gs))

abbrev pub or_no_fields : Option Fields → Fields
or_no_fields None = no_fields
or_no_fields (Some gs) = gs

pub projected-found : (fs gs : Fields) (xs : List (List ℕ)) → projected fs xs ≡ Some gs
    → AreFound fs xs gs
projected-found fs gs [] e =
    let same : no_fields ≡ gs = ap or_no_fields e in
    (sym (ap names_of same), ap (λ hs. map Some (types_of hs)) same)
projected-found fs gs (x ∷ xs) e =
    by (field_named fs x) refl (projected fs xs) (λ hs f. projected-found fs hs xs f) e
  where
    by : (o : Option Term) → field_named fs x ≡ o → (p : Option Fields)
        → ((hs : Fields) → p ≡ Some hs → AreFound fs xs hs)
        → option_and_then (λ t. option_map (field x t) p) o ≡ Some gs → AreFound fs (x ∷ xs) gs
    by None f p rest h = absurd (cc)
    by (Some t) f None rest h = absurd (cc)
    by (Some t) f (Some hs) rest h =
        let same : field x t hs ≡ gs = ap or_no_fields h in
        let found : AreFound fs xs hs = rest hs refl in
        let types : map (field_named fs) (x ∷ xs) ≡ map Some (types_of (field x t hs)) =
        (λ k. f k ∷ found.1 k) in (
          sym (ap names_of same) ∙ ap (λ ys. x ∷ ys) found.0,
          types ∙ ap (λ g. map Some (types_of g)) same,
        )

abbrev head_or : {X : Type 0} → X → List X → X
head_or x [] = x
head_or x (y ∷ ys) = y

abbrev tail_of : {X : Type 0} → List X → List X
tail_of [] = []
tail_of (y ∷ ys) = ys

pub found-projected : (fs gs : Fields) (xs : List (List ℕ)) → AreFound fs xs gs
    → projected fs xs ≡ Some gs
found-projected fs no_fields [] h = refl
found-projected fs (field y t hs) [] h = absurd (cc (h.0))
found-projected fs no_fields (x ∷ xs) h = absurd (cc (h.0))
found-projected fs (field y t hs) (x ∷ xs) h =
    let name : y ≡ x = ap (head_or y) h.0 in
    let named : field_named fs x ≡ Some t = ap (head_or None) h.1 in
    let rest : AreFound fs xs hs = (ap tail_of h.0, ap tail_of h.1) in
    projected-some fs xs x t hs named (found-projected fs hs xs rest)
    ∙ ap (λ z. Some (field z t hs)) (sym name)

pub merged-Decides : (fs gs hs : Fields) → disjoint_merged fs gs ≡ Some hs
    ↔ IsDistinct bytes_eq (names_of fs ++ names_of gs) × (hs ≡ fields_append fs gs)
merged-Decides fs gs hs =
    by (name_repeats (names_of fs ++ names_of gs)) (name_repeats-Decides (names_of fs ++ names_of gs))
  where
    by : (b : Bool) → Decides (not b) (IsDistinct bytes_eq (names_of fs ++ names_of gs))
        → (if b then None else Some (fields_append fs gs)) ≡ Some hs
        ↔ IsDistinct bytes_eq (names_of fs ++ names_of gs) × (hs ≡ fields_append fs gs)
    by true d = (λ e. absurd (cc), λ h. absurd (true≢false (sym (d.1 h.0))))
    by false d = (λ e. (d.0 refl, sym (ap or_no_fields e)), λ h. ap Some (sym h.1))
