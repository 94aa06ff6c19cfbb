-- Where paths end, what a changed flag leaves, and types that are the same inside.
use Rattle.std.specs.Prelude.{◌≡◌, ℕ, Bool, false, IsFalse, List, [], ◌∷◌, None, refl}
use Rattle.std.proofs.Common.{ap, true≢false}
use Rattle.vortex_terms.specs.Nullability.{with_nullability}
use Rattle.vortex_terms.specs.Path.{PathPart, by_name, element, resolved}
use Rattle.vortex_terms.specs.Term.{Term, null, boolean, primitive, decimal, utf8, binary, structure, list, extension, fixed_size_list, Fields, no_fields, field}
use Rattle.vortex_terms.specs.Types.{Same, is_extension, part_types}

pub leaves-end : (t : Term) (part : PathPart) (path : List PathPart) → part_types t ≡ []
    → resolved t (part ∷ path) ≡ None
leaves-end null part path e = refl
leaves-end (boolean n) part path e = refl
leaves-end (primitive k n) part path e = refl
leaves-end (decimal p s n) part path e = refl
leaves-end (utf8 n) part path e = refl
leaves-end (binary n) part path e = refl
leaves-end (structure no_fields n) (by_name x) path e = refl
leaves-end (structure no_fields n) element path e = refl
leaves-end (structure (field x t fs) n) part path e = absurd (cc (e))
leaves-end (list t n) part path e = absurd (cc (e))
leaves-end (extension id t m) part path e = absurd (cc (e))
leaves-end (fixed_size_list t k n) part path e = absurd (cc (e))

pub parts-stay : (t : Term) (m : Bool) → IsFalse (is_extension t)
    → part_types (with_nullability t m) ≡ part_types t
parts-stay null m h = refl
parts-stay (boolean n) m h = refl
parts-stay (primitive k n) m h = refl
parts-stay (decimal p s n) m h = refl
parts-stay (utf8 n) m h = refl
parts-stay (binary n) m h = refl
parts-stay (structure fs n) m h = refl
parts-stay (list t n) m h = refl
parts-stay (extension id t k) m h = absurd (true≢false h)
parts-stay (fixed_size_list t k n) m h = refl

abbrev pub fields_in : Term → Fields
fields_in (structure fs n) = fs
fields_in _ = no_fields

pub Same-fields : (x : List ℕ) (t u : Term) (fs gs : Fields) (m n : Bool) → Same t u
    → Same (structure fs m) (structure gs n)
    → Same (structure (field x t fs) m) (structure (field x u gs) n)
Same-fields x t u fs gs m n s e = λ i. structure (field x (s i) (ap fields_in e i)) false
