-- Fields that are gone over one after the other.
use Rattle.std.proofs.Common.{◌≡◌, ℕ, zero, suc, ◌<◌, ◌≤◌, List, [], ◌∷◌, length, get_or, Option}
use Rattle.std.proofs.Common.{Some, None, refl, sym, ap, ◌∙◌, arith}
use Rattle.std.specs.Prelude.{slice_get}
use Rattle.vortex_terms.specs.Term.{Term, Fields, no_fields, field}
use Rattle.vortex_terms.specs.Types.{types_of, field_count, field_at}
use Rattle.vortex_terms.specs.FieldLaws.{field_at-get}
use Rattle.vortex_terms.specs.Weight.{weight, fields_weight, field-lighter}

-- the fields from a place on
abbrev pub fields_drop : ℕ → Fields → Fields
fields_drop zero fs = fs
fields_drop (suc i) no_fields = no_fields
fields_drop (suc i) (field x t fs) = fields_drop i fs

-- nothing is left behind the last field
pub drop_all : (fs : Fields) (i : ℕ) → field_count fs ≡ i → fields_drop i fs ≡ no_fields
drop_all no_fields zero e = refl
drop_all no_fields (suc i) e = refl
drop_all (field x t fs) zero e = absurd (omega arith)
drop_all (field x t fs) (suc i) e = drop_all fs i (omega arith)

-- the type of a field is lighter than the fields
pub part_lighter : (fs : Fields) (p : Term) (i : ℕ) → Some p ≡ field_at fs i → weight p < fields_weight fs
part_lighter fs p i e = field-lighter fs i p (sym e)

-- a field's type by its place in the list
pub field_get : (fs : Fields) (ts : List Term) (i : ℕ) (o : Option Term) → ts ≡ types_of fs → o ≡ slice_get ts i → o ≡ field_at fs i
field_get fs ts i o e h = h ∙ ap (λ us. slice_get us i) e ∙ sym (field_at-get fs i)

-- what stands at a place, and that nothing stands behind the end
pub get_some : {A : Type 0} (xs : List A) (i : ℕ) (x : A) → i < length xs → x ≡ get_or xs i x → Some x ≡ slice_get xs i
get_some [] i x h e = absurd (omega arith)
get_some (y ∷ xs) zero x h e = ap Some e
get_some (y ∷ xs) (suc i) x h e = get_some xs i x (omega arith) e

pub get_none : {A : Type 0} (xs : List A) (i : ℕ) → length xs ≤ i → None ≡ slice_get xs i
get_none [] i h = refl
get_none (y ∷ xs) zero h = absurd (omega arith)
get_none (y ∷ xs) (suc i) h = get_none xs i (omega arith)
