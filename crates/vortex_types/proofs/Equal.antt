-- Fields that are compared one after the other.
use Rattle.std.proofs.Common.{◌≡◌, ◌≢◌, ℕ, zero, suc, ◌+◌, ◌<◌, Bool, true, false, ◌&&◌, refl, sym}
use Rattle.std.proofs.Common.{ap, ◌∙◌, arith, add-one}
use Rattle.vortex_terms.specs.Term.{Fields, no_fields, field}
use Rattle.vortex_terms.specs.Types.{bare_fields, field_count}
use Rattle.vortex_terms.specs.Equality.{fields_eq}
use Rattle.vortex_terms.specs.EqualityLaws.{fields_eq-true}
use Rattle.vortex_types.specs.Equal.{field_equal_by, fields_equal_by}
use Rattle.vortex_types.proofs.Fields.{fields_drop, drop_all}

step_suc : (exact : Bool) (fs gs : Fields) (i : ℕ) → i < field_count fs → i < field_count gs
    → fields_equal_by exact (fields_drop i fs) (fields_drop i gs)
    ≡ (field_equal_by exact fs gs i && fields_equal_by exact (fields_drop (suc i) fs) (fields_drop (suc i) gs))
step_suc true (field x t fs) (field y u gs) zero h k = refl
step_suc false (field x t fs) (field y u gs) zero h k = refl
step_suc exact (field x t fs) (field y u gs) (suc i) h k = step_suc exact fs gs i (omega arith) (omega arith)
step_suc exact no_fields gs i h k = absurd (omega arith)
step_suc exact (field x t fs) no_fields i h k = absurd (omega arith)

-- what is left to compare is the first field that is left, and the rest
pub step : (exact : Bool) (fs gs : Fields) (i : ℕ) → i < field_count fs → i < field_count gs
    → fields_equal_by exact (fields_drop i fs) (fields_drop i gs)
    ≡ (field_equal_by exact fs gs i && fields_equal_by exact (fields_drop (i + 1) fs) (fields_drop (i + 1) gs))
step exact fs gs i h k = rw add-one (step_suc exact fs gs i h k)

pub none_left : (exact : Bool) (fs gs : Fields) (i : ℕ) → field_count fs ≡ i → field_count gs ≡ i → fields_equal_by exact (fields_drop i fs) (fields_drop i gs) ≡ true
none_left true fs gs i e f = rw (drop_all fs i e, drop_all gs i f) refl
none_left false fs gs i e f = rw (drop_all fs i e, drop_all gs i f) refl

bare-count : (fs : Fields) → field_count (bare_fields fs) ≡ field_count fs
bare-count no_fields = refl
bare-count (field x t fs) = ap suc (bare-count fs)

-- of different numbers of fields, something differs
pub other_counts : (exact : Bool) (fs gs : Fields) → field_count fs ≢ field_count gs → fields_equal_by exact fs gs ≡ false
other_counts true fs gs ne = by (fields_eq fs gs) (λ h. ne (ap field_count (fields_eq-true fs gs h)))
  where
    by : (b : Bool) → (b ≡ true → ⊥) → b ≡ false
    by true never = absurd (never refl)
    by false never = refl
other_counts false fs gs ne =
    by (fields_eq (bare_fields fs) (bare_fields gs)) (λ h. ne (sym (bare-count fs) ∙ ap field_count (fields_eq-true (bare_fields fs) (bare_fields gs) h) ∙ bare-count gs))
  where
    by : (b : Bool) → (b ≡ true → ⊥) → b ≡ false
    by true never = absurd (never refl)
    by false never = refl

-- where the fields at a place differ, the lists do
pub differ_at : (here rest from all : Bool) → here ≡ false → from ≡ (here && rest) → from ≡ all → false ≡ all
differ_at here rest from all false_here e so_far = sym (e ∙ ap (λ (b : Bool). b && rest) false_here) ∙ so_far

pub agree_at : (here rest from all : Bool) → here ≡ true → from ≡ (here && rest) → from ≡ all → rest ≡ all
agree_at here rest from all true_here e so_far = sym (e ∙ ap (λ (b : Bool). b && rest) true_here) ∙ so_far
