-- Sizes that are added up.
use Rattle.std.proofs.Common.{◌≡◌, ℕ, zero, suc, ◌+◌, ◌^◌, ◌<◌, ◌≤◌, List, [], ◌∷◌, length, drop, Option, Some, None, refl, sym, ap, ◌∙◌, arith, add-one}
use Rattle.std.specs.Prelude.{Bool, true, false, if◌then◌else◌, nat_lt, slice_get}
use Rattle.std.proofs.lemmas.List.{drop_all}
use Rattle.std.specs.Option.{option_map_or}
use Rattle.vortex_terms.specs.Term.{Term, Fields, no_fields, field}
use Rattle.vortex_terms.specs.Types.{field_at}
use Rattle.vortex_terms.specs.Weight.{weight, fields_weight, field-lighter}
use Rattle.vortex_scalar_value.specs.Value.{ValueTerm, values_from, value_list}
use Rattle.vortex_scalar_text.specs.Size.{in_usize}
use Rattle.vortex_scalar_text.specs.inner.Sizes.{value_size, field_value_sizes}

-- the list of values that were put into a list
pub list_there : (vs : List ValueTerm) → value_list (values_from vs) ≡ vs
list_there [] = refl
list_there (v ∷ vs) = ap (λ ws. v ∷ ws) (list_there vs)

-- a number below 2 to the 64th, and one that is not
pub in_usize_some : (n : ℕ) → n < 2 ^ 64 → Some n ≡ in_usize n
in_usize_some n h = grind arith

pub in_usize_none : (n : ℕ) → 2 ^ 64 ≤ n → None ≡ in_usize n
in_usize_none n h = grind arith

-- what is too large stays so in a sum
pub too_large : (part rest all : ℕ) → None ≡ in_usize part → part + rest ≡ all → None ≡ in_usize all
too_large part rest all e sum = grind arith

is_part : (part n : ℕ) → in_usize part ≡ Some n → part ≡ n
is_part part n e = by (nat_lt part (2 ^ 64)) e
  where
    by : (b : Bool) → (if b then Some part else None) ≡ Some n → part ≡ n
    by true e = cc
    by false e = absurd (cc)

-- the fields from a place on
abbrev pub fields_drop : ℕ → Fields → Fields
fields_drop zero fs = fs
fields_drop (suc i) no_fields = no_fields
fields_drop (suc i) (field x t fs) = fields_drop i fs

-- the size of a value as the field at a place
abbrev pub size_at : Fields → ℕ → ValueTerm → ℕ
size_at fs i v = option_map_or (λ t. value_size t v) (field_at fs i) 0

no_sizes : (vs : List ValueTerm) → field_value_sizes no_fields vs ≡ 0
no_sizes [] = refl
no_sizes (v ∷ vs) = refl

-- what is left from a place on, and from the next
pub sizes_step : (fs : Fields) (vs : List ValueTerm) (i : ℕ) (v : ValueTerm) → slice_get vs i ≡ Some v
    → field_value_sizes (fields_drop i fs) (drop i vs) ≡ size_at fs i v + field_value_sizes (fields_drop (i + 1) fs) (drop (i + 1) vs)
sizes_step fs [] i v e = absurd (cc)
sizes_step no_fields (w ∷ vs) zero v e = sym (no_sizes vs)
sizes_step (field x t fs) (w ∷ vs) zero v e = same w v e
  where
    same : (w v : ValueTerm) → Some w ≡ Some v → value_size t w + field_value_sizes fs vs ≡ value_size t v + field_value_sizes fs vs
    same w v e = cc
sizes_step no_fields (w ∷ vs) (suc i) v e = no_sizes (drop i vs) ∙ sym (rw add-one (no_sizes (drop (suc i) vs)))
sizes_step (field x t fs) (w ∷ vs) (suc i) v e =
    sizes_step fs vs i v e ∙ (rw add-one (rw add-one refl))

-- behind the last value nothing is left
pub sizes_end : (fs : Fields) (vs : List ValueTerm) (i : ℕ) → length vs ≤ i → field_value_sizes (fields_drop i fs) (drop i vs) ≡ 0
sizes_end fs vs i h = ap (field_value_sizes (fields_drop i fs)) (drop_all i vs h) ∙ none (fields_drop i fs)
  where
    none : (gs : Fields) → field_value_sizes gs [] ≡ 0
    none no_fields = refl
    none (field x t gs) = refl

-- the steps of the loop: a part that is too large, a sum that is, and one that is not
pub part_refused : (o : Option ℕ) (part total rest left all : ℕ) → o ≡ in_usize part → o ≡ None → left ≡ part + rest → total + left ≡ all → None ≡ in_usize all
part_refused o part total rest left all e f step sum = too_large part (total + rest) all (sym f ∙ e) (omega (arith, step, sum))

pub sum_refused : (o : Option ℕ) (part n total rest left all : ℕ) → o ≡ in_usize part → o ≡ Some n → ¬ (total + n < 2 ^ 64) → left ≡ part + rest → total + left ≡ all → None ≡ in_usize all
sum_refused o part n total rest left all e f h step sum = in_usize_none all (omega (arith, is_part part n (sym e ∙ f), h, step, sum))

pub sum_goes_on : (o : Option ℕ) (part n total rest left all : ℕ) → o ≡ in_usize part → o ≡ Some n → left ≡ part + rest → total + left ≡ all → (total + n) + rest ≡ all
sum_goes_on o part n total rest left all e f step sum = omega (arith, is_part part n (sym e ∙ f), step, sum)

-- a field's type is lighter than the fields
pub part_lighter : (fs : Fields) (t : Term) (i : ℕ) → Some t ≡ field_at fs i → weight t < fields_weight fs
part_lighter fs t i e = field-lighter fs i t (sym e)
