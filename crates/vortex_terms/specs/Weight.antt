-- A measure of types for recursion: a type is heavier than each type inside it, also where a struct
-- of its own stands between the two.
--     weight, fields_weight     the measure
--     part-lighter, ..          what is inside is lighter
--     most_le-fields_weight     no type of a field is as heavy as the fields together
use Rattle.std.specs.Prelude.{◌≡◌, ℕ, zero, suc, ◌+◌, ◌<◌, ◌≤◌, Bool, List, [], ◌∷◌, length, sum_by, Option, Some, refl}
use Rattle.std.proofs.lemmas.List.Sums.{sum_by-cons}
use Rattle.std.proofs.Common.{arith}
use denote.Param.Weighed.{most}
use Rattle.vortex_terms.specs.Term.{Term, null, boolean, primitive, decimal, utf8, binary, structure, list, extension, fixed_size_list, Fields, no_fields, field}
use Rattle.vortex_terms.specs.Types.{types_of, fields_from, field_count, field_at}

-- one for each type and each field, and one more for an extension
abbrev mutual
  pub weight : Term → ℕ
  weight null = 1
  weight (boolean n) = 1
  weight (primitive k n) = 1
  weight (decimal p s n) = 1
  weight (utf8 n) = 1
  weight (binary n) = 1
  weight (structure fs n) = 1 + fields_weight fs
  weight (list t n) = 1 + weight t
  weight (extension id t m) = 2 + weight t
  weight (fixed_size_list t k n) = 1 + weight t

  pub fields_weight : Fields → ℕ
  fields_weight no_fields = 0
  fields_weight (field x t fs) = 1 + weight t + fields_weight fs

-- ---- what is inside is lighter

pub fields-lighter : (fs : Fields) (n : Bool) → fields_weight fs < weight (structure fs n)
fields-lighter fs n = omega arith

pub element-lighter : (t : Term) (n : Bool) → weight t < weight (list t n)
element-lighter t n = omega arith

pub fixed_element-lighter : (t : Term) (k : ℕ) (n : Bool)
    → weight t < weight (fixed_size_list t k n)
fixed_element-lighter t k n = omega arith

-- there is room for a struct that holds the storage with the id
pub storage-lighter : (id : List ℕ) (t : Term) (m : Option (List ℕ))
    → weight t + 1 < weight (extension id t m)
storage-lighter id t m = omega arith

pub first_field-lighter : (x : List ℕ) (t : Term) (fs : Fields)
    → weight t < fields_weight (field x t fs)
first_field-lighter x t fs = omega arith

pub other_fields-lighter : (x : List ℕ) (t : Term) (fs : Fields)
    → fields_weight fs < fields_weight (field x t fs)
other_fields-lighter x t fs = omega arith

pub field-lighter : (fs : Fields) (i : ℕ) (t : Term) → field_at fs i ≡ Some t
    → weight t < fields_weight fs
field-lighter no_fields i t e = absurd (cc)
field-lighter (field x u fs) zero t e = let same = weight_at u t e in omega arith
  where
    weight_at : (u t : Term) → Some u ≡ Some t → weight u ≡ weight t
    weight_at u t e = cc
field-lighter (field x u fs) (suc i) t e = let rest = field-lighter fs i t e in omega arith

-- ---- fields as a list

-- of types of fields, as many as there are names, each is lighter than the fields
pub most_le-fields_weight : (xs : List (List ℕ)) (ts : List Term) → length xs ≡ length ts
    → most (λ t. weight t + 1) ts ≤ fields_weight (fields_from xs ts)
most_le-fields_weight [] [] e = omega arith
most_le-fields_weight (x ∷ xs) (t ∷ ts) e = omega (arith, most_le-fields_weight xs ts (omega arith))
most_le-fields_weight [] (t ∷ ts) e = absurd (omega arith)
most_le-fields_weight (x ∷ xs) [] e = absurd (omega arith)

pub fields_weight-sum : (fs : Fields)
    → fields_weight fs ≡ sum_by weight (types_of fs) + field_count fs
fields_weight-sum no_fields = refl
fields_weight-sum (field x t fs) =
    omega (arith, fields_weight-sum fs, sum_by-cons weight t (types_of fs))
