-- What a contract sees of a value without its type.
--     ValueTerm, ValueTerms            a value, and the values inside a list
--     value_list, values_from  the values inside a list as a list, and back
--     value_levels             how deep a value nests
-- A number keeps its kind and a decimal its width, since both are written; a type leaves them out.
use Rattle.std.specs.Prelude.{ℕ, zero, suc, max, ℤ, Bool, true, false, List, [], ◌∷◌}
use Rattle.vortex_terms.specs.Term.{WholeKind}
use Rattle.vortex_value.specs.declared.decimal.DecimalValueType.{DecimalValueType}

mutual
  pub data ValueTerm : Type 0 where
    null_value : ValueTerm
    truth_value : Bool → ValueTerm
    whole_value : WholeKind → ℤ → ValueTerm
    -- the number without the point
    decimal_value : DecimalValueType → ℤ → ValueTerm
    bytes_value : List ℕ → ValueTerm
    text_value : List ℕ → ValueTerm
    list_value : ValueTerms → ValueTerm

  pub data ValueTerms : Type 0 where
    no_values : ValueTerms
    value : ValueTerm → ValueTerms → ValueTerms

-- the values inside a list, as a list
abbrev pub value_list : ValueTerms → List ValueTerm
value_list no_values = []
value_list (value v vs) = v ∷ value_list vs

-- the other way
abbrev pub values_from : List ValueTerm → ValueTerms
values_from [] = no_values
values_from (v ∷ vs) = value v (values_from vs)

-- whether the value is null
abbrev pub is_null_value : ValueTerm → Bool
is_null_value null_value = true
is_null_value _ = false

-- how deep the value nests: one that is no list has one level
abbrev mutual
  pub value_levels : ValueTerm → ℕ
  value_levels null_value = 1
  value_levels (truth_value b) = 1
  value_levels (whole_value k z) = 1
  value_levels (decimal_value w z) = 1
  value_levels (bytes_value bs) = 1
  value_levels (text_value bs) = 1
  value_levels (list_value vs) = suc (values_levels vs)

  -- the greatest of the values
  pub values_levels : ValueTerms → ℕ
  values_levels no_values = zero
  values_levels (value v vs) = max (value_levels v) (values_levels vs)
