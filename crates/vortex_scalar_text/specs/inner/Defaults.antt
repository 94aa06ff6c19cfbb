-- The values that are made of the default rows of types: `default_value`, `default_values`.
use Rattle.std.specs.Prelude.{pos, false, if◌then◌else◌, List, [], ◌∷◌, replicate}
use Rattle.vortex_terms.specs.Term.{Term, null, boolean, primitive, decimal, utf8, binary, structure, list, extension, fixed_size_list, Fields, no_fields, field}
use Rattle.vortex_value.specs.declared.decimal.DecimalValueType.TheVariants as width
use Rattle.vortex_scalar_value.specs.Value.{ValueTerm, null_value, truth_value, whole_value, decimal_value, bytes_value, text_value, list_value, no_values, values_from}

abbrev mutual
  pub default_value : Term → ValueTerm
  default_value null = null_value
  default_value (boolean n) = if n then null_value else truth_value false
  default_value (primitive k n) = if n then null_value else whole_value k (pos 0)
  default_value (decimal p s n) = if n then null_value else decimal_value width.I32 (pos 0)
  default_value (utf8 n) = if n then null_value else text_value []
  default_value (binary n) = if n then null_value else bytes_value []
  default_value (structure fs n) = if n then null_value else list_value (values_from (default_values fs))
  default_value (list t n) = if n then null_value else list_value no_values
  default_value (extension id t m) = default_value t
  default_value (fixed_size_list t k n) =
      if n then null_value else list_value (values_from (replicate k (default_value t)))

  -- of the fields of a struct
  pub default_values : Fields → List ValueTerm
  default_values no_fields = []
  default_values (field x t fs) = default_value t ∷ default_values fs
