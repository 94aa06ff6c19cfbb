-- Whether a type holds decimals, whose texts tell the width in which they are kept: `holds_decimals`.
use Rattle.std.specs.Prelude.{Bool, true, false, ◌||◌}
use Rattle.vortex_terms.specs.Term.{Term, decimal, structure, list, extension, fixed_size_list, Fields, no_fields, field}

abbrev mutual
  pub holds_decimals : Term → Bool
  holds_decimals (decimal p s n) = true
  holds_decimals (structure fs n) = any_decimals fs
  holds_decimals (list t n) = holds_decimals t
  holds_decimals (extension id t m) = holds_decimals t
  holds_decimals (fixed_size_list t k n) = holds_decimals t
  holds_decimals _ = false

  -- whether one of the fields does
  pub any_decimals : Fields → Bool
  any_decimals no_fields = false
  any_decimals (field x t fs) = holds_decimals t || any_decimals fs
