-- How many bytes a value takes under a type.
--     content_of, values_in            the bytes and the values in a value
--     value_size, field_value_sizes    of a value, and of the fields of a struct together
use Rattle.std.specs.Prelude.{ℕ, ◌+◌, List, [], ◌∷◌, length, sum_by}
use Rattle.vortex_number.specs.PType.{byte_width_of}
use Rattle.vortex_number.specs.WholeKind.{ptype_of}
use Rattle.vortex_terms.specs.Term.{Term, null, boolean, primitive, decimal, utf8, binary, structure, list, extension, fixed_size_list, Fields, field}
use Rattle.vortex_scalar_value.specs.Value.{ValueTerm, bytes_value, text_value, list_value, value_list}
use Rattle.vortex_scalar_text.specs.Size.{decimal_size}

abbrev pub content_of : ValueTerm → List ℕ
content_of (bytes_value bs) = bs
content_of (text_value bs) = bs
content_of _ = []

abbrev pub values_in : ValueTerm → List ValueTerm
values_in (list_value vs) = value_list vs
values_in _ = []

abbrev mutual
  pub value_size : Term → ValueTerm → ℕ
  value_size null v = 0
  value_size (boolean n) v = 1
  value_size (primitive k n) v = byte_width_of (ptype_of k)
  value_size (decimal p s n) v = decimal_size p
  value_size (utf8 n) v = length (content_of v)
  value_size (binary n) v = length (content_of v)
  value_size (structure fs n) v = field_value_sizes fs (values_in v)
  value_size (list t n) v = sum_by (value_size t) (values_in v)
  value_size (extension id t m) v = value_size t v
  value_size (fixed_size_list t k n) v = sum_by (value_size t) (values_in v)

  pub field_value_sizes : Fields → List ValueTerm → ℕ
  field_value_sizes (field x t fs) (v ∷ vs) = value_size t v + field_value_sizes fs vs
  field_value_sizes _ _ = 0
