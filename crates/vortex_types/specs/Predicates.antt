-- Which kind a type is of.
use Rattle.std.specs.Prelude.{Bool, true, false, not}
use Rattle.vortex_terms.specs.Term.{WholeKind, unsigned_8, unsigned_16, unsigned_32, unsigned_64}
use Rattle.vortex_terms.specs.Term.{signed_8, signed_16, signed_32, signed_64, Term, boolean}
use Rattle.vortex_terms.specs.Term.{primitive, decimal, utf8, binary, structure, list}
use Rattle.vortex_terms.specs.Term.{fixed_size_list}

abbrev pub is_boolean : Term → Bool
is_boolean (boolean n) = true
is_boolean _ = false

abbrev pub is_primitive : Term → Bool
is_primitive (primitive k n) = true
is_primitive _ = false

-- whether a kind has a sign
abbrev pub has_sign : WholeKind → Bool
has_sign unsigned_8 = false
has_sign unsigned_16 = false
has_sign unsigned_32 = false
has_sign unsigned_64 = false
has_sign signed_8 = true
has_sign signed_16 = true
has_sign signed_32 = true
has_sign signed_64 = true

abbrev pub is_unsigned_int : Term → Bool
is_unsigned_int (primitive k n) = not (has_sign k)
is_unsigned_int _ = false

abbrev pub is_signed_int : Term → Bool
is_signed_int (primitive k n) = has_sign k
is_signed_int _ = false

abbrev pub is_decimal : Term → Bool
is_decimal (decimal p s n) = true
is_decimal _ = false

abbrev pub is_utf8 : Term → Bool
is_utf8 (utf8 n) = true
is_utf8 _ = false

abbrev pub is_binary : Term → Bool
is_binary (binary n) = true
is_binary _ = false

abbrev pub is_list : Term → Bool
is_list (list t n) = true
is_list _ = false

abbrev pub is_fixed_size_list : Term → Bool
is_fixed_size_list (fixed_size_list t k n) = true
is_fixed_size_list _ = false

abbrev pub is_struct : Term → Bool
is_struct (structure fs n) = true
is_struct _ = false
