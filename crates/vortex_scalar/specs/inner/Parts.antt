-- What stands inside a value.
--     values_within       all of them, where the value is a list
--     value_within        the one at a place
--     named_value         the one of the first field of a name
--     content             the bytes of a text or of bytes
--     projected_value     the values of the first fields of names, as a value; null stays
use Rattle.std.specs.Prelude.{ℕ, List, map, Option, Some, None, slice_get, unwrap_or}
use Rattle.vortex_prelude.specs.Chain.{◌>>=◌}
use Rattle.vortex_terms.specs.Term.{Fields}
use Rattle.vortex_terms.specs.Types.{place_of}
use Rattle.vortex_scalar_value.specs.Value.{ValueTerm, null_value, bytes_value, text_value, list_value, value_list, values_from}

abbrev pub values_within : ValueTerm → Option (List ValueTerm)
values_within (list_value vs) = Some (value_list vs)
values_within _ = None

abbrev pub value_within : ValueTerm → ℕ → Option ValueTerm
value_within v i = values_within v >>= λ vs. slice_get vs i

-- of these values of a struct's fields
abbrev pub named_value : Fields → List ValueTerm → List ℕ → ValueTerm
named_value fs vs x = unwrap_or (place_of fs x >>= slice_get vs) null_value

abbrev pub projected_value : Fields → List (List ℕ) → ValueTerm → ValueTerm
projected_value fs xs (list_value vs) = list_value (values_from (map (named_value fs (value_list vs)) xs))
projected_value fs xs _ = null_value

abbrev pub content : ValueTerm → Option (List ℕ)
content (bytes_value bs) = Some bs
content (text_value bs) = Some bs
content _ = None
