-- The metadata of three encodings as messages: `dict_metadata_of`, `dict_metadata_bytes` and so on.
use Rattle.std.specs.Prelude.{ℕ, List, ◌++◌, Option, Some}
use Rattle.vortex_wire.specs.declared.metadata.DictMetadata.{DictMetadata}
use Rattle.vortex_wire.specs.declared.metadata.DecimalMetadata.{DecimalMetadata}
use Rattle.vortex_wire.specs.declared.metadata.ListMetadata.{ListMetadata}
use Rattle.vortex_wire.specs.declared.schema.TheConstants.{DICT_VALUES_LEN, DICT_CODES_PTYPE}
use Rattle.vortex_wire.specs.declared.schema.TheConstants.{DICT_IS_NULLABLE_CODES}
use Rattle.vortex_wire.specs.declared.schema.TheConstants.{DECIMAL_VALUE_TYPE, LIST_ELEMENTS}
use Rattle.vortex_prelude.specs.Chain.{◌>>=◌}
use Rattle.vortex_wire.specs.Message.{singular_u32, optional_bool, singular_field, optional_field}

-- how many values, the number of the type of the codes, and maybe whether codes may be null
unfoldable pub dict_metadata_of : List ℕ → Option DictMetadata
dict_metadata_of bytes = do
  len ← singular_u32 DICT_VALUES_LEN bytes
  ptype ← singular_u32 DICT_CODES_PTYPE bytes
  nullable ← optional_bool DICT_IS_NULLABLE_CODES bytes
  Some (record { values_len = len; codes_ptype = ptype; is_nullable_codes = nullable })

abbrev pub dict_metadata_bytes : DictMetadata → List ℕ
dict_metadata_bytes m =
    singular_field DICT_VALUES_LEN m.values_len
    ++ singular_field DICT_CODES_PTYPE m.codes_ptype
    ++ optional_field DICT_IS_NULLABLE_CODES m.is_nullable_codes

-- the number of the width of the values
unfoldable pub decimal_metadata_of : List ℕ → Option DecimalMetadata
decimal_metadata_of bytes = do
  value_type ← singular_u32 DECIMAL_VALUE_TYPE bytes
  Some (record { value_type = value_type })

abbrev pub decimal_metadata_bytes : DecimalMetadata → List ℕ
decimal_metadata_bytes m = singular_field DECIMAL_VALUE_TYPE m.value_type

-- how many elements
unfoldable pub list_metadata_of : List ℕ → Option ListMetadata
list_metadata_of bytes = do
  elements ← singular_u32 LIST_ELEMENTS bytes
  Some (record { elements = elements })

abbrev pub list_metadata_bytes : ListMetadata → List ℕ
list_metadata_bytes m = singular_field LIST_ELEMENTS m.elements
