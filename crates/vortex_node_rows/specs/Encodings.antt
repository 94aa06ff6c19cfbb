-- Which encoding a name is: `encoding_name`, `encoding_named`, `encoding_in`.
use Rattle.std.specs.Prelude.{ℕ, List, [], ◌∷◌, Option, Some, None, bytes_eq, slice_get, if◌then◌else◌}
use Rattle.vortex_prelude.specs.Chain.{◌>>=◌}
use Rattle.vortex_encodings.specs.declared.schema.TheConstants as names
use Rattle.vortex_node_rows.specs.declared.encoding.Encoding.{Encoding}
use Rattle.vortex_node_rows.specs.declared.encoding.Encoding.TheVariants as encoding

-- the name of an encoding
abbrev pub encoding_name : Encoding → List ℕ
encoding_name encoding.Null = names.NULL.now
encoding_name encoding.Bool = names.BOOL.now
encoding_name encoding.Primitive = names.PRIMITIVE.now
encoding_name encoding.Decimal = names.DECIMAL.now
encoding_name encoding.VarBin = names.VARBIN.now
encoding_name encoding.List = names.LIST.now
encoding_name encoding.FixedSizeList = names.FIXED_SIZE_LIST.now
encoding_name encoding.Struct = names.STRUCT.now
encoding_name encoding.Ext = names.EXT.now
encoding_name encoding.Constant = names.CONSTANT.now

-- the first of these encodings that has the name
abbrev pub named_among : List Encoding → List ℕ → Option Encoding
named_among [] name = None
named_among (e ∷ es) name = if bytes_eq name (encoding_name e) then Some e else named_among es name

abbrev pub all_encodings : List Encoding
all_encodings =
    encoding.Null ∷ encoding.Bool ∷ encoding.Primitive ∷ encoding.Decimal ∷ encoding.VarBin ∷ encoding.List
    ∷ encoding.FixedSizeList ∷ encoding.Struct ∷ encoding.Ext ∷ encoding.Constant ∷ []

-- the encoding of this name
abbrev pub encoding_named : List ℕ → Option Encoding
encoding_named name = named_among all_encodings name

-- the encoding at a place among the names of a header
abbrev pub encoding_in : List (List ℕ) → ℕ → Option Encoding
encoding_in ids place = slice_get ids place >>= encoding_named
