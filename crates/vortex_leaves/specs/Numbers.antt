-- Numbers that lie one behind the other.
--     number_format     what a `NumberFormat` is
--     NumberBytes       what such numbers are seen as
--     AreNumbers        there are exactly so many
--     number_rows       the rows that they are
use Rattle.std.specs.Prelude.{◌≡◌, ◌*◌, ℕ, List, length, Option}
use Rattle.std.specs.Int.{w8, w16, w32, w64, w128, byte_len}
use Rattle.vortex_number.specs.Format.{Format, signed, unsigned}
use Rattle.vortex_terms.specs.Types.{IsBytes}
use Rattle.vortex_terms.specs.Row.{Row}
use Rattle.vortex_node_rows.specs.Leaves.{numbers_in, value_type_format}
use Rattle.vortex_prelude.specs.Chain.{◌>>=◌}
use Rattle.vortex_wire.specs.Metadata.{decimal_metadata_of}
use Rattle.vortex_leaves.specs.declared.format.NumberFormat.{NumberFormat}
use Rattle.vortex_leaves.specs.declared.format.NumberFormat.TheVariants as number

-- how the numbers are held
abbrev pub number_format : NumberFormat → Format
number_format number.U8 = unsigned w8
number_format number.U16 = unsigned w16
number_format number.U32 = unsigned w32
number_format number.U64 = unsigned w64
number_format number.I8 = signed w8
number_format number.I16 = signed w16
number_format number.I32 = signed w32
number_format number.I64 = signed w64
number_format number.I128 = signed w128

-- how many bytes a number takes
abbrev pub number_width : NumberFormat → ℕ
number_width f = byte_len (number_format f).width

-- so many numbers in a format, and their bytes
pub record NumberBytes : Type 0 where
  pub format : Format
  pub count : ℕ
  pub bytes : List ℕ

-- there are bytes for exactly so many
pub record AreNumbers (a : NumberBytes) : Type 0 where
  pub exact : length a.bytes ≡ a.count * byte_len a.format.width
  pub below : IsBytes a.bytes

-- the rows that they are
abbrev pub number_rows : NumberBytes → List Row
number_rows a = numbers_in a.format a.count a.bytes

-- the format of decimals that their metadata tells
unfoldable pub decimal_format : List ℕ → Option Format
decimal_format metadata = do
  m ← decimal_metadata_of metadata
  value_type_format m.value_type
