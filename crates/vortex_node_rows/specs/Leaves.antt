-- The rows of nodes without children but that of validity.
--     truths_of        vortex.bool
--     numbers_of       vortex.primitive
--     decimals_of      vortex.decimal
--     pieces_of, are_texts      vortex.varbin
--     constant_rows    vortex.constant
use Rattle.std.specs.Prelude.{ℕ, zero, suc, ◌*◌, ◌==◌, List, Bool, true, if◌then◌else◌, nat_le, Option, Some, None, map, length}
use Rattle.std.specs.List.{list_all}
use Rattle.std.specs.Simd.{first_chunks}
use Rattle.std.specs.Str.{is_utf8}
use Rattle.std.specs.Int.{w8, w16, w32, w64, w128, byte_len}
use Rattle.vortex_prelude.specs.Chain.{◌>>=◌}
use Rattle.vortex_number.specs.Format.{Format, signed, number_with_bytes}
use Rattle.vortex_number.specs.PType.{format_of}
use Rattle.vortex_number.specs.WholeKind.{ptype_of}
use Rattle.vortex_terms.specs.Term.{WholeKind, Term}
use Rattle.vortex_terms.specs.Row.{Row, truth_row, whole_row, copies}
use Rattle.vortex_wire.specs.Metadata.{decimal_metadata_of}
use Rattle.vortex_scalar_value.specs.Reading.{value_in}
use Rattle.vortex_value_rows.specs.RowOf.{fitting_row}
use Rattle.vortex_mask.specs.Bits.{truths_in}
use Rattle.vortex_terms.specs.FromColumns.{zip_map, pieces}
use Rattle.vortex_node_rows.specs.Buffers.{one_buffer, two_buffers, offsets_in}

-- one buffer, which may be longer than n truth values need
unfoldable pub truths_of : ℕ → List (List ℕ) → Option (List Row)
truths_of n bs = do
  b ← one_buffer bs
  if nat_le n (8 * length b) then Some (map truth_row (truths_in n b)) else None

-- n numbers in this format, one behind the other
abbrev pub numbers_in : Format → ℕ → List ℕ → List Row
numbers_in f n bytes = map (λ c. whole_row (number_with_bytes f c)) (first_chunks (byte_len f.width) n bytes)

-- one buffer of exactly n numbers
unfoldable pub numbers_of : Format → ℕ → List (List ℕ) → Option (List Row)
numbers_of f n bs = do
  b ← one_buffer bs
  if length b == n * byte_len f.width then Some (numbers_in f n b) else None

-- the format of a kind of whole numbers
abbrev pub kind_format : WholeKind → Format
kind_format k = format_of (ptype_of k)

-- the format of a decimal's numbers by the number of its value type: 8, 16, 32, 64 or 128 signed bits
abbrev pub value_type_format : ℕ → Option Format
value_type_format zero = Some (signed w8)
value_type_format (suc zero) = Some (signed w16)
value_type_format (suc (suc zero)) = Some (signed w32)
value_type_format (suc (suc (suc zero))) = Some (signed w64)
value_type_format (suc (suc (suc (suc zero)))) = Some (signed w128)
value_type_format (suc (suc (suc (suc (suc n))))) = None

-- the numbers, of the width that the metadata tells
unfoldable pub decimals_of : List ℕ → ℕ → List (List ℕ) → Option (List Row)
decimals_of metadata n bs = do
  m ← decimal_metadata_of metadata
  f ← value_type_format m.value_type
  numbers_of f n bs

-- a buffer of offsets, and a buffer of bytes in which they end
unfoldable pub pieces_of : ℕ → List (List ℕ) → Option (List (List ℕ))
pieces_of n bs = do
  two ← two_buffers bs
  os ← offsets_in n (length two.1) two.0
  Some (pieces os two.1)

-- valid rows are UTF-8
abbrev pub are_texts : Option (List Bool) → List (List ℕ) → Bool
are_texts None ps = list_all is_utf8 ps
are_texts (Some m) ps = list_all (λ b. b) (zip_map (λ valid p. if valid then is_utf8 p else true) m ps)

-- one buffer that is the message of a value, and n rows that are that value under the type
unfoldable pub constant_rows : Term → ℕ → List (List ℕ) → Option (List Row)
constant_rows t n bs = do
  b ← one_buffer bs
  v ← value_in 128 b
  r ← fitting_row t v
  Some (copies n r)
