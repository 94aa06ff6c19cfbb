-- The schema of types (this project's own, over FlatBuffers): a table DType, and a table of its kind,
-- whose number is `type_number` of vortex_terms.
--     DType                 0 kind u8; 1 the table of the kind
--     1 Null                none
--     2 Bool                0 nullable u8
--     3 Primitive           0 ptype u8; 1 nullable u8
--     4 Decimal             0 precision u8; 1 scale i8; 2 nullable u8
--     5 Utf8, 6 Binary      0 nullable u8
--     7 Struct              0 names, a vector of strings; 1 dtypes, a vector of DType; 2 nullable u8
--     8 List                0 element DType; 1 nullable u8
--     9 Extension           0 id string; 1 storage DType; 2 metadata, a vector of bytes, which may be absent
--     10 FixedSizeList      0 element DType; 1 size u32; 2 nullable u8
use Rattle.std.specs.Prelude.{ℕ, Bool, not, List, Option, ◌==◌}
use Rattle.std.specs.Option.{option_map}
use Rattle.vortex_prelude.specs.Absent.{or_zero}
use Rattle.vortex_flat.specs.Targets.{number_field}

-- a flag is a byte, true where it is not 0
abbrev pub flag : List ℕ → ℕ → ℕ → Option Bool
flag b q k = option_map (λ n. not (n == 0)) (or_zero (number_field b q k 1))
