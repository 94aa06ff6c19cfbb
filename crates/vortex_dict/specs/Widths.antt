-- Types of codes.
use Rattle.std.specs.Prelude.{◌≡◌, ℕ, ◌+◌, ◌-◌, ◌^◌, ◌≤◌, Bool, false, ◌&&◌, nat_lt, if◌then◌else◌}
use Rattle.std.specs.Prelude.{List, IsTrue}
use Rattle.std.specs.List.{All}
use Rattle.vortex_number.specs.PType.{greatest, in_range, is_signed}
use Rattle.vortex_number.specs.declared.ptype.PType.{PType}
use Rattle.vortex_number.specs.declared.ptype.PType.TheVariants.{U8, U16, U32, U64}
use Rattle.vortex_terms.specs.Row.{Row, null_row, truth_row, whole_row, bytes_row, list_row}
use Rattle.vortex_dict.specs.declared.widths.DictCodes.{DictCodes}
use Rattle.vortex_dict.specs.declared.widths.DictCodes.TheVariants as held

-- the kind is the least without a sign that has all these numbers
pub record IsLeastFor (numbers : List ℕ) (kind : PType) : Type 0 where
  pub unsigned : is_signed kind ≡ false
  pub has : All (λ n. n ≤ greatest kind) numbers
  pub least : (other : PType) → is_signed other ≡ false → All (λ n. n ≤ greatest other) numbers
      → greatest kind ≤ greatest other

-- the row is a number of the kind, or null where it may be
abbrev pub IsRowOf : PType → Bool → Row → Type 0
IsRowOf kind nullable null_row = IsTrue nullable
IsRowOf kind nullable (whole_row number) = IsTrue (in_range kind number)
IsRowOf kind nullable (truth_row b) = ⊥
IsRowOf kind nullable (bytes_row bytes) = ⊥
IsRowOf kind nullable (list_row rows) = ⊥

-- how many values of so many bits there can be, as the number that the code type of an encoder is
-- asked to have
abbrev pub most_possible : ℕ → Bool → ℕ
most_possible bits nullable = if nullable && nat_lt bits 64 then 2 ^ bits + 1 else 2 ^ bits - 1

-- the codes, and their kind
abbrev pub codes_in : DictCodes → List ℕ
codes_in (held.U8 codes) = codes.items
codes_in (held.U16 codes) = codes.items
codes_in (held.U32 codes) = codes.items
codes_in (held.U64 codes) = codes.items

abbrev pub kind_in : DictCodes → PType
kind_in (held.U8 codes) = U8
kind_in (held.U16 codes) = U16
kind_in (held.U32 codes) = U32
kind_in (held.U64 codes) = U64
