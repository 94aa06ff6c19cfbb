-- The kinds of whole numbers that a column can hold: `ptype_number`, `format_of`, `in_range`.
use Rattle.std.specs.Prelude.{ℕ, ◌^◌, ◌-◌, ℤ, Bool, codes, List}
use Rattle.std.specs.Int.{w8, w16, w32, w64, byte_len}
use Rattle.vortex_number.specs.Format.{Format, signed, unsigned, fits, magnitude_bits}
use Rattle.vortex_number.specs.declared.ptype.PType.{PType}
use Rattle.vortex_number.specs.declared.ptype.PType.TheVariants.{U8, U16, U32, U64, I8, I16, I32}
use Rattle.vortex_number.specs.declared.ptype.PType.TheVariants.{I64}

-- the number of a kind where it is written
abbrev pub ptype_number : PType → ℕ
ptype_number U8 = 0
ptype_number U16 = 1
ptype_number U32 = 2
ptype_number U64 = 3
ptype_number I8 = 4
ptype_number I16 = 5
ptype_number I32 = 6
ptype_number I64 = 7

-- how the numbers of a kind are held
abbrev pub format_of : PType → Format
format_of U8 = unsigned w8
format_of U16 = unsigned w16
format_of U32 = unsigned w32
format_of U64 = unsigned w64
format_of I8 = signed w8
format_of I16 = signed w16
format_of I32 = signed w32
format_of I64 = signed w64

-- whether the kind has numbers below 0
abbrev pub is_signed : PType → Bool
is_signed k = (format_of k).signed

-- how many bytes a number of the kind takes
abbrev pub byte_width_of : PType → ℕ
byte_width_of k = byte_len (format_of k).width

-- whether a number is one of the kind
abbrev pub in_range : PType → ℤ → Bool
in_range k z = fits (format_of k) z

-- the greatest number of the kind
abbrev pub greatest : PType → ℕ
greatest k = 2 ^ magnitude_bits (format_of k) - 1

-- the text of a kind
abbrev pub ptype_text : PType → List ℕ
ptype_text U8 = codes "u8"
ptype_text U16 = codes "u16"
ptype_text U32 = codes "u32"
ptype_text U64 = codes "u64"
ptype_text I8 = codes "i8"
ptype_text I16 = codes "i16"
ptype_text I32 = codes "i32"
ptype_text I64 = codes "i64"
