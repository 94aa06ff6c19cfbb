-- What a type feeds a hasher.
--     term_writes        the number of the kind of type, what the type holds, and the types in it
--     struct_writes      how many fields there are, and then the name and the type of each
use Rattle.std.specs.Prelude.{ℕ, [], ◌++◌, slice_get}
use Rattle.std.specs.Option.{option_map_or}
use Rattle.std.specs.Hash as fed
use Rattle.std.specs.Hash.{HashWrites}
use Rattle.vortex_terms.specs.Term.{Term, null, boolean, primitive, decimal, utf8, binary}
use Rattle.vortex_terms.specs.Term.{structure, list, extension, fixed_size_list, Fields, no_fields}
use Rattle.vortex_terms.specs.Term.{field}
use Rattle.vortex_terms.specs.TermCode.{kind_number}
use Rattle.vortex_terms.specs.Types.{field_count, field_at, names_of}

abbrev mutual
  pub term_writes : Term → HashWrites
  term_writes null = fed.u8 1
  term_writes (boolean n) = fed.u8 2 ++ fed.bool n
  term_writes (primitive k n) = fed.u8 3 ++ fed.bool n ++ fed.u8 (kind_number k)
  term_writes (decimal p s n) = fed.u8 4 ++ fed.bool n ++ fed.u8 p ++ fed.i8 s
  term_writes (utf8 n) = fed.u8 5 ++ fed.bool n
  term_writes (binary n) = fed.u8 6 ++ fed.bool n
  term_writes (structure fs n) =
      fed.u8 7 ++ fed.bool n ++ fed.usize (field_count fs) ++ fields_writes fs
  term_writes (list t n) = fed.u8 8 ++ fed.bool n ++ term_writes t
  term_writes (extension id t m) =
      fed.u8 9 ++ fed.str id ++ fed.option (fed.slice fed.u8) m ++ term_writes t
  term_writes (fixed_size_list t k n) = fed.u8 10 ++ fed.bool n ++ fed.u32 k ++ term_writes t

  pub fields_writes : Fields → HashWrites
  fields_writes no_fields = []
  fields_writes (field x t fs) = fed.str x ++ term_writes t ++ fields_writes fs

abbrev pub struct_writes : Fields → HashWrites
struct_writes fs = fed.usize (field_count fs) ++ fields_writes fs

-- of one field
abbrev pub field_writes : Fields → ℕ → HashWrites
field_writes fs i =
    option_map_or fed.str (slice_get (names_of fs) i) []
    ++ option_map_or term_writes (field_at fs i) []
