-- What is written stands for what it was written for.
use Rattle.std.proofs.Common.{◌≡◌, ℕ, zero, suc, ◌^◌, ◌<◌, ◌≤◌, true, Bool, List, [], ◌∷◌, length, Option, Some, None, ℤ, pos, negsuc, refl, ap, arith}
use Rattle.std.specs.Prelude.{IfSome, nat_lt, nat_eq}
use Rattle.std.specs.Cmp.{first_so, second_so}
use Rattle.std.proofs.lemmas.Bool.{lt-ltb, eq-eqb}
use borrow.Author.Differences.{le_T}
use Rattle.serde_json.specs.Find.{as_str, of_integer}
use Rattle.serde_json.specs.Data.{Data}
use Rattle.serde_json.specs.Data as json
use Rattle.vortex_terms.specs.Term.{WholeKind, unsigned_8, unsigned_16, unsigned_32, unsigned_64, signed_8, signed_16, signed_32, signed_64, Term, null, boolean, primitive, decimal, utf8, binary, structure, list, extension, fixed_size_list, Fields, no_fields, field}
use Rattle.vortex_terms.specs.Types.{names_of, types_of, levels, fields_levels, IsBytes, IsDecimal, Legal, LegalFields, Bounded}
use Rattle.vortex_terms.specs.TermLaws.{is_within-Decides}
use Rattle.vortex_terms.specs.FieldLaws.{fields_from-parts}
use Rattle.vortex_terms.specs.TestLaws.{is_decimal-Decides, are_bytes-Decides}
use Rattle.vortex_terms.specs.Tests.{are_bytes}
use Rattle.vortex_terms.specs.Path.{PathPart, by_name, element}
use Rattle.vortex_number.specs.WholeKind.{ptype_of}
use Rattle.vortex_number.specs.PType.{ptype_text}
use Rattle.vortex_json.specs.Found.{bits_found, decimal_found, decimal_of, each_found, extension_found, fixed_size_list_found, kind_named, kind_found, list_found, metadata_found, name_found, named_found, owned_found, part_found, primitive_found, structure_found, path_found, type_found, type_in, whole_found}
use Rattle.vortex_json.specs.Written.{count_json, each_json, json_of, kind_json, metadata_json, owned_json, part_json, path_json, text_json, types_json}

-- ---- kinds, numbers and lists

pub kind_again : (k : WholeKind) → kind_named (ptype_text (ptype_of k)) ≡ Some k
kind_again unsigned_8 = refl
kind_again unsigned_16 = refl
kind_again unsigned_32 = refl
kind_again unsigned_64 = refl
kind_again signed_8 = refl
kind_again signed_16 = refl
kind_again signed_32 = refl
kind_again signed_64 = refl

names_again : (xs : List (List ℕ)) → each_found as_str (each_json text_json xs) ≡ Some xs
names_again [] = refl
names_again (x ∷ xs) = rw (names_again xs) refl

bytes_again : (bs : List ℕ) → are_bytes bs ≡ true → each_found (bits_found 8) (each_json count_json bs) ≡ Some bs
bytes_again [] h = refl
bytes_again (b ∷ bs) h =
    rw (first_so (nat_lt b 256) (are_bytes bs) h, bytes_again bs (second_so (nat_lt b 256) (are_bytes bs) h)) refl

metadata_again : (m : Option (List ℕ)) → IfSome m IsBytes → metadata_found (Some (metadata_json m)) ≡ Some m
metadata_again None h = refl
metadata_again (Some bs) h = rw (bytes_again bs ((are_bytes-Decides bs).1 h)) refl

scale_again : (p : ℕ) (s : ℤ) → IsDecimal p s → whole_found (json.number (of_integer s)) ≡ Some s
scale_again p (pos n) h =
    let small : n < 2 ^ 63 = omega (arith, le_T (pos n) (pos p) h.3.le, h.1) in
    rw (lt-ltb n (2 ^ 63) small) refl
scale_again p (negsuc n) h = refl

decimal_again : (p : ℕ) (s : ℤ) (n : Bool) → IsDecimal p s → decimal_of p s n ≡ Some (decimal p s n)
decimal_again p s n h = rw ((is_decimal-Decides p s).1 h) refl

size_again : (k : ℕ) → k < 2 ^ 32 → bits_found 32 (count_json k) ≡ Some k
size_again k h = rw (lt-ltb k (2 ^ 32) h) refl

as_long : (fs : Fields) → length (names_of fs) ≡ length (types_of fs)
as_long no_fields = refl
as_long (field x t fs) = ap suc (as_long fs)

as_many : (fs : Fields) → nat_eq (length (names_of fs)) (length (types_of fs)) ≡ true
as_many fs = eq-eqb (length (names_of fs)) (length (types_of fs)) (as_long fs)

-- ---- types

again_owned : (read : Data → Option Term) (d : Data) → owned_found read (owned_json d) ≡ read d
unfolding owned_found
again_owned read d = refl

mutual
  unfolding type_in named_found primitive_found decimal_found structure_found list_found extension_found fixed_size_list_found

  pub type_again : (t : Term) (n : ℕ) → Legal t → levels t ≤ n → type_in n (json_of t) ≡ Some t
  type_again null zero h l = absurd (omega arith)
  type_again (boolean b) zero h l = absurd (omega arith)
  type_again (primitive k b) zero h l = absurd (omega arith)
  type_again (decimal p s b) zero h l = absurd (omega arith)
  type_again (utf8 b) zero h l = absurd (omega arith)
  type_again (binary b) zero h l = absurd (omega arith)
  type_again (structure fs b) zero h l = absurd (omega arith)
  type_again (list t b) zero h l = absurd (omega arith)
  type_again (extension id t m) zero h l = absurd (omega arith)
  type_again (fixed_size_list t k b) zero h l = absurd (omega arith)
  type_again null (suc n) h l = refl
  type_again (boolean b) (suc n) h l = refl
  type_again (primitive k b) (suc n) h l = rw (kind_again k) refl
  type_again (decimal p s b) (suc n) h l = rw (scale_again p s h, decimal_again p s b h) refl
  type_again (utf8 b) (suc n) h l = refl
  type_again (binary b) (suc n) h l = refl
  type_again (structure fs b) (suc n) h l =
      rw (names_again (names_of fs), fields_again fs n h (omega (arith, l)), as_many fs, fields_from-parts fs) refl
  type_again (list t b) (suc n) h l = rw (type_again t n h (omega (arith, l))) refl
  type_again (extension id t m) (suc n) h l =
      rw (metadata_again m h.1, type_again t n h.3 (omega (arith, l)), h.2) refl
  type_again (fixed_size_list t k b) (suc n) h l = rw (size_again k h.0, type_again t n h.1 (omega (arith, l))) refl

  pub fields_again : (fs : Fields) (n : ℕ) → LegalFields fs → fields_levels fs ≤ n → each_found (owned_found (type_in n)) (types_json fs) ≡ Some (types_of fs)
  fields_again no_fields n h l = refl
  fields_again (field x t fs) n h l =
      rw (again_owned (type_in n) (json_of t), type_again t n h.1 (omega (arith, l)), fields_again fs n h.2 (omega (arith, l))) refl

pub dtype_again : (t : Term) → Bounded t → type_found (json_of t) ≡ Some t
dtype_again t h = rw (type_again t 64 h.legal h.few_levels, (is_within-Decides t h.legal).1 h) refl

pub ptype_again : (k : WholeKind) → kind_found (kind_json k) ≡ Some k
ptype_again k = kind_again k

-- ---- paths

pub part_again : (part : PathPart) → part_found (part_json part) ≡ Some part
unfolding name_found
part_again (by_name x) = refl
part_again element = refl

parts_again : (path : List PathPart) → each_found part_found (each_json part_json path) ≡ Some path
parts_again [] = refl
parts_again (part ∷ path) = rw (part_again part, parts_again path) refl

pub path_again : (path : List PathPart) → path_found (path_json path) ≡ Some path
path_again path = parts_again path
