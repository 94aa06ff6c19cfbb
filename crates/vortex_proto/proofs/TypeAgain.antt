-- The message that is written for a type stands for it.
use Rattle.std.proofs.Common.{◌≡◌, ℕ, ◌+◌, ◌*◌, ◌^◌, ◌<◌, ◌≤◌, true, List, [], ◌∷◌, ◌++◌, length, Option, Some, None, ℤ, pos, negsuc, refl, sym, ap, subst, arith}
use Rattle.std.specs.Prelude.{FitsSigned, IsSome}
use Rattle.std.specs.Int.{w32, w64}
use Rattle.std.specs.List.{list_all}
use Rattle.std.specs.Option.{option_to_list, option_map_or}
use Rattle.std.specs.Str.{is_utf8}
use Rattle.std.proofs.lemmas.Bool.{le-leb}
use Rattle.std.proofs.lemmas.List.{length-append}
use Rattle.std.proofs.lemmas.Str.{is_utf8-from_IsUtf8}
use borrow.Author.Differences.{fits_in, le_T}
use Rattle.vortex_terms.specs.Term.{WholeKind, unsigned_8, unsigned_16, unsigned_32, unsigned_64, signed_8, signed_16, signed_32, signed_64, Term, null, boolean, primitive, decimal, utf8, binary, structure, list, extension, fixed_size_list, Fields, no_fields, field}
use Rattle.vortex_terms.specs.TermCode.{kind_number}
use Rattle.vortex_terms.specs.Types.{names_of, type_number, Legal, LegalFields, IsDecimal, Bounded, nodes, text_length, fields_nodes, fields_text_length}
use Rattle.vortex_wire.specs.Field.{Bytes, Field, fields_of, bytes_field}
use Rattle.vortex_wire.specs.Message.{singular_field}
use Rattle.vortex_wire.specs.Inside.{text_field, optional_bytes_field, repeated_field, flag_field, signed_field, bits_64}
use Rattle.vortex_wire.proofs.FieldLaws.{no_fields_in_nothing}
use Rattle.vortex_wire.proofs.Pieces.{Piece, AllShort, holding, whole_of_one, of_one, first_of_two, last_of_two, first_of_three, second_of_three, last_of_three, number-piece, flag-piece, signed-piece, bytes-piece, text-piece, optional-piece, repeated-piece, bytes-held, texts-held, text-held, optional-held, message-held, u32-held, flag-held, i32-held, only_again, bytes_field_few, singular_field_few, flag_field_few, text_field_few}
use Rattle.vortex_proto.specs.TypeMessage.{kind_and_body, IsKind, IsTypeMessage, AreTypeMessages}
use Rattle.vortex_proto.specs.TypeBytes.{body_bytes, field_types, type_bytes}

-- ---- how long it is

optional_few : (number : ℕ) (m : Option (List ℕ)) → length (optional_bytes_field number m) ≤ 20 + option_map_or length m 0
optional_few number None = omega arith
optional_few number (Some bytes) = bytes_field_few number bytes

type_few : (t : Term) (size : ℕ) → length (body_bytes t) + 60 ≤ size → length (type_bytes t) + 40 ≤ size
type_few t size h = omega (arith, bytes_field_few (type_number t) (body_bytes t))

three_long : (p q r : List ℕ) → length ((p ++ q) ++ r) ≡ length p + length q + length r
three_long p q r = omega (arith, length-append (p ++ q) r, length-append p q)

mutual
  unfolding repeated_field

  pub body_few : (t : Term) → length (body_bytes t) + 60 ≤ 140 * nodes t + text_length t
  body_few null = omega arith
  body_few (boolean n) = omega (arith, flag_field_few 1 n)
  body_few (primitive k n) =
      omega (arith, length-append (singular_field 1 (kind_number k)) (flag_field 2 n), singular_field_few 1 (kind_number k), flag_field_few 2 n)
  body_few (decimal p s n) =
      omega (arith, three_long (singular_field 1 p) (signed_field 2 s) (flag_field 3 n), singular_field_few 1 p, singular_field_few 2 (bits_64 s), flag_field_few 3 n)
  body_few (utf8 n) = omega (arith, flag_field_few 1 n)
  body_few (binary n) = omega (arith, flag_field_few 1 n)
  body_few (structure fs n) =
      omega (arith, three_long (repeated_field 1 (names_of fs)) (field_types fs) (flag_field 3 n), fields_few fs, flag_field_few 3 n)
  body_few (list t n) =
      omega (arith, length-append (bytes_field 1 (type_bytes t)) (flag_field 2 n), bytes_field_few 1 (type_bytes t), bytes_field_few (type_number t) (body_bytes t), flag_field_few 2 n, body_few t)
  body_few (extension id t m) =
      omega (
        arith,
        three_long (text_field 1 id) (bytes_field 2 (type_bytes t)) (optional_bytes_field 3 m),
        text_field_few 1 id,
        bytes_field_few 2 (type_bytes t),
        bytes_field_few (type_number t) (body_bytes t),
        optional_few 3 m,
        body_few t,
      )
  body_few (fixed_size_list t k n) =
      omega (
        arith,
        three_long (bytes_field 1 (type_bytes t)) (singular_field 2 k) (flag_field 3 n),
        bytes_field_few 1 (type_bytes t),
        bytes_field_few (type_number t) (body_bytes t),
        singular_field_few 2 k,
        flag_field_few 3 n,
        body_few t,
      )

  fields_few : (fs : Fields) → length (repeated_field 1 (names_of fs)) + length (field_types fs) ≤ 140 * fields_nodes fs + fields_text_length fs
  fields_few no_fields = omega arith
  fields_few (field x t fs) =
      omega (
        arith,
        length-append (bytes_field 1 x) (repeated_field 1 (names_of fs)),
        length-append (bytes_field 2 (type_bytes t)) (field_types fs),
        bytes_field_few 1 x,
        bytes_field_few 2 (type_bytes t),
        bytes_field_few (type_number t) (body_bytes t),
        body_few t,
        fields_few fs,
      )

-- room for a type: so many bytes are fewer than 2 ^ 64
abbrev pub Fits : ℕ → ℕ → Type 0
Fits many long = 140 * many + long < 2 ^ 64

body_fits : (t : Term) → Fits (nodes t) (text_length t) → length (body_bytes t) < 2 ^ 64
body_fits t h = omega (arith, body_few t, h)

type_fits : (t : Term) → Fits (nodes t) (text_length t) → length (type_bytes t) < 2 ^ 64
type_fits t h = omega (arith, body_few t, bytes_field_few (type_number t) (body_bytes t), h)

-- ---- a kind and its message

kind_again : (n : ℕ) (body : List ℕ) → 1 ≤ n → n ≤ 10 → length body < 2 ^ 64 → kind_and_body (bytes_field n body) ≡ Some (n, body)
unfolding kind_and_body
kind_again n body least most fits =
    let f : Field = record { number = n; content = Bytes body } in
    let stands = whole_of_one n (bytes_field n body) (f ∷ []) (bytes-piece n body (omega arith) (omega arith) fits) in
    rw (only_again 1 10 f (bytes_field n body) stands (rw (le-leb 1 n least, le-leb n 10 most) refl)) refl

is_kind : (t : Term) → 1 ≤ type_number t → type_number t ≤ 10 → Fits (nodes t) (text_length t) → IsKind (type_bytes t) t (body_bytes t)
is_kind t least most fits = kind_again (type_number t) (body_bytes t) least most (body_fits t fits)

-- ---- the parts of a struct

-- the messages of the types of fields
abbrev parts_of : Fields → List (List ℕ)
parts_of no_fields = []
parts_of (field x t fs) = type_bytes t ∷ parts_of fs

types_repeated : (fs : Fields) → repeated_field 2 (parts_of fs) ≡ field_types fs
unfolding repeated_field
types_repeated no_fields = refl
types_repeated (field x t fs) = ap (λ (others : List ℕ). bytes_field 2 (type_bytes t) ++ others) (types_repeated fs)

names_short : (fs : Fields) → Fits (fields_nodes fs) (fields_text_length fs) → AllShort (names_of fs)
names_short no_fields h = tt
names_short (field x t fs) h = (omega (arith, h), names_short fs (omega (arith, h)))

parts_short : (fs : Fields) → Fits (fields_nodes fs) (fields_text_length fs) → AllShort (parts_of fs)
parts_short no_fields h = tt
parts_short (field x t fs) h = (type_fits t (omega (arith, h)), parts_short fs (omega (arith, h)))

names_good : (fs : Fields) → LegalFields fs → list_all is_utf8 (names_of fs) ≡ true
names_good no_fields h = refl
names_good (field x t fs) h = rw (is_utf8-from_IsUtf8 x h.0, names_good fs h.2) refl

types-piece : (fs : Fields) → Fits (fields_nodes fs) (fields_text_length fs) → Piece 2 (field_types fs) (holding 2 (parts_of fs))
types-piece fs h =
    subst (λ (bytes : List ℕ). Piece 2 bytes (holding 2 (parts_of fs))) (types_repeated fs) (repeated-piece 2 (parts_of fs) (omega arith) (omega arith) (parts_short fs h))

kind_small : (k : WholeKind) → kind_number k < 8
kind_small unsigned_8 = omega arith
kind_small unsigned_16 = omega arith
kind_small unsigned_32 = omega arith
kind_small unsigned_64 = omega arith
kind_small signed_8 = omega arith
kind_small signed_16 = omega arith
kind_small signed_32 = omega arith
kind_small signed_64 = omega arith

scale_32 : (p : ℕ) (s : ℤ) → IsDecimal p s → FitsSigned w32 s
scale_32 p s h = fits_in w32 s (omega (arith, le_T (negsuc 127) s h.2.le, le_T s (pos p) h.3.le, h.1))

scale_64 : (p : ℕ) (s : ℤ) → IsDecimal p s → FitsSigned w64 s
scale_64 p s h = fits_in w64 s (omega (arith, le_T (negsuc 127) s h.2.le, le_T s (pos p) h.3.le, h.1))

metadata_short : (m : Option (List ℕ)) → option_map_or length m 0 < 2 ^ 64 → AllShort (option_to_list m)
metadata_short None h = tt
metadata_short (Some bytes) h = (h, tt)

-- ---- what is written is read

nothing_stands : IsSome (fields_of [])
nothing_stands = subst IsSome (sym no_fields_in_nothing) refl

mutual
  pub type_again : (t : Term) → Legal t → Fits (nodes t) (text_length t) → IsTypeMessage (type_bytes t) t
  type_again null legal fits = ([], is_kind null (omega arith) (omega arith) fits, nothing_stands)
  type_again (boolean n) legal fits =
      (body_bytes (boolean n), is_kind (boolean n) (omega arith) (omega arith) fits, flag-held 1 n _ (of_one 1 _ _ (flag-piece 1 n (omega arith) (omega arith))))
  type_again (primitive k n) legal fits =
      let first = number-piece 1 (kind_number k) (omega arith) (omega arith) (omega (arith, kind_small k)) in
      let second = flag-piece 2 n (omega arith) (omega arith) in (
        body_bytes (primitive k n),
        is_kind (primitive k n) (omega arith) (omega arith) fits,
        u32-held 1 (kind_number k) _ (omega (arith, kind_small k)) (first_of_two 1 2 _ _ _ _ first second refl),
        flag-held 2 n _ (last_of_two 1 2 _ _ _ _ first second refl),
      )
  type_again (decimal p s n) legal fits =
      let first = number-piece 1 p (omega arith) (omega arith) (omega (arith, legal.1)) in
      let second = signed-piece 2 s (omega arith) (omega arith) (scale_64 p s legal) in
      let third = flag-piece 3 n (omega arith) (omega arith) in (
        body_bytes (decimal p s n),
        is_kind (decimal p s n) (omega arith) (omega arith) fits,
        u32-held 1 p _ (omega (arith, legal.1)) (first_of_three 1 2 3 _ _ _ _ _ _ first second third refl refl),
        i32-held 2 s _ (scale_32 p s legal) (second_of_three 1 2 3 _ _ _ _ _ _ first second third refl refl),
        flag-held 3 n _ (last_of_three 1 2 3 _ _ _ _ _ _ first second third refl refl),
      )
  type_again (utf8 n) legal fits =
      (body_bytes (utf8 n), is_kind (utf8 n) (omega arith) (omega arith) fits, flag-held 1 n _ (of_one 1 _ _ (flag-piece 1 n (omega arith) (omega arith))))
  type_again (binary n) legal fits =
      (body_bytes (binary n), is_kind (binary n) (omega arith) (omega arith) fits, flag-held 1 n _ (of_one 1 _ _ (flag-piece 1 n (omega arith) (omega arith))))
  type_again (structure fs n) legal fits =
      let inside : Fits (fields_nodes fs) (fields_text_length fs) = omega (arith, fits) in
      let first = repeated-piece 1 (names_of fs) (omega arith) (omega arith) (names_short fs inside) in
      let second = types-piece fs inside in
      let third = flag-piece 3 n (omega arith) (omega arith) in (
        body_bytes (structure fs n),
        parts_of fs,
        is_kind (structure fs n) (omega arith) (omega arith) fits,
        texts-held 1 _ (names_of fs) (names_good fs legal) (first_of_three 1 2 3 _ _ _ _ _ _ first second third refl refl),
        bytes-held 2 _ (parts_of fs) (second_of_three 1 2 3 _ _ _ _ _ _ first second third refl refl),
        fields_again fs legal inside,
        flag-held 3 n _ (last_of_three 1 2 3 _ _ _ _ _ _ first second third refl refl),
      )
  type_again (list t n) legal fits =
      let inside : Fits (nodes t) (text_length t) = omega (arith, fits) in
      let first = bytes-piece 1 (type_bytes t) (omega arith) (omega arith) (type_fits t inside) in
      let second = flag-piece 2 n (omega arith) (omega arith) in (
        body_bytes (list t n),
        type_bytes t,
        is_kind (list t n) (omega arith) (omega arith) fits,
        message-held 1 _ (type_bytes t) (first_of_two 1 2 _ _ _ _ first second refl),
        type_again t legal inside,
        flag-held 2 n _ (last_of_two 1 2 _ _ _ _ first second refl),
      )
  type_again (extension id t m) legal fits =
      let inside : Fits (nodes t) (text_length t) = omega (arith, fits) in
      let first = text-piece 1 id (omega arith) (omega arith) (omega (arith, fits)) in
      let second = bytes-piece 2 (type_bytes t) (omega arith) (omega arith) (type_fits t inside) in
      let third = optional-piece 3 m (omega arith) (omega arith) (metadata_short m (omega (arith, fits))) in (
        body_bytes (extension id t m),
        type_bytes t,
        is_kind (extension id t m) (omega arith) (omega arith) fits,
        text-held 1 _ id legal.0 (first_of_three 1 2 3 _ _ _ _ _ _ first second third refl refl),
        message-held 2 _ (type_bytes t) (second_of_three 1 2 3 _ _ _ _ _ _ first second third refl refl),
        type_again t legal.3 inside,
        optional-held 3 _ m (last_of_three 1 2 3 _ _ _ _ _ _ first second third refl refl),
      )
  type_again (fixed_size_list t k n) legal fits =
      let inside : Fits (nodes t) (text_length t) = omega (arith, fits) in
      let first = bytes-piece 1 (type_bytes t) (omega arith) (omega arith) (type_fits t inside) in
      let second = number-piece 2 k (omega arith) (omega arith) (omega (arith, legal.0)) in
      let third = flag-piece 3 n (omega arith) (omega arith) in (
        body_bytes (fixed_size_list t k n),
        type_bytes t,
        is_kind (fixed_size_list t k n) (omega arith) (omega arith) fits,
        message-held 1 _ (type_bytes t) (first_of_three 1 2 3 _ _ _ _ _ _ first second third refl refl),
        type_again t legal.1 inside,
        u32-held 2 k _ legal.0 (second_of_three 1 2 3 _ _ _ _ _ _ first second third refl refl),
        flag-held 3 n _ (last_of_three 1 2 3 _ _ _ _ _ _ first second third refl refl),
      )

  fields_again : (fs : Fields) → LegalFields fs → Fits (fields_nodes fs) (fields_text_length fs) → AreTypeMessages (parts_of fs) fs
  fields_again no_fields legal fits = tt
  fields_again (field x t fs) legal fits = (type_again t legal.1 (omega (arith, fits)), fields_again fs legal.2 (omega (arith, fits)))

-- a type within the limits
pub bounded_again : (t : Term) → Bounded t → IsTypeMessage (type_bytes t) t
bounded_again t h = type_again t h.legal (omega (arith, h.few_nodes, h.little_text))

-- the message of a type within the limits
pub bounded_fits : (t : Term) → Bounded t → length (type_bytes t) < 2 ^ 28
bounded_fits t h = omega (arith, body_few t, bytes_field_few (type_number t) (body_bytes t), h.few_nodes, h.little_text)
