-- What is written for a value is a message of what is read from it.
use Rattle.std.proofs.Common.{◌≡◌, ℕ, suc, ◌+◌, ◌*◌, ◌/◌, ◌%◌, ◌^◌, ◌<◌, ◌≤◌, ℤ, pos, negsuc, Bool, true, false, ltb, List, [], ◌∷◌, ◌++◌, length, Some, max, refl, ap, ◌∙◌, arith}
use Rattle.std.specs.Prelude.{nat_le, ◌&&◌, unsigned_abs}
use Rattle.std.specs.Str.{IsUtf8}
use Rattle.std.proofs.lemmas.Bool.{eq-eqb, ne_eqb, ltb-true}
use Rattle.std.proofs.lemmas.List.{length-append}
use Rattle.vortex_number.specs.PType.{in_range}
use Rattle.vortex_number.specs.WholeKind.{ptype_of}
use Rattle.vortex_wire.specs.Field.{Varint, Bytes, Field, varint_field, bytes_field}
use Rattle.vortex_wire.specs.Varint.{varint}
use Rattle.vortex_wire.specs.Inside.{bytes_fields, repeated_field}
use Rattle.vortex_wire.proofs.Pieces.{AllShort, whole_of_one, of_one, varint-piece, bytes-piece, repeated-piece, bytes-held, only_again}
use Rattle.vortex_terms.specs.Term.{WholeKind, unsigned_8, unsigned_16, unsigned_32, unsigned_64, signed_8, signed_16, signed_32, signed_64}
use Rattle.vortex_scalar_value.specs.Value.{ValueTerm, null_value, truth_value, whole_value, decimal_value, bytes_value, text_value, list_value, ValueTerms, no_values, value, value_levels, values_levels}
use Rattle.vortex_scalar_value.specs.ValueMessage.{from_zigzag, IsMember, IsValueMessage, AreValueMessages}
use Rattle.vortex_scalar_value.specs.ValueBytes.{zigzag, has_sign, decimal_bytes, value_bytes, values_bytes, as_read, all_as_read}
use Rattle.vortex_scalar_value.specs.Held.{IsHeld, AreHeld}
use Rattle.vortex_scalar_value.specs.declared.schema.TheConstants.{FIRST_MEMBER, LAST_MEMBER, NULL, BOOL, INT64, UINT64, STRING, BYTES, LIST, LIST_VALUES}

-- ---- members

varint_member : (number n : ℕ) → 0 < number → number < 2 ^ 29 → nat_le FIRST_MEMBER number && nat_le number LAST_MEMBER ≡ true → n < 2 ^ 64 → IsMember (varint_field number n) number (Varint n)
varint_member number n some most member fits =
    let f : Field = record { number = number; content = Varint n } in
    only_again FIRST_MEMBER LAST_MEMBER f (varint_field number n) (whole_of_one number (varint_field number n) (f ∷ []) (varint-piece number n some most fits)) member

bytes_member : (number : ℕ) (bs : List ℕ) → 0 < number → number < 2 ^ 29 → nat_le FIRST_MEMBER number && nat_le number LAST_MEMBER ≡ true → length bs < 2 ^ 64 → IsMember (bytes_field number bs) number (Bytes bs)
bytes_member number bs some most member fits =
    let f : Field = record { number = number; content = Bytes bs } in
    only_again FIRST_MEMBER LAST_MEMBER f (bytes_field number bs) (whole_of_one number (bytes_field number bs) (f ∷ []) (bytes-piece number bs some most fits)) member

field_longer : (number : ℕ) (bs : List ℕ) → length bs ≤ length (bytes_field number bs)
unfolding bytes_field
field_longer number bs = omega (arith, length-append (varint (8 * number + 2) ++ varint (length bs)) bs)

-- ---- numbers

zigzag_back : (z : ℤ) → from_zigzag (zigzag z) ≡ z
zigzag_back (pos n) =
    let even : (2 * n) % 2 ≡ 0 = omega arith in
    let half : (2 * n) / 2 ≡ n = omega arith in
    rw (eq-eqb ((2 * n) % 2) 0 even) (ap pos half)
zigzag_back (negsuc n) =
    let odd : suc (2 * n) % 2 ≡ 0 → ⊥ = λ h. omega (arith, h) in
    let half : suc (2 * n) / 2 ≡ n = omega arith in
    rw (ne_eqb (suc (2 * n) % 2) 0 odd) (ap negsuc half)

signed_below : (n m : ℕ) → m ≤ 2 ^ 63 → ltb n m ≡ true → n < 2 ^ 63
signed_below n m few h = omega (arith, ltb-true n m h)

unsigned_below : (n m : ℕ) → m ≤ 2 ^ 64 → ltb n m ≡ true → n < 2 ^ 64
unsigned_below n m few h = omega (arith, ltb-true n m h)

-- what a number of a kind with a sign is in zigzag
zigzag_fits : (k : WholeKind) (z : ℤ) → has_sign k ≡ true → in_range (ptype_of k) z ≡ true → zigzag z < 2 ^ 64
zigzag_fits signed_8 (pos n) s h = omega (arith, signed_below n (2 ^ 7) (omega arith) h)
zigzag_fits signed_8 (negsuc n) s h = omega (arith, signed_below n (2 ^ 7) (omega arith) h)
zigzag_fits signed_16 (pos n) s h = omega (arith, signed_below n (2 ^ 15) (omega arith) h)
zigzag_fits signed_16 (negsuc n) s h = omega (arith, signed_below n (2 ^ 15) (omega arith) h)
zigzag_fits signed_32 (pos n) s h = omega (arith, signed_below n (2 ^ 31) (omega arith) h)
zigzag_fits signed_32 (negsuc n) s h = omega (arith, signed_below n (2 ^ 31) (omega arith) h)
zigzag_fits signed_64 (pos n) s h = omega (arith, signed_below n (2 ^ 63) (omega arith) h)
zigzag_fits signed_64 (negsuc n) s h = omega (arith, signed_below n (2 ^ 63) (omega arith) h)
zigzag_fits _ z s h = absurd (cc)

-- a number of a kind without a sign
record IsUnsigned (z : ℤ) : Type 0 where
  pub below : unsigned_abs z < 2 ^ 64
  pub back : pos (unsigned_abs z) ≡ z

is_unsigned : (k : WholeKind) (z : ℤ) → has_sign k ≡ false → in_range (ptype_of k) z ≡ true → IsUnsigned z
is_unsigned unsigned_8 (pos n) s h = record { below = unsigned_below n (2 ^ 8) (omega arith) h; back = refl }
is_unsigned unsigned_8 (negsuc n) s h = absurd (cc)
is_unsigned unsigned_16 (pos n) s h = record { below = unsigned_below n (2 ^ 16) (omega arith) h; back = refl }
is_unsigned unsigned_16 (negsuc n) s h = absurd (cc)
is_unsigned unsigned_32 (pos n) s h = record { below = unsigned_below n (2 ^ 32) (omega arith) h; back = refl }
is_unsigned unsigned_32 (negsuc n) s h = absurd (cc)
is_unsigned unsigned_64 (pos n) s h = record { below = unsigned_below n (2 ^ 64) (omega arith) h; back = refl }
is_unsigned unsigned_64 (negsuc n) s h = absurd (cc)
is_unsigned _ z s h = absurd (cc)

signed_written : (z : ℤ) → zigzag z < 2 ^ 64 → IsValueMessage (varint_field INT64 (zigzag z)) (whole_value signed_64 z)
signed_written z fits = (zigzag z, varint_member INT64 (zigzag z) (omega arith) (omega arith) refl fits, zigzag_back z)

unsigned_written : (z : ℤ) → IsUnsigned z → IsValueMessage (varint_field UINT64 (unsigned_abs z)) (whole_value unsigned_64 z)
unsigned_written z h = (unsigned_abs z, varint_member UINT64 (unsigned_abs z) (omega arith) (omega arith) refl h.below, h.back)

whole_written : (k : WholeKind) (z : ℤ) → in_range (ptype_of k) z ≡ true → IsValueMessage (value_bytes (whole_value k z)) (as_read (whole_value k z))
whole_written signed_8 z h = signed_written z (zigzag_fits signed_8 z refl h)
whole_written unsigned_8 z h = unsigned_written z (is_unsigned unsigned_8 z refl h)
whole_written signed_16 z h = signed_written z (zigzag_fits signed_16 z refl h)
whole_written unsigned_16 z h = unsigned_written z (is_unsigned unsigned_16 z refl h)
whole_written signed_32 z h = signed_written z (zigzag_fits signed_32 z refl h)
whole_written unsigned_32 z h = unsigned_written z (is_unsigned unsigned_32 z refl h)
whole_written signed_64 z h = signed_written z (zigzag_fits signed_64 z refl h)
whole_written unsigned_64 z h = unsigned_written z (is_unsigned unsigned_64 z refl h)

truth_written : (t : Bool) → IsValueMessage (value_bytes (truth_value t)) (truth_value t)
truth_written true = (1, varint_member BOOL 1 (omega arith) (omega arith) refl (omega arith), refl)
truth_written false = (0, varint_member BOOL 0 (omega arith) (omega arith) refl (omega arith), refl)

shorter : (number most : ℕ) (bs : List ℕ) → length (bytes_field number bs) < most → length bs < most
shorter number most bs h = omega (arith, h, field_longer number bs)

text_written : (bs : List ℕ) → IsUtf8 bs → length (bytes_field STRING bs) < 2 ^ 64 → IsValueMessage (bytes_field STRING bs) (text_value bs)
text_written bs h short = (bytes_member STRING bs (omega arith) (omega arith) refl (shorter STRING (2 ^ 64) bs short), h)

bytes_written : (bs : List ℕ) → length (bytes_field BYTES bs) < 2 ^ 64 → IsValueMessage (bytes_field BYTES bs) (bytes_value bs)
bytes_written bs short = bytes_member BYTES bs (omega arith) (omega arith) refl (shorter BYTES (2 ^ 64) bs short)

-- ---- lists

-- the messages of the values
abbrev pub parts_of : ValueTerms → List (List ℕ)
parts_of no_values = []
parts_of (value v vs) = value_bytes v ∷ parts_of vs

in_parts : (vs : ValueTerms) → values_bytes vs ≡ repeated_field LIST_VALUES (parts_of vs)
unfolding repeated_field
in_parts no_values = refl
in_parts (value v vs) = ap (λ bs. bytes_field LIST_VALUES (value_bytes v) ++ bs) (in_parts vs)

first_short : (v : ValueTerm) (vs : ValueTerms) → length (values_bytes (value v vs)) < 2 ^ 64 → length (value_bytes v) < 2 ^ 64
first_short v vs h = omega (arith, h, length-append (bytes_field LIST_VALUES (value_bytes v)) (values_bytes vs), field_longer LIST_VALUES (value_bytes v))

others_short : (v : ValueTerm) (vs : ValueTerms) → length (values_bytes (value v vs)) < 2 ^ 64 → length (values_bytes vs) < 2 ^ 64
others_short v vs h = omega (arith, h, length-append (bytes_field LIST_VALUES (value_bytes v)) (values_bytes vs))

all_short : (vs : ValueTerms) → length (values_bytes vs) < 2 ^ 64 → AllShort (parts_of vs)
all_short no_values h = tt
all_short (value v vs) h = (first_short v vs h, all_short vs (others_short v vs h))

parts_back : (vs : ValueTerms) → length (values_bytes vs) < 2 ^ 64 → bytes_fields LIST_VALUES (values_bytes vs) ≡ Some (parts_of vs)
parts_back vs short =
    let parts = parts_of vs in
    ap (bytes_fields LIST_VALUES) (in_parts vs)
    ∙ bytes-held LIST_VALUES (repeated_field LIST_VALUES parts) parts (of_one LIST_VALUES (repeated_field LIST_VALUES parts) _ (repeated-piece LIST_VALUES parts (omega arith) (omega arith) (all_short vs short)))

list_written : (vs ws : ValueTerms) → length (bytes_field LIST (values_bytes vs)) < 2 ^ 64 → AreValueMessages (parts_of vs) ws → IsValueMessage (bytes_field LIST (values_bytes vs)) (list_value ws)
list_written vs ws short h =
    let inside = shorter LIST (2 ^ 64) (values_bytes vs) short in
    (values_bytes vs, parts_of vs, bytes_member LIST (values_bytes vs) (omega arith) (omega arith) refl inside, parts_back vs inside, h)

mutual
  pub value_written : (v : ValueTerm) → IsHeld v → length (value_bytes v) < 2 ^ 64 → IsValueMessage (value_bytes v) (as_read v)
  value_written null_value h short = (0, varint_member NULL 0 (omega arith) (omega arith) refl (omega arith))
  value_written (truth_value t) h short = truth_written t
  value_written (whole_value k z) h short = whole_written k z h
  value_written (decimal_value w z) h short = bytes_written (decimal_bytes w z) short
  value_written (bytes_value bs) h short = bytes_written bs short
  value_written (text_value bs) h short = text_written bs h short
  value_written (list_value vs) h short = list_written vs (all_as_read vs) short (values_written vs h (shorter LIST (2 ^ 64) (values_bytes vs) short))

  values_written : (vs : ValueTerms) → AreHeld vs → length (values_bytes vs) < 2 ^ 64 → AreValueMessages (parts_of vs) (all_as_read vs)
  values_written no_values h short = tt
  values_written (value v vs) h short = (value_written v h.0 (first_short v vs short), values_written vs h.1 (others_short v vs short))

mutual
  pub levels_read : (v : ValueTerm) → value_levels (as_read v) ≡ value_levels v
  levels_read null_value = refl
  levels_read (truth_value t) = refl
  levels_read (whole_value k z) = refl
  levels_read (decimal_value w z) = refl
  levels_read (bytes_value bs) = refl
  levels_read (text_value bs) = refl
  levels_read (list_value vs) = ap suc (all_levels_read vs)

  all_levels_read : (vs : ValueTerms) → values_levels (all_as_read vs) ≡ values_levels vs
  all_levels_read no_values = refl
  all_levels_read (value v vs) = λ i. max (levels_read v i) (all_levels_read vs i)

-- what is read is written as the same bytes
whole_again : (k : WholeKind) (z : ℤ) → value_bytes (as_read (whole_value k z)) ≡ value_bytes (whole_value k z)
whole_again unsigned_8 z = refl
whole_again unsigned_16 z = refl
whole_again unsigned_32 z = refl
whole_again unsigned_64 z = refl
whole_again signed_8 z = refl
whole_again signed_16 z = refl
whole_again signed_32 z = refl
whole_again signed_64 z = refl

mutual
  pub written_again : (v : ValueTerm) → value_bytes (as_read v) ≡ value_bytes v
  written_again null_value = refl
  written_again (truth_value t) = refl
  written_again (whole_value k z) = whole_again k z
  written_again (decimal_value w z) = refl
  written_again (bytes_value bs) = refl
  written_again (text_value bs) = refl
  written_again (list_value vs) = ap (bytes_field LIST) (all_written_again vs)

  all_written_again : (vs : ValueTerms) → values_bytes (all_as_read vs) ≡ values_bytes vs
  all_written_again no_values = refl
  all_written_again (value v vs) = λ i. bytes_field LIST_VALUES (written_again v i) ++ all_written_again vs i
