-- What is read of a message that is written piece by piece, the fields of each piece having one number.
--     Piece              the fields of a piece, whatever follows
--     Holds              the fields of a number in a message
--     of_one, first_of_two, .. last_of_three      the fields of a number in a message of one, two and three pieces
--     ..-piece           the pieces that are written
--     ..-held            what a reader finds of the fields of its number
use Rattle.std.proofs.Common.{◌≡◌, ℕ, zero, suc, ◌+◌, ◌-◌, ◌*◌, ◌/◌, ◌%◌, ◌^◌, ◌<◌, ◌≤◌, Bool, true, false, eqb, List, [], ◌∷◌, ◌++◌, length, Option, Some, None, ℤ, pos, negsuc, refl, sym, ap, ◌∙◌, append_assoc, arith, inl, inr}
use Rattle.std.specs.Prelude.{unwrap_or, filter, ◌==◌, FitsSigned}
use Rattle.std.specs.Int.{w32, w64}
use Rattle.std.specs.List.{list_all, last_or}
use Rattle.std.specs.Option.{option_to_list}
use Rattle.std.specs.Str.{IsUtf8, is_utf8}
use Rattle.std.proofs.lemmas.Bool.{ne_eqb, eq-eqb, cases_eq, cases_lt, lt-ltb, le-ltb}
use Rattle.std.proofs.lemmas.List.{append-nil, length-append}
use Rattle.std.proofs.lemmas.List.Elements.{filter-append}
use Rattle.std.proofs.lemmas.Str.{is_utf8-from_IsUtf8}
use Rattle.vortex_wire.specs.Varint.{groups_of, varint}
use Rattle.vortex_wire.specs.Field.{Varint, Bytes, Field, fields_of, varint_field, bytes_field}
use Rattle.vortex_wire.specs.Message.{last_varint, singular_varint, singular_u32, truth, singular_field, is_member, only_field}
use Rattle.vortex_wire.specs.Inside.{each_bytes, bytes_fields, texts, singular_text, optional_bytes, message, flag, signed_32, singular_i32, text_field, optional_bytes_field, repeated_field, flag_field, bits_64, signed_field}
use Rattle.vortex_wire.proofs.FieldLaws.{no_fields_in_nothing, varint_then, bytes_then}
use Rattle.vortex_wire.proofs.Records.{written, kept, number_then, number_found, nothing_found, u32_back}

-- ---- fields of one number

-- each field has the number
abbrev pub Numbered : ℕ → List Field → Type 0
Numbered number [] = Unit {0}
Numbered number (f ∷ fields) = (f.number ≡ number) × Numbered number fields

-- the fields of a number
abbrev pub numbered : ℕ → List Field → List Field
numbered number fields = filter (λ f. f.number == number) fields

same_numbered : (number : ℕ) (fields : List Field) → Numbered number fields → numbered number fields ≡ fields
same_numbered number [] h = refl
same_numbered number (f ∷ fields) h = rw (eq-eqb f.number number h.0) (ap (λ (others : List Field). f ∷ others) (same_numbered number fields h.1))

-- no field of another number
other_test : (f : Field) (number k : ℕ) → f.number ≡ number → eqb number k ≡ false → eqb f.number k ≡ false
other_test f number k e other = rw e other

other_numbered : (number k : ℕ) (fields : List Field) → eqb number k ≡ false → Numbered number fields → numbered k fields ≡ []
other_numbered number k [] other h = refl
other_numbered number k (f ∷ fields) other h = rw (other_test f number k h.0 other) (other_numbered number k fields other h.1)

-- ---- pieces

-- before all others, the bytes are these fields
pub record Piece (number : ℕ) (bytes : List ℕ) (fields : List Field) : Type 0 where
  pub all : Numbered number fields
  pub before : (rest : List ℕ) (others : List Field) → fields_of rest ≡ Some others → fields_of (bytes ++ rest) ≡ Some (fields ++ others)

-- the fields of a number in a message
pub record Holds (number : ℕ) (bytes : List ℕ) (fields : List Field) : Type 0 where
  pub whole : List Field
  pub stands : fields_of bytes ≡ Some whole
  pub picked : numbered number whole ≡ fields

-- a message of one piece
pub whole_of_one : (a : ℕ) (p : List ℕ) (fs : List Field) → Piece a p fs → fields_of p ≡ Some fs
whole_of_one a p fs one =
    ap fields_of (sym (append-nil p)) ∙ one.before [] [] no_fields_in_nothing ∙ ap (λ (fields : List Field). Some fields) (append-nil fs)

-- a message of two pieces
pub whole_of_two : (a b : ℕ) (p q : List ℕ) (fs gs : List Field) → Piece a p fs → Piece b q gs → fields_of (p ++ q) ≡ Some (fs ++ gs)
whole_of_two a b p q fs gs one two = one.before q gs (whole_of_one b q gs two)

-- a message of three pieces
pub whole_of_three : (a b c : ℕ) (p q r : List ℕ) (fs gs hs : List Field) → Piece a p fs → Piece b q gs → Piece c r hs → fields_of ((p ++ q) ++ r) ≡ Some (fs ++ (gs ++ hs))
whole_of_three a b c p q r fs gs hs one two three =
    ap fields_of (append_assoc p q r) ∙ one.before (q ++ r) (gs ++ hs) (whole_of_two b c q r gs hs two three)

pub of_one : (a : ℕ) (p : List ℕ) (fs : List Field) → Piece a p fs → Holds a p fs
of_one a p fs one = record { whole = fs; stands = whole_of_one a p fs one; picked = same_numbered a fs one.all }

both_picked : (k : ℕ) (fs gs xs ys : List Field) → numbered k fs ≡ xs → numbered k gs ≡ ys → numbered k (fs ++ gs) ≡ xs ++ ys
both_picked k fs gs xs ys e h = filter-append (λ f. f.number == k) fs gs ∙ rw (e, h) refl

pub first_of_two : (a b : ℕ) (p q : List ℕ) (fs gs : List Field) → Piece a p fs → Piece b q gs → eqb b a ≡ false → Holds a (p ++ q) fs
first_of_two a b p q fs gs one two other = record {
  whole = fs ++ gs;
  stands = whole_of_two a b p q fs gs one two;
  picked = both_picked a fs gs fs [] (same_numbered a fs one.all) (other_numbered b a gs other two.all) ∙ append-nil fs;
}

pub last_of_two : (a b : ℕ) (p q : List ℕ) (fs gs : List Field) → Piece a p fs → Piece b q gs → eqb a b ≡ false → Holds b (p ++ q) gs
last_of_two a b p q fs gs one two other = record {
  whole = fs ++ gs;
  stands = whole_of_two a b p q fs gs one two;
  picked = both_picked b fs gs [] gs (other_numbered a b fs other one.all) (same_numbered b gs two.all);
}

pub first_of_three : (a b c : ℕ) (p q r : List ℕ) (fs gs hs : List Field) → Piece a p fs → Piece b q gs → Piece c r hs → eqb b a ≡ false → eqb c a ≡ false → Holds a ((p ++ q) ++ r) fs
first_of_three a b c p q r fs gs hs one two three other another = record {
  whole = fs ++ (gs ++ hs);
  stands = whole_of_three a b c p q r fs gs hs one two three;
  picked =
      both_picked a fs (gs ++ hs) fs [] (same_numbered a fs one.all) (both_picked a gs hs [] [] (other_numbered b a gs other two.all) (other_numbered c a hs another three.all))
      ∙ append-nil fs;
}

pub second_of_three : (a b c : ℕ) (p q r : List ℕ) (fs gs hs : List Field) → Piece a p fs → Piece b q gs → Piece c r hs → eqb a b ≡ false → eqb c b ≡ false → Holds b ((p ++ q) ++ r) gs
second_of_three a b c p q r fs gs hs one two three other another = record {
  whole = fs ++ (gs ++ hs);
  stands = whole_of_three a b c p q r fs gs hs one two three;
  picked =
      both_picked b fs (gs ++ hs) [] (gs ++ []) (other_numbered a b fs other one.all) (both_picked b gs hs gs [] (same_numbered b gs two.all) (other_numbered c b hs another three.all))
      ∙ append-nil gs;
}

pub last_of_three : (a b c : ℕ) (p q r : List ℕ) (fs gs hs : List Field) → Piece a p fs → Piece b q gs → Piece c r hs → eqb a c ≡ false → eqb b c ≡ false → Holds c ((p ++ q) ++ r) hs
last_of_three a b c p q r fs gs hs one two three other another = record {
  whole = fs ++ (gs ++ hs);
  stands = whole_of_three a b c p q r fs gs hs one two three;
  picked = both_picked c fs (gs ++ hs) [] hs (other_numbered a c fs other one.all) (both_picked c gs hs [] hs (other_numbered b c gs another two.all) (same_numbered c hs three.all));
}

-- ---- what is written

-- the fields that hold these bytes
abbrev pub holding : ℕ → List (List ℕ) → List Field
holding number [] = []
holding number (x ∷ xs) = record { number = number; content = Bytes x } ∷ holding number xs

-- each has a length that can be written
abbrev pub AllShort : List (List ℕ) → Type 0
AllShort [] = Unit {0}
AllShort (x ∷ xs) = (length x < 2 ^ 64) × AllShort xs

-- a text that is not empty
abbrev pub kept_text : List ℕ → List (List ℕ)
kept_text [] = []
kept_text (b ∷ bytes) = (b ∷ bytes) ∷ []

-- the number of a truth value
abbrev pub truth_number : Bool → ℕ
truth_number true = 1
truth_number false = 0

written_numbered : (number n : ℕ) → Numbered number (written number n)
written_numbered number n = elim (cases_eq n 0) [
  | inl none ↦ rw (eq-eqb n 0 none) tt
  | inr there ↦ rw (ne_eqb n 0 there) (refl, tt)
]

holding_numbered : (number : ℕ) (xs : List (List ℕ)) → Numbered number (holding number xs)
holding_numbered number [] = tt
holding_numbered number (x ∷ xs) = (refl, holding_numbered number xs)

pub nothing-piece : (number : ℕ) → Piece number [] []
nothing-piece number = record { all = tt; before = λ rest others e. e }

pub varint-piece : (number n : ℕ) → 0 < number → number < 2 ^ 29 → n < 2 ^ 64 → Piece number (varint_field number n) (record { number = number; content = Varint n } ∷ [])
varint-piece number n some most fits = record { all = (refl, tt); before = λ rest others e. varint_then number n rest others some most fits e }

pub number-piece : (number n : ℕ) → 0 < number → number < 2 ^ 29 → n < 2 ^ 64 → Piece number (singular_field number n) (written number n)
number-piece number n some most fits = record { all = written_numbered number n; before = λ rest others e. number_then number n rest others some most fits e }

pub flag-piece : (number : ℕ) (b : Bool) → 0 < number → number < 2 ^ 29 → Piece number (flag_field number b) (written number (truth_number b))
flag-piece number true some most = number-piece number 1 some most (omega arith)
flag-piece number false some most = nothing-piece number

bits_fit : (z : ℤ) → FitsSigned w64 z → bits_64 z < 2 ^ 64
bits_fit (pos n) h = omega (arith, h)
bits_fit (negsuc n) h = omega arith

pub signed-piece : (number : ℕ) (z : ℤ) → 0 < number → number < 2 ^ 29 → FitsSigned w64 z → Piece number (signed_field number z) (written number (bits_64 z))
signed-piece number z some most fits = number-piece number (bits_64 z) some most (bits_fit z fits)

pub bytes-piece : (number : ℕ) (x : List ℕ) → 0 < number → number < 2 ^ 29 → length x < 2 ^ 64 → Piece number (bytes_field number x) (holding number (x ∷ []))
bytes-piece number x some most fits = record { all = (refl, tt); before = λ rest others e. bytes_then number x rest others some most fits e }

pub text-piece : (number : ℕ) (x : List ℕ) → 0 < number → number < 2 ^ 29 → length x < 2 ^ 64 → Piece number (text_field number x) (holding number (kept_text x))
text-piece number [] some most fits = nothing-piece number
text-piece number (b ∷ bytes) some most fits = bytes-piece number (b ∷ bytes) some most fits

pub optional-piece : (number : ℕ) (o : Option (List ℕ)) → 0 < number → number < 2 ^ 29 → AllShort (option_to_list o) → Piece number (optional_bytes_field number o) (holding number (option_to_list o))
optional-piece number None some most fits = nothing-piece number
optional-piece number (Some bytes) some most fits = bytes-piece number bytes some most fits.0

repeated_then : (number : ℕ) (xs : List (List ℕ)) (rest : List ℕ) (others : List Field) → 0 < number → number < 2 ^ 29 → AllShort xs → fields_of rest ≡ Some others
    → fields_of (repeated_field number xs ++ rest) ≡ Some (holding number xs ++ others)
unfolding repeated_field
repeated_then number [] rest others some most fits e = e
repeated_then number (x ∷ xs) rest others some most fits e =
    ap fields_of (append_assoc (bytes_field number x) (repeated_field number xs) rest)
    ∙ bytes_then number x (repeated_field number xs ++ rest) (holding number xs ++ others) some most fits.0 (repeated_then number xs rest others some most fits.1 e)

pub repeated-piece : (number : ℕ) (xs : List (List ℕ)) → 0 < number → number < 2 ^ 29 → AllShort xs → Piece number (repeated_field number xs) (holding number xs)
repeated-piece number xs some most fits =
    record { all = holding_numbered number xs; before = λ rest others e. repeated_then number xs rest others some most fits e }

-- ---- what is read

each_held : (number : ℕ) (xs : List (List ℕ)) → each_bytes (holding number xs) ≡ Some xs
unfolding each_bytes
each_held number [] = refl
each_held number (x ∷ xs) = rw (each_held number xs) refl

pub bytes-held : (number : ℕ) (bytes : List ℕ) (xs : List (List ℕ)) → Holds number bytes (holding number xs) → bytes_fields number bytes ≡ Some xs
unfolding bytes_fields
bytes-held number bytes xs h = rw h.stands (ap each_bytes h.picked ∙ each_held number xs)

pub texts-held : (number : ℕ) (bytes : List ℕ) (xs : List (List ℕ)) → list_all is_utf8 xs ≡ true → Holds number bytes (holding number xs) → texts number bytes ≡ Some xs
unfolding texts
texts-held number bytes xs good h = rw (bytes-held number bytes xs h) (rw good refl)

kept_utf8 : (x : List ℕ) → IsUtf8 x → list_all is_utf8 (kept_text x) ≡ true
kept_utf8 [] h = refl
kept_utf8 (b ∷ bytes) h = rw (is_utf8-from_IsUtf8 (b ∷ bytes) h) refl

last_kept : (x : List ℕ) → unwrap_or (last_or None (kept_text x)) [] ≡ x
last_kept [] = refl
last_kept (b ∷ bytes) = refl

pub text-held : (number : ℕ) (bytes x : List ℕ) → IsUtf8 x → Holds number bytes (holding number (kept_text x)) → singular_text number bytes ≡ Some x
unfolding singular_text
text-held number bytes x good h =
    rw (texts-held number bytes (kept_text x) (kept_utf8 x good) h) (ap (λ (y : List ℕ). Some y) (last_kept x))

last_listed : (o : Option (List ℕ)) → last_or None (option_to_list o) ≡ o
last_listed None = refl
last_listed (Some bytes) = refl

pub optional-held : (number : ℕ) (bytes : List ℕ) (o : Option (List ℕ)) → Holds number bytes (holding number (option_to_list o)) → optional_bytes number bytes ≡ Some o
unfolding optional_bytes
optional-held number bytes o h = rw (bytes-held number bytes (option_to_list o) h) (ap (λ (p : Option (List ℕ)). Some p) (last_listed o))

pub message-held : (number : ℕ) (bytes x : List ℕ) → Holds number bytes (holding number (x ∷ [])) → message number bytes ≡ Some x
unfolding message
message-held number bytes x h = rw (bytes-held number bytes (x ∷ []) h) refl

-- only the fields of its number count for a singular field
last_numbered : (number : ℕ) (fields : List Field) → last_varint number (numbered number fields) ≡ last_varint number fields
unfolding last_varint
last_numbered number [] = refl
last_numbered number (f ∷ fields) = elim (cases_eq f.number number) [
  | inl same ↦ rw (eq-eqb f.number number same) (rw (eq-eqb f.number number same, last_numbered number fields) refl)
  | inr other ↦ rw (ne_eqb f.number number other) (last_numbered number fields)
]

written_found : (number n : ℕ) → last_varint number (written number n) ≡ Some (kept n)
written_found number n = ap (last_varint number) (sym (append-nil (written number n))) ∙ number_found number n [] (nothing_found number)

pub number-held : (number n : ℕ) (bytes : List ℕ) → Holds number bytes (written number n) → singular_varint number bytes ≡ Some (kept n)
unfolding singular_varint
number-held number n bytes h =
    rw h.stands (sym (last_numbered number h.whole) ∙ ap (last_varint number) h.picked ∙ written_found number n)

pub u32-held : (number n : ℕ) (bytes : List ℕ) → n < 2 ^ 32 → Holds number bytes (written number n) → singular_u32 number bytes ≡ Some n
unfolding singular_u32
u32-held number n bytes fits h = rw (number-held number n bytes h) (ap (λ (k : ℕ). Some k) (u32_back n fits))

truth_kept : (b : Bool) → truth (unwrap_or (kept (truth_number b)) 0) ≡ b
truth_kept true = refl
truth_kept false = refl

pub flag-held : (number : ℕ) (b : Bool) (bytes : List ℕ) → Holds number bytes (written number (truth_number b)) → flag number bytes ≡ Some b
unfolding flag
flag-held number b bytes h = rw (number-held number (truth_number b) bytes h) (ap (λ (c : Bool). Some c) (truth_kept b))

low_bits : (n : ℕ) → unwrap_or (kept n) 0 ≡ n
low_bits n = elim (cases_eq n 0) [
  | inl none ↦ rw (eq-eqb n 0 none) (sym none)
  | inr there ↦ rw (ne_eqb n 0 there) refl
]

signed_back : (z : ℤ) → FitsSigned w32 z → signed_32 (bits_64 z % 2 ^ 32) ≡ z
signed_back (pos n) h =
    let low : n % 2 ^ 32 ≡ n = omega (arith, h) in
    rw low (rw (lt-ltb n (2 ^ 31) (omega (arith, h))) refl)
signed_back (negsuc n) h =
    let low : (2 ^ 64 - suc n) % 2 ^ 32 ≡ 2 ^ 32 - suc n = omega (arith, h) in
    let back : 2 ^ 32 - suc (2 ^ 32 - suc n) ≡ n = omega (arith, h) in
    rw low (rw (le-ltb (2 ^ 32 - suc n) (2 ^ 31) (omega (arith, h))) (ap negsuc back))

pub i32-held : (number : ℕ) (z : ℤ) (bytes : List ℕ) → FitsSigned w32 z → Holds number bytes (written number (bits_64 z)) → singular_i32 number bytes ≡ Some z
unfolding singular_i32 singular_u32
i32-held number z bytes fits h =
    rw (number-held number (bits_64 z) bytes h)
    (ap (λ (n : ℕ). Some (signed_32 (n % 2 ^ 32))) (low_bits (bits_64 z)) ∙ ap (λ (w : ℤ). Some w) (signed_back z fits))

-- the only field of a message
pub only_again : (first last : ℕ) (f : Field) (bytes : List ℕ) → fields_of bytes ≡ Some (f ∷ []) → is_member first last f ≡ true → only_field first last bytes ≡ Some (Some f)
unfolding only_field
only_again first last f bytes e member = rw e (rw member refl)

-- ---- how long it is

groups_few : (most n : ℕ) → length (groups_of most n) ≤ suc most
unfolding groups_of
groups_few zero n = omega arith
groups_few (suc most) n = elim (cases_lt n 128) [
  | inl small ↦ rw (lt-ltb n 128 small) (omega arith)
  | inr large ↦ rw (le-ltb n 128 large) (omega (arith, groups_few most (n / 128)))
]

pub varint_few : (n : ℕ) → length (varint n) ≤ 10
unfolding varint
varint_few n = groups_few 9 n

pub varint_field_few : (number n : ℕ) → length (varint_field number n) ≤ 20
unfolding varint_field
varint_field_few number n = omega (arith, length-append (varint (8 * number)) (varint n), varint_few (8 * number), varint_few n)

pub bytes_field_few : (number : ℕ) (x : List ℕ) → length (bytes_field number x) ≤ 20 + length x
unfolding bytes_field
bytes_field_few number x =
    omega (
      arith,
      length-append (varint (8 * number + 2) ++ varint (length x)) x,
      length-append (varint (8 * number + 2)) (varint (length x)),
      varint_few (8 * number + 2),
      varint_few (length x),
    )

pub singular_field_few : (number n : ℕ) → length (singular_field number n) ≤ 20
singular_field_few number n = elim (cases_eq n 0) [
  | inl none ↦ rw (eq-eqb n 0 none) (omega arith)
  | inr there ↦ rw (ne_eqb n 0 there) (varint_field_few number n)
]

pub flag_field_few : (number : ℕ) (b : Bool) → length (flag_field number b) ≤ 20
flag_field_few number true = varint_field_few number 1
flag_field_few number false = omega arith

pub text_field_few : (number : ℕ) (x : List ℕ) → length (text_field number x) ≤ 20 + length x
text_field_few number [] = omega arith
text_field_few number (b ∷ bytes) = bytes_field_few number (b ∷ bytes)
