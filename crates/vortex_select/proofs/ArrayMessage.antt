-- The message of a primitive array that is laid out stands for its rows.
use Rattle.std.proofs.Common.{◌≡◌, ℕ, ◌+◌, ◌-◌, ◌*◌, ◌/◌, ◌^◌, ◌<◌, ◌≤◌, Bool, true, false, cond, eqb, leb, ltb, List, [], ◌∷◌, ◌++◌, length, take, drop, Option, Some, None, refl, sym, ap, ◌∙◌, append-nil, length-append, arith}
use Rattle.std.specs.Prelude.{codes, if◌then◌else◌}
use Rattle.std.proofs.Math.Seq.{drop-append-add, take-length}
use Rattle.std.proofs.lemmas.Str.{IsUtf8-from_ascii, is_utf8-from_IsUtf8}
use Rattle.std.specs.Option.{option_map}
use Rattle.std.specs.Int.{w32, w64, to_le_bytes}
use Rattle.std.specs.Str.{is_utf8, IsAscii}
use Rattle.std.specs.List.{list_all}
use Rattle.std.proofs.lemmas.Str.Ascii.{IsAscii-nil, IsAscii-cons}
use Rattle.std.proofs.lemmas.Bool.{le-leb, leb-true, eq-eqb, ltb-true, and_parts, both_ways}
use Rattle.std.proofs.lemmas.List.{take_at, drop_at}
use Rattle.std.proofs.lemmas.List.Elements.{All-cons, All-nil}
use Rattle.std.proofs.lemmas.Nat.{from_le_bytes-to_le_bytes_4, from_le_bytes-to_le_bytes_8}
use Rattle.vortex_flat.specs.Numbers.{little_endian, number}
use Rattle.vortex_prelude.specs.Chain.{◌>>=◌}
use Rattle.vortex_flat.specs.Table.{table_at, field_in}
use Rattle.vortex_flat.specs.Targets.{vector_at}
use Rattle.vortex_flat.proofs.NumbersLemmas.{spell_4, spell_8}
use Rattle.vortex_stream.specs.Header.{array_content, message_table_of, content_at, header_of}
use Rattle.vortex_stream.specs.Stream.{IsMessage}
use Rattle.vortex_select.specs.Column.{BodyParts, BufferDescriptor, descriptor_of, i64_column, i64_values, body_parts, buffers_in, buffer_in, primitive_node_at, primitive_buffer_in, primitive_buffer_of, IsPrimitiveArray}
use Rattle.vortex_select.specs.Layout.{array_header, array_message, body_end}

-- ---- numbers

low_4 : (n : ℕ) → n < 2 ^ 32 → little_endian (to_le_bytes w32 n) ≡ n
low_4 n lt = spell_4 (to_le_bytes w32 n) refl ∙ from_le_bytes-to_le_bytes_4 n lt

low_8 : (n : ℕ) → n < 2 ^ 64 → little_endian (to_le_bytes w64 n) ≡ n
low_8 n lt = spell_8 (to_le_bytes w64 n) refl ∙ from_le_bytes-to_le_bytes_8 n lt

-- ---- the header

-- the one name
abbrev pub primitive_names : List (List ℕ)
primitive_names = codes "vortex.primitive" ∷ []

ascii_by : (xs : List ℕ) → list_all (λ b. ltb b 128) xs ≡ true → IsAscii xs
ascii_by [] h = IsAscii-nil
ascii_by (x ∷ xs) h = let p = and_parts (ltb x 128) (list_all (λ b. ltb b 128) xs) h in IsAscii-cons x xs (ltb-true x 128 p.0) (ascii_by xs p.1)

primitive_is_text : is_utf8 (codes "vortex.primitive") ≡ true
primitive_is_text = is_utf8-from_IsUtf8 (codes "vortex.primitive") (IsUtf8-from_ascii (codes "vortex.primitive") (ascii_by (codes "vortex.primitive") refl))

header_reads : (rows size : ℕ) → header_of (drop 4 (array_header rows size)) ≡ Some (record { content = array_content (little_endian (to_le_bytes w32 rows)) primitive_names; body_size = little_endian (to_le_bytes w64 size) })
unfolding number table_at field_in vector_at message_table_of content_at header_of
header_reads rows size = rw primitive_is_text refl

header_stands : (rows size : ℕ) → rows < 2 ^ 32 → size < 2 ^ 64 → header_of (drop 4 (array_header rows size)) ≡ Some (record { content = array_content rows primitive_names; body_size = size })
header_stands rows size r s =
    header_reads rows size ∙ ap (λ n. Some (record { content = array_content n primitive_names; body_size = little_endian (to_le_bytes w64 size) })) (low_4 rows r) ∙ ap (λ n. Some (record { content = array_content rows primitive_names; body_size = n })) (low_8 size s)

-- ---- the body

number_if : (s t : Bool) (x y : List ℕ) → s ≡ t → x ≡ y → cond s (Some (little_endian x)) None ≡ cond t (Some (little_endian y)) None
number_if s t x y e h = ap (λ b. cond b (Some (little_endian x)) None) e ∙ ap (λ (l : List ℕ). cond t (Some (little_endian l)) None) h

leb_by : (a b c d : ℕ) → (a ≤ b → c ≤ d) → (c ≤ d → a ≤ b) → leb a b ≡ leb c d
leb_by a b c d f g = go (leb a b) (leb c d) refl refl where
  go : (s t : Bool) → leb a b ≡ s → leb c d ≡ t → leb a b ≡ leb c d
  go true t e h = e ∙ sym (le-leb c d (f (leb-true a b e)))
  go false true e h = absurd (both_ways (leb a b) e (le-leb a b (g (leb-true c d h))))
  go false false e h = e ∙ sym h

-- a number behind a front
number_behind : (front bytes : List ℕ) (i w : ℕ) → number (front ++ bytes) (length front + i) w ≡ number bytes i w
unfolding number
number_behind front bytes i w =
    number_if _ _ _ _ (leb_by (length front + i + w) (length (front ++ bytes)) (i + w) (length bytes) (λ h. omega (arith, length-append front bytes)) (λ h. omega (arith, length-append front bytes)))
    (ap (take w) (drop-append-add front bytes i))

-- what a body_end is behind: its flat buffer alone
abbrev pub flat_of : ℕ → List ℕ
flat_of len = take 112 (body_end len)

end_number : (len : ℕ) → number (body_end len) 112 4 ≡ Some 112
unfolding number
end_number len = refl

parts_if : (s : Bool) (start : ℕ) (region bytes : List ℕ) → s ≡ true → start ≡ length region
    → cond {A = Option BodyParts} s (Some (record { region = take start (region ++ bytes); flat = take 112 (drop start (region ++ bytes)) })) None ≡ Some (record { region = region; flat = take 112 bytes })
parts_if s start region bytes e h =
    let front : take start (region ++ bytes) ≡ region = ap (λ j. take j (region ++ bytes)) h ∙ take_at region bytes (length region) refl in
    let back : drop start (region ++ bytes) ≡ bytes = ap (λ j. drop j (region ++ bytes)) h ∙ drop_at region bytes (length region) refl in
    rw (e, front, back) refl

-- the parts of a body that is laid out
pub parts_stand : (region : List ℕ) (len : ℕ) → body_parts (region ++ body_end len) ≡ Some (record { region = region; flat = flat_of len })
unfolding body_parts
parts_stand region len =
    let long : length (region ++ body_end len) ≡ length region + 116 = length-append region (body_end len) in
    let at : length (region ++ body_end len) - 4 ≡ length region + 112 = omega arith in
    let n : number (region ++ body_end len) (length (region ++ body_end len) - 4) 4 ≡ Some 112 = ap (λ j. number (region ++ body_end len) j 4) at ∙ number_behind region (body_end len) 112 4 ∙ end_number len in
    rw n (parts_if (leb (112 + 4) (length (region ++ body_end len))) (length (region ++ body_end len) - 4 - 112) region (body_end len) (le-leb _ _ (omega arith)) (omega arith))

-- the one descriptor, of a buffer of that length
entry_is : (len : ℕ) → len < 2 ^ 32 → little_endian (0 ∷ 0 ∷ 0 ∷ 0 ∷ to_le_bytes w32 len) ≡ 2 ^ 32 * len
entry_is len lt = let e = low_4 len lt in omega (arith, e)

flat_reads : (count len : ℕ) (region : List ℕ) → primitive_buffer_in count 1 (record { region = region; flat = flat_of len })
    ≡ (buffer_in region (Some (descriptor_of (little_endian (0 ∷ 0 ∷ 0 ∷ 0 ∷ to_le_bytes w32 len)) ∷ [])) 0 >>= λ buffer. if eqb (length buffer) (8 * count) then Some buffer else None)
unfolding number table_at field_in vector_at primitive_node_at primitive_buffer_in
flat_reads count len region = refl

one_buffer : (region : List ℕ) → buffer_in region (Some (descriptor_of (2 ^ 32 * length region) ∷ [])) 0 ≡ Some region
unfolding buffer_in buffers_in
one_buffer region =
    let d : BufferDescriptor = descriptor_of (2 ^ 32 * length region) in
    let none : d.compression ≡ 0 = omega arith in
    let before : d.padding ≡ 0 = omega arith in
    let long : d.length ≡ length region = omega arith in
    let fits : leb (d.padding + d.length) (length region) ≡ true = le-leb _ _ (omega arith) in
    let whole : take d.length (drop d.padding region) ≡ region = rw (before, long) (take-length region) in
    rw (eq-eqb _ _ none, fits, whole) refl

-- the buffer of a body that is laid out is its region
pub buffer_stands : (count : ℕ) (region : List ℕ) → length region < 2 ^ 32 → length region ≡ 8 * count → primitive_buffer_of count 1 (region ++ body_end (length region)) ≡ Some region
buffer_stands count region lt e =
    ap (λ parts. parts >>= primitive_buffer_in count 1) (parts_stand region (length region)) ∙ flat_reads count (length region) region
    ∙ ap (λ n. buffer_in region (Some (descriptor_of n ∷ [])) 0 >>= λ buffer. if eqb (length buffer) (8 * count) then Some buffer else None) (entry_is (length region) lt)
    ∙ ap (λ (o : Option (List ℕ)). o >>= λ buffer. if eqb (length buffer) (8 * count) then Some buffer else None) (one_buffer region)
    ∙ ap (λ b. cond b (Some region) None) (eq-eqb (length region) (8 * count) e)

-- ---- the message

pub record ArrayStands (region : List ℕ) (count : ℕ) : Type 0 where
  pub message : IsMessage (array_message region) (array_content count primitive_names) (region ++ body_end (length region)) []
  pub array : IsPrimitiveArray i64_column count primitive_names (region ++ body_end (length region)) (i64_values count region)

pub array_stands : (region : List ℕ) (count : ℕ) → length region < 2 ^ 32 → length region ≡ 8 * count → ArrayStands region count
array_stands region count lt e =
    let rows : length region / 8 ≡ count = omega arith in
    let size : length (region ++ body_end (length region)) ≡ length region + 116 = length-append region (body_end (length region)) in
    let header : header_of (drop 4 (array_header (length region / 8) (length region + 116))) ≡ Some (record { content = array_content count primitive_names; body_size = length (region ++ body_end (length region)) }) =
    header_stands (length region / 8) (length region + 116) (omega arith) (omega arith) ∙ ap (λ n. Some (record { content = array_content n primitive_names; body_size = length region + 116 })) rows ∙ ap (λ n. Some (record { content = array_content count primitive_names; body_size = n })) (sym size) in
    record {
      message = record {
        prefix = take 4 (array_header (length region / 8) (length region + 116));
        header = drop 4 (array_header (length region / 8) (length region + 116));
        parts = sym (append-nil (array_header (length region / 8) (length region + 116) ++ (region ++ body_end (length region))));
        prefix_len = refl;
        header_len = refl;
        header_is = header;
      };
      array = record {
        names_are = All-cons (λ name. name ≡ codes "vortex.primitive") (codes "vortex.primitive") [] refl (All-nil (λ name. name ≡ codes "vortex.primitive"));
        rows_are = ap (option_map (i64_values count)) (buffer_stands count region lt e);
      };
    }
