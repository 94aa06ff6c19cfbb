-- Fields come one after another, each with a byte at least.
use Rattle.std.proofs.Common.{◌≡◌, ℕ, zero, suc, ◌+◌, ◌-◌, ◌*◌, ◌/◌, ◌%◌, ◌^◌, ◌<◌, ◌≤◌, List, [], ◌∷◌, ◌++◌, length, take, drop, Option, Some, None, option_map, ltb, false, refl, sym, ap, ◌∙◌, append_assoc, arith, inl, inr}
use Rattle.std.specs.Int.{w32, w64, from_le_bytes}
use Rattle.std.proofs.lemmas.Bool.{lt-ltb, le-ltb, cases_lt, ne_eqb, lt-leb}
use Rattle.std.proofs.lemmas.List.{length-drop, length-append, take_at, drop_at}
use Rattle.std.proofs.lemmas.Option.{some_pair_parts, option_and_then_some, cond_some, none-some}
use Rattle.std.specs.Prelude.{unwrap_or}
use Rattle.vortex_prelude.specs.Chain.{◌>>=◌}
use Rattle.vortex_wire.specs.Varint.{groups_at, varint_at, varint}
use Rattle.vortex_wire.specs.Field.{Content, Varint, Eight, Bytes, Four, Field, bytes_at, content_at, field_number, field_at, fields_in, fields_of, left_of, varint_field, bytes_field}
use Rattle.vortex_wire.proofs.Writing.{varint_again}

groups_shorter : (k : ℕ) (bytes : List ℕ) (x : ℕ × List ℕ) → groups_at k bytes ≡ Some x → length x.1 < length bytes
unfolding groups_at
groups_shorter zero bytes x e = absurd (none-some x e)
groups_shorter (suc k) [] x e = absurd (none-some x e)
groups_shorter (suc k) (b ∷ bytes) x e = elim (cases_lt b 128) [
  | inl small ↦
      let parts = some_pair_parts b x.0 bytes x.1 (rw (lt-ltb b 128 small) at e) in
      omega (arith, ap length parts.1)
  | inr large ↦
      let later : (groups_at k bytes >>= λ high. Some (b - 128 + 128 * high.0, high.1)) ≡ Some x = rw (le-ltb b 128 large) at e in
      option_and_then_some (λ high. Some (b - 128 + 128 * high.0, high.1)) (groups_at k bytes) x later
      (λ y found made.
      let parts = some_pair_parts (b - 128 + 128 * y.0) x.0 y.1 x.1 made in
      omega (arith, groups_shorter k bytes y found, ap length parts.1))
]

varint_shorter : (bytes : List ℕ) (x : ℕ × List ℕ) → varint_at bytes ≡ Some x → length x.1 < length bytes
unfolding varint_at
varint_shorter bytes x e =
    option_and_then_some _ (groups_at 10 bytes) x e
    (λ y found made. groups_shorter 10 bytes x (found ∙ ap (λ (z : ℕ × List ℕ). Some z) (cond_some (ltb y.0 (2 ^ 64)) y x made).1))

bytes_no_longer : (n : ℕ) (bytes : List ℕ) (x : List ℕ × List ℕ) → bytes_at n bytes ≡ Some x → length x.1 ≤ length bytes
unfolding bytes_at
bytes_no_longer n bytes x e = elim (cases_lt (length bytes) n) [
  | inl short ↦ absurd (none-some x (rw (lt-ltb (length bytes) n short) at e))
  | inr long ↦
      let parts = some_pair_parts (take n bytes) x.0 (drop n bytes) x.1 (rw (le-ltb (length bytes) n long) at e) in
      omega (arith, length-drop n bytes, ap length parts.1)
]

content_no_longer : (wire_type : ℕ) (bytes : List ℕ) (x : Content × List ℕ) → content_at wire_type bytes ≡ Some x → length x.1 ≤ length bytes
unfolding content_at
content_no_longer zero bytes x e = option_and_then_some _ (varint_at bytes) x e
    (λ y found made. omega (arith, varint_shorter bytes y found, ap length (some_pair_parts (Varint y.0) x.0 y.1 x.1 made).1))
content_no_longer (suc zero) bytes x e = option_and_then_some _ (bytes_at 8 bytes) x e
    (λ y found made. omega (arith, bytes_no_longer 8 bytes y found, ap length (some_pair_parts (Eight (from_le_bytes w64 y.0)) x.0 y.1 x.1 made).1))
content_no_longer (suc (suc zero)) bytes x e = option_and_then_some _ (varint_at bytes) x e
    (λ y found later. option_and_then_some _ (bytes_at y.0 y.1) x later
    (λ z text made. omega (arith, varint_shorter bytes y found, bytes_no_longer y.0 y.1 z text, ap length (some_pair_parts (Bytes z.0) x.0 z.1 x.1 made).1)))
content_no_longer (suc (suc (suc zero))) bytes x e = absurd (none-some x e)
content_no_longer (suc (suc (suc (suc zero)))) bytes x e = absurd (none-some x e)
content_no_longer (suc (suc (suc (suc (suc zero))))) bytes x e = option_and_then_some _ (bytes_at 4 bytes) x e
    (λ y found made. omega (arith, bytes_no_longer 4 bytes y found, ap length (some_pair_parts (Four (from_le_bytes w32 y.0)) x.0 y.1 x.1 made).1))
content_no_longer (suc (suc (suc (suc (suc (suc n)))))) bytes x e = absurd (none-some x e)

-- a field has a byte at least
pub field_shorter : (bytes : List ℕ) (x : Field × List ℕ) → field_at bytes ≡ Some x → length x.1 < length bytes
unfolding field_at
field_shorter bytes x e = option_and_then_some _ (varint_at bytes) x e
    (λ key found later. option_and_then_some _ (field_number (key.0 / 8)) x later
    (λ number _ rest. option_and_then_some _ (content_at (key.0 % 8) key.1) x rest
    (λ content held made.
    omega (
      arith,
      varint_shorter bytes key found,
      content_no_longer (key.0 % 8) key.1 content held,
      ap length (some_pair_parts (record { number = number; content = content.0 }) x.0 content.1 x.1 made).1,
    ))))

pub no_field_in_nothing : field_at [] ≡ None
unfolding field_at varint_at groups_at
no_field_in_nothing = refl

pub no_fields_in_nothing : fields_of [] ≡ Some []
unfolding fields_of fields_in
no_fields_in_nothing = refl

-- two chains whose second steps agree
same_then : {A B : Type 0} (o : Option A) (f g : A → Option B) → ((x : A) → o ≡ Some x → f x ≡ g x) → (o >>= f) ≡ (o >>= g)
same_then None f g h = refl
same_then (Some x) f g h = h x refl

-- more steps than bytes change nothing
enough : (k j : ℕ) (bytes : List ℕ) → length bytes ≤ k → length bytes ≤ j → fields_in k bytes ≡ fields_in j bytes
unfolding fields_in
enough k j [] p q = refl
enough zero j (b ∷ bytes) p q = absurd (omega arith)
enough (suc k) zero (b ∷ bytes) p q = absurd (omega arith)
enough (suc k) (suc j) (b ∷ bytes) p q = same_then (field_at (b ∷ bytes)) _ _
    (λ x found. ap (λ (o : Option (List Field)). o >>= λ others. Some (x.0 ∷ others)) (enough k j x.1 (omega (arith, field_shorter (b ∷ bytes) x found)) (omega (arith, field_shorter (b ∷ bytes) x found))))

then_one_more : (f : Field) (o : Option (List Field)) → (o >>= λ others. Some (f ∷ others)) ≡ option_map (λ others. f ∷ others) o
then_one_more f None = refl
then_one_more f (Some fields) = refl

-- where a field stands, the fields are it and those after it
pub fields_next : (bytes : List ℕ) (f : Field) (rest : List ℕ) → field_at bytes ≡ Some (f, rest) → fields_of bytes ≡ option_map (λ others. f ∷ others) (fields_of rest)
unfolding fields_of fields_in
fields_next [] f rest e = absurd (none-some (f, rest) (sym no_field_in_nothing ∙ e))
fields_next (b ∷ bytes) f rest e =
    let shorter : length rest < length (b ∷ bytes) = field_shorter (b ∷ bytes) (f, rest) e in
    rw e (ap (λ (o : Option (List Field)). o >>= λ others. Some (f ∷ others)) (enough (length bytes) (length rest) rest (omega arith) (omega arith)) ∙ then_one_more f (fields_in (length rest) rest))

-- where bytes are and no field stands, there are none
pub no_fields : (bytes : List ℕ) → 0 < length bytes → field_at bytes ≡ None → fields_of bytes ≡ None
unfolding fields_of fields_in
no_fields [] some e = absurd (omega arith)
no_fields (b ∷ bytes) some e = rw e refl

-- ---- what is written is read again

field_number_again : (n : ℕ) → 0 < n → n < 2 ^ 29 → field_number n ≡ Some n
field_number_again n some most = rw (ne_eqb n 0 (omega arith), lt-leb (2 ^ 29) n (omega arith)) refl

regrouped : (a b c rest : List ℕ) → (a ++ b ++ c) ++ rest ≡ a ++ (b ++ (c ++ rest))
regrouped a b c rest = simp append_assoc

pub varint_field_again : (number n : ℕ) (rest : List ℕ) → 0 < number → number < 2 ^ 29 → n < 2 ^ 64 → field_at (varint_field number n ++ rest) ≡ Some (record { number = number; content = Varint n }, rest)
unfolding field_at varint_field content_at
varint_field_again number n rest some most fits =
    let key = varint_again (8 * number) (varint n ++ rest) (omega arith) in
    let quotient : 8 * number / 8 ≡ number = omega arith in
    let remainder : 8 * number % 8 ≡ 0 = omega arith in
    ap field_at (append_assoc (varint (8 * number)) (varint n) rest) ∙ rw key (rw (quotient, field_number_again number some most, remainder) (rw (varint_again n rest fits) refl))

pub bytes_field_again : (number : ℕ) (bytes rest : List ℕ) → 0 < number → number < 2 ^ 29 → length bytes < 2 ^ 64 → field_at (bytes_field number bytes ++ rest) ≡ Some (record { number = number; content = Bytes bytes }, rest)
unfolding field_at bytes_field content_at bytes_at
bytes_field_again number bytes rest some most fits =
    let key = varint_again (8 * number + 2) (varint (length bytes) ++ (bytes ++ rest)) (omega arith) in
    let quotient : (8 * number + 2) / 8 ≡ number = omega arith in
    let remainder : (8 * number + 2) % 8 ≡ 2 = omega arith in
    let long : ltb (length (bytes ++ rest)) (length bytes) ≡ false = le-ltb _ _ (omega (arith, length-append bytes rest)) in
    ap field_at (regrouped (varint (8 * number + 2)) (varint (length bytes)) bytes rest)
    ∙ rw key (rw (quotient, field_number_again number some most, remainder)
    (rw (varint_again (length bytes) (bytes ++ rest) fits) (rw (long, take_at bytes rest (length bytes) refl, drop_at bytes rest (length bytes) refl) refl)))

-- a field that holds a varint, before other fields
pub varint_then : (number n : ℕ) (rest : List ℕ) (fields : List Field) → 0 < number → number < 2 ^ 29 → n < 2 ^ 64 → fields_of rest ≡ Some fields
    → fields_of (varint_field number n ++ rest) ≡ Some (record { number = number; content = Varint n } ∷ fields)
varint_then number n rest fields some most fits e =
    let f : Field = record { number = number; content = Varint n } in
    fields_next (varint_field number n ++ rest) f rest (varint_field_again number n rest some most fits) ∙ ap (λ (o : Option (List Field)). option_map (λ others. f ∷ others) o) e

-- a field that holds bytes, before other fields
pub bytes_then : (number : ℕ) (bytes rest : List ℕ) (fields : List Field) → 0 < number → number < 2 ^ 29 → length bytes < 2 ^ 64 → fields_of rest ≡ Some fields
    → fields_of (bytes_field number bytes ++ rest) ≡ Some (record { number = number; content = Bytes bytes } ∷ fields)
bytes_then number bytes rest fields some most fits e =
    let f : Field = record { number = number; content = Bytes bytes } in
    fields_next (bytes_field number bytes ++ rest) f rest (bytes_field_again number bytes rest some most fits) ∙ ap (λ (o : Option (List Field)). option_map (λ others. f ∷ others) o) e

pub nothing_left : left_of [] ≡ []
nothing_left = ap (λ (found : Option (Field × List ℕ)). unwrap_or (option_map (λ f. f.1) found) []) no_field_in_nothing
