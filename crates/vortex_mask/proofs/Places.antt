-- The bits of bytes by their places.
use Rattle.std.proofs.Common.{◌≡◌, ℕ, zero, suc, ◌+◌, ◌-◌, ◌*◌, ◌/◌, ◌%◌, ◌^◌, ◌<◌, ◌≤◌, false, List, [], ◌∷◌, length, take, drop, get_or, ◌==◌, arith, refl, sym, ap, ◌∙◌, bit_and, bit_or, Fits, w8}
use Rattle.std.proofs.lemmas.Grind.{or_before_shift}
use Rattle.std.proofs.lemmas.List.{drop-drop, drop_all, get_or_append_left, get_or-append-add}
use Rattle.std.proofs.lemmas.Nat.{field_of, pow-add, one_shl, and_mask}
use Rattle.std.proofs.Math.Nat.{add-mul-mod_self_right}
use Rattle.std.proofs.Math.Numerals.{add-one}
use Rattle.std.proofs.lemmas.Nat.Bits.{shr_and_one}
use Rattle.std.specs.List.{flat_map}
use Rattle.vortex_mask.specs.Bits.{bits_of_byte}
use Rattle.vortex_mask.specs.Truths.{number_of}
use Rattle.vortex_mask.proofs.Numbers.{number-append, number_of_byte, number-drop, number-take}

-- how many bits bytes have
pub length_of_bits : (bytes : List ℕ) → length (flat_map bits_of_byte bytes) ≡ 8 * length bytes
length_of_bits [] = refl
length_of_bits (b ∷ bs) = omega (arith, length_of_bits bs)

-- whole bytes are dropped
pub drop_bytes : (q : ℕ) (bytes : List ℕ) → drop (8 * q) (flat_map bits_of_byte bytes) ≡ flat_map bits_of_byte (drop q bytes)
drop_bytes zero bs = refl
drop_bytes (suc q) [] = drop_all (8 * suc q) [] (omega arith)
drop_bytes (suc q) (b ∷ bs) =
    let e : 8 * suc q ≡ 8 + 8 * q = omega arith in
    rw (e, ← (drop-drop (8 * q) 8 (flat_map bits_of_byte (b ∷ bs)))) (drop_bytes q bs)

-- bit r of a byte
bit_of_byte : (b r : ℕ) → r < 8 → get_or (bits_of_byte b) r false ≡ (b / 2 ^ r % 2 == 1)
bit_of_byte b zero h = refl
bit_of_byte b (suc zero) h = refl
bit_of_byte b (suc (suc zero)) h = refl
bit_of_byte b (suc (suc (suc zero))) h = refl
bit_of_byte b (suc (suc (suc (suc zero)))) h = refl
bit_of_byte b (suc (suc (suc (suc (suc zero))))) h = refl
bit_of_byte b (suc (suc (suc (suc (suc (suc zero)))))) h = refl
bit_of_byte b (suc (suc (suc (suc (suc (suc (suc zero))))))) h = refl
bit_of_byte b (suc (suc (suc (suc (suc (suc (suc (suc r)))))))) h = absurd (omega arith)

bit_in_bytes : (bytes : List ℕ) (q r : ℕ) → r < 8 → q < length bytes → get_or (flat_map bits_of_byte bytes) (8 * q + r) false ≡ (get_or bytes q 0 / 2 ^ r % 2 == 1)
bit_in_bytes [] q r h l = absurd (omega arith)
bit_in_bytes (b ∷ bs) zero r h l =
    let e : 8 * zero + r ≡ r = omega arith in
    rw e (get_or_append_left (bits_of_byte b) (flat_map bits_of_byte bs) false r h ∙ bit_of_byte b r h)
bit_in_bytes (b ∷ bs) (suc q) r h l =
    let e : 8 * suc q + r ≡ 8 + (8 * q + r) = omega arith in
    rw e (get_or-append-add (bits_of_byte b) (flat_map bits_of_byte bs) (8 * q + r) false ∙ bit_in_bytes bs q r h (omega arith))

pub bit_at_place : (bytes : List ℕ) (place : ℕ) → place < 8 * length bytes → (bit_and (get_or bytes (place / 8) 0 / 2 ^ (place % 8)) 1 == 1) ≡ get_or (flat_map bits_of_byte bytes) place false
bit_at_place bytes place h =
    let e : 8 * (place / 8) + place % 8 ≡ place = omega arith in
    let l : place / 8 < length bytes = omega arith in
    rw (shr_and_one (get_or bytes (place / 8) 0) (place % 8)) (sym (bit_in_bytes bytes (place / 8) (place % 8) (omega arith) l) ∙ ap (λ (n : ℕ). get_or (flat_map bits_of_byte bytes) n false) e)

-- two bytes, and what comes behind them
record FrontOf (n a b : ℕ) : Type 0 where
  rest : ℕ
  is : n ≡ a + 256 * b + 65536 * rest

number_cons : (b : ℕ) (bs : List ℕ) → b < 256 → number_of (flat_map bits_of_byte (b ∷ bs)) ≡ b + 256 * number_of (flat_map bits_of_byte bs)
number_cons b bs h = number-append (bits_of_byte b) (flat_map bits_of_byte bs) ∙ ap (λ (n : ℕ). n + 256 * number_of (flat_map bits_of_byte bs)) (number_of_byte b h)

front : (q : ℕ) (bytes : List ℕ) → ((k : ℕ) → Fits w8 (get_or bytes k 0)) → FrontOf (number_of (flat_map bits_of_byte (drop q bytes))) (get_or bytes q 0) (get_or bytes (suc q) 0)
front zero [] h = record { rest = 0; is = refl }
front zero (b ∷ []) h = record { rest = 0; is = number_cons b [] (h 0).fits ∙ omega arith }
front zero (b ∷ c ∷ bs) h = record {
  rest = number_of (flat_map bits_of_byte bs);
  is = number_cons b (c ∷ bs) (h 0).fits ∙ omega (arith, number_cons c bs (h 1).fits);
}
front (suc q) [] h = record { rest = 0; is = refl }
front (suc q) (b ∷ bs) h = front q bs (λ k. h (suc k))

-- the bits from r on, of which the byte behind the second is not wanted
narrowed : (x rest r c : ℕ) → r + c ≤ 16 → (x + 65536 * rest) / 2 ^ r % 2 ^ c ≡ x / 2 ^ r % 2 ^ c
narrowed x rest r c h =
    let e : 16 ≡ (16 - (c + r)) + (c + r) = omega arith in
    let p : 65536 ≡ 2 ^ (16 - (c + r)) * 2 ^ (c + r) = ap (λ (n : ℕ). 2 ^ n) e ∙ pow-add 2 (16 - (c + r)) (c + r) in
    let m : 65536 * rest ≡ rest * 2 ^ (16 - (c + r)) * 2 ^ (c + r) = grind (arith, p) in
    rw (← (field_of (x + 65536 * rest) c r), m, add-mul-mod_self_right x (rest * 2 ^ (16 - (c + r))) (2 ^ (c + r))) (field_of x c r)

bits_from : (bytes : List ℕ) (place count : ℕ) → number_of (take count (drop place (flat_map bits_of_byte bytes))) ≡ number_of (flat_map bits_of_byte (drop (place / 8) bytes)) / 2 ^ (place % 8) % 2 ^ count
bits_from bytes place count =
    let e : place ≡ 8 * (place / 8) + place % 8 = omega arith in
    let d : drop place (flat_map bits_of_byte bytes) ≡ drop (place % 8) (flat_map bits_of_byte (drop (place / 8) bytes)) =
    ap (λ (n : ℕ). drop n (flat_map bits_of_byte bytes)) e
    ∙ sym (drop-drop (place % 8) (8 * (place / 8)) (flat_map bits_of_byte bytes))
    ∙ ap (drop (place % 8)) (drop_bytes (place / 8) bytes) in
    rw (d, number-take count (drop (place % 8) (flat_map bits_of_byte (drop (place / 8) bytes))), number-drop (place % 8) (flat_map bits_of_byte (drop (place / 8) bytes))) refl

joined : (low high shift count : ℕ) → low < 256 → high < 256 → count ≤ 8 → bit_and (bit_or low (high * 256 % 65536) / 2 ^ shift) (1 * 2 ^ count % 65536 - 1) ≡ (low + 256 * high) / 2 ^ shift % 2 ^ count
joined low high shift count l h k =
    let e : bit_or low (high * 256 % 65536) ≡ low + 256 * high = or_before_shift low high 256 65536 refl l (omega arith) ∙ omega arith in
    let p : 1 * 2 ^ count % 65536 ≡ 2 ^ count = one_shl count 16 (omega arith) in
    rw (e, p) (and_mask ((low + 256 * high) / 2 ^ shift) count)

-- what the code computes of two bytes
pub byte_at_place : (bytes : List ℕ) (place count low high : ℕ) → ((k : ℕ) → Fits w8 (get_or bytes k 0)) → count ≤ 8 → low ≡ get_or bytes (place / 8) 0 → high ≡ get_or bytes (place / 8 + 1) 0 → bit_and (bit_or low (high * 256 % 65536) / 2 ^ (place % 8)) (1 * 2 ^ count % 65536 - 1) ≡ number_of (take count (drop place (flat_map bits_of_byte bytes)))
byte_at_place bytes place count low high f h l g =
    let q : place / 8 + 1 ≡ suc (place / 8) = add-one (place / 8) in
    let a : low < 256 = rw l (f (place / 8)).fits in
    let b : high < 256 = rw g (f (place / 8 + 1)).fits in
    let w : FrontOf (number_of (flat_map bits_of_byte (drop (place / 8) bytes))) low high = rw (l, g, q) (front (place / 8) bytes f) in
    joined low high (place % 8) count a b h
    ∙ sym (narrowed (low + 256 * high) w.rest (place % 8) count (omega arith))
    ∙ ap (λ (n : ℕ). n / 2 ^ (place % 8) % 2 ^ count) (sym w.is)
    ∙ sym (bits_from bytes place count)
