-- Reading the groups of a number from the lowest on.
use Rattle.std.proofs.Common.{◌≡◌, ℕ, suc, ◌+◌, ◌-◌, ◌*◌, ◌^◌, ◌<◌, ◌≤◌, List, [], ◌∷◌, length, get_or, drop, Option, Some, None, option_map, ltb, true, false, refl, sym, ap, ◌∙◌, arith, add-one, ◌⊎◌, inl, inr, take}
use Rattle.std.proofs.Math.Nat.{pow-suc, pow-le-pow_right}
use Rattle.std.proofs.lemmas.Nat.{mul-le}
use Rattle.std.proofs.lemmas.Bool.{lt-ltb, le-ltb, cases_lt}
use Rattle.std.proofs.Math.Seq.{drop-cons}
use Rattle.std.proofs.lemmas.List.{take_all, length-drop, nil_from_length}
use Rattle.vortex_prelude.specs.Chain.{◌>>=◌}
use Rattle.vortex_wire.specs.Varint.{groups_at, varint_at}

take_rest : (xs : List ℕ) (k : ℕ) → take (length xs - k) (drop k xs) ≡ drop k xs
take_rest xs k = take_all (length xs - k) (drop k xs) (omega (arith, length-drop k xs))

drop_past : (xs : List ℕ) (k : ℕ) → length xs ≤ k → drop k xs ≡ []
drop_past xs k past = nil_from_length (drop k xs) (omega (arith, length-drop k xs))

-- what the bytes before have given, and then what the others give
abbrev pub scaled : ℕ → ℕ → Option (ℕ × List ℕ) → Option (ℕ × List ℕ)
scaled value scale found = option_map (λ r. (value + scale * r.0, r.1)) found

-- The bytes below index have given value, and the next group counts scale.
pub record ReadsOn (bytes : List ℕ) (index value scale : ℕ) : Type 0 where
  pub within : index ≤ 9
  pub scale_is : scale ≡ 128 ^ index
  pub below : value < scale
  pub so_far : scaled value scale (groups_at (10 - index) (drop index bytes)) ≡ groups_at 10 bytes

scaled_none_before : (found : Option (ℕ × List ℕ)) → scaled 0 1 found ≡ found
scaled_none_before None = refl
scaled_none_before (Some r) = let e : 0 + 1 * r.0 ≡ r.0 = omega arith in ap (λ (n : ℕ). Some (n, r.1)) e

pub reads_from_start : (bytes : List ℕ) → ReadsOn bytes 0 0 1
unfolding groups_at
reads_from_start bytes = record { within = omega arith; scale_is = refl; below = omega arith; so_far = scaled_none_before (groups_at 10 bytes) }

pub scale_fits : (index scale : ℕ) → index ≤ 9 → scale ≡ 128 ^ index → scale ≤ 2 ^ 63
scale_fits index scale h e = rw e (pow-le-pow_right {n = 128} (omega arith) {i = index} {j = 9} h)

pub scale_fits_before : (index scale : ℕ) → index < 9 → scale ≡ 128 ^ index → scale ≤ 2 ^ 56
scale_fits_before index scale h e = rw e (pow-le-pow_right {n = 128} (omega arith) {i = index} {j = 8} (omega arith))

-- a byte below 128 ends the number
pub last : (bytes : List ℕ) (index value scale b : ℕ) → ReadsOn bytes index value scale → index < length bytes → b ≡ get_or bytes index 0 → b < 128
    → groups_at 10 bytes ≡ Some (value + scale * b, drop (index + 1) bytes)
unfolding groups_at
last bytes index value scale b on lt is small =
    let k : 10 - index ≡ suc (9 - index) = omega (arith, on.within) in
    let here : drop index bytes ≡ b ∷ drop (index + 1) bytes = rw is (rw add-one (drop-cons bytes index 0 lt)) in
    let test : ltb b 128 ≡ true = lt-ltb b 128 small in
    let found : groups_at (10 - index) (drop index bytes) ≡ Some (b, drop (index + 1) bytes) = rw (k, here) (rw test refl) in
    sym on.so_far ∙ ap (scaled value scale) found

scaled_more : (value scale d : ℕ) (found : Option (ℕ × List ℕ)) → scaled value scale (found >>= λ high. Some (d + 128 * high.0, high.1)) ≡ scaled (value + d * scale) (scale * 128) found
scaled_more value scale d None = refl
scaled_more value scale d (Some r) =
    let e : value + scale * (d + 128 * r.0) ≡ (value + d * scale) + (scale * 128) * r.0 = omega arith in
    ap (λ (n : ℕ). Some (n, r.1)) e

-- one from 128 on doesn't
pub more : (bytes : List ℕ) (index value scale b : ℕ) → ReadsOn bytes index value scale → index < length bytes → b ≡ get_or bytes index 0 → 128 ≤ b
    → scaled (value + (b - 128) * scale) (scale * 128) (groups_at (10 - (index + 1)) (drop (index + 1) bytes)) ≡ groups_at 10 bytes
unfolding groups_at
more bytes index value scale b on lt is large =
    let k : 10 - index ≡ suc (10 - (index + 1)) = omega (arith, on.within) in
    let here : drop index bytes ≡ b ∷ drop (index + 1) bytes = rw is (rw add-one (drop-cons bytes index 0 lt)) in
    let test : ltb b 128 ≡ false = le-ltb b 128 large in
    let found : groups_at (10 - index) (drop index bytes) ≡ (groups_at (10 - (index + 1)) (drop (index + 1) bytes) >>= λ high. Some (b - 128 + 128 * high.0, high.1)) = rw (k, here) (rw test refl) in
    sym (scaled_more value scale (b - 128) (groups_at (10 - (index + 1)) (drop (index + 1) bytes))) ∙ sym (ap (scaled value scale) found) ∙ on.so_far

-- ---- what the groups say of the varint

pub found : (bytes : List ℕ) (n : ℕ) (rest : List ℕ) → groups_at 10 bytes ≡ Some (n, rest) → n < 2 ^ 64 → varint_at bytes ≡ Some (n, rest)
unfolding varint_at
found bytes n rest e small = rw e (rw (lt-ltb n (2 ^ 64) small) refl)

too_large : (bytes : List ℕ) (n : ℕ) (rest : List ℕ) → groups_at 10 bytes ≡ Some (n, rest) → 2 ^ 64 ≤ n → varint_at bytes ≡ None
unfolding varint_at
too_large bytes n rest e large = rw e (rw (le-ltb n (2 ^ 64) large) refl)

no_groups : (bytes : List ℕ) → groups_at 10 bytes ≡ None → varint_at bytes ≡ None
unfolding varint_at
no_groups bytes e = rw e refl

no_more_groups : (value scale : ℕ) (rest : List ℕ) → scaled value scale (groups_at 0 rest) ≡ None
unfolding groups_at
no_more_groups value scale rest = refl

scale_at_nine : (index scale : ℕ) → index ≡ 9 → scale ≡ 128 ^ index → scale ≡ 2 ^ 63
scale_at_nine index scale nine e = e ∙ ap (λ (i : ℕ). 128 ^ i) nine

times_two : (s b : ℕ) → 2 ≤ b → 2 * s ≤ s * b
times_two s b h = omega (arith, mul-le 2 s b s h (omega arith))

fits_at_tenth : (value scale b : ℕ) → value < scale → scale ≡ 2 ^ 63 → b ≤ 1 → value + scale * b < 2 ^ 64
fits_at_tenth value scale b below s h = omega (arith, mul-le scale b scale 1 (omega arith) h)

fits_before : (value scale b : ℕ) → value < scale → scale ≤ 2 ^ 56 → b < 128 → value + scale * b < 2 ^ 64
fits_before value scale b below s h = omega (arith, mul-le scale b (2 ^ 56) 127 s (omega arith))

grows : (value scale b : ℕ) → value < scale → b < 256 → value + (b - 128) * scale < scale * 128
grows value scale b below h = omega (arith, mul-le (b - 128) scale 127 scale (omega arith) (omega arith))

-- the tenth byte is above 1
pub tenth : (bytes : List ℕ) (index value scale b : ℕ) → ReadsOn bytes index value scale → index < length bytes → b ≡ get_or bytes index 0 → index ≡ 9 → 1 < b → None ≡ varint_at bytes
tenth bytes index value scale b on lt is nine large =
    let s : scale ≡ 2 ^ 63 = scale_at_nine index scale nine on.scale_is in
    sym (elim (cases_lt b 128) [
      | inl small ↦ too_large bytes _ _ (last bytes index value scale b on lt is small) (omega (arith, times_two scale b (omega arith)))
      | inr ends ↦
          let none : 10 - (index + 1) ≡ 0 = omega arith in
          no_groups bytes (sym (more bytes index value scale b on lt is ends) ∙ ap (λ (k : ℕ). scaled (value + (b - 128) * scale) (scale * 128) (groups_at k (drop (index + 1) bytes))) none ∙ no_more_groups _ _ _)
    ])

-- the last byte is in reach
pub ended : (bytes : List ℕ) (index value scale b : ℕ) → ReadsOn bytes index value scale → index < length bytes → b ≡ get_or bytes index 0 → b < 128
    → ((index ≡ 9) × (b ≤ 1)) ⊎ (index ≡ 9 → ⊥) → Some (value + b * scale, take (length bytes - (index + 1)) (drop (index + 1) bytes)) ≡ varint_at bytes
ended bytes index value scale b on lt is small place =
    let turned : value + b * scale ≡ value + scale * b = omega arith in
    let whole : take (length bytes - (index + 1)) (drop (index + 1) bytes) ≡ drop (index + 1) bytes = take_rest bytes (index + 1) in
    let fits : value + scale * b < 2 ^ 64 = elim place [
      | inl at ↦ fits_at_tenth value scale b on.below (scale_at_nine index scale at.0 on.scale_is) at.1
      | inr before ↦
          let early : index < 9 = omega (arith, on.within, before) in
          fits_before value scale b on.below (scale_fits_before index scale early on.scale_is) small
    ] in
    rw (turned, whole) (sym (found bytes _ _ (last bytes index value scale b on lt is small) fits))

-- a byte from 128 on is not the tenth
pub not_tenth : (index b : ℕ) → 128 ≤ b → ((index ≡ 9) × (b ≤ 1)) ⊎ (index ≡ 9 → ⊥) → index ≡ 9 → ⊥
not_tenth index b large (inl at) nine = omega (arith, at)
not_tenth index b large (inr before) nine = before nine

pub scale_grows : (index scale : ℕ) → index ≤ 9 → (index ≡ 9 → ⊥) → scale ≡ 128 ^ index → scale * 128 < 2 ^ 64
scale_grows index scale h ne e = omega (arith, scale_fits_before index scale (omega arith) e)

-- a byte from 128 on brings the next group
pub goes_on : (bytes : List ℕ) (index value scale b : ℕ) → ReadsOn bytes index value scale → index < length bytes → b ≡ get_or bytes index 0 → b < 256 → 128 ≤ b → (index ≡ 9 → ⊥)
    → ReadsOn bytes (index + 1) (value + (b - 128) * scale) (scale * 128)
goes_on bytes index value scale b on lt is byte large ne = record {
  within = omega (arith, on.within);
  scale_is = rw (add-one, pow-suc) (ap (λ (s : ℕ). s * 128) on.scale_is);
  below = grows value scale b on.below byte;
  so_far = more bytes index value scale b on lt is large;
}

-- the bytes end within the number
pub cut : (bytes : List ℕ) (index value scale : ℕ) → ReadsOn bytes index value scale → length bytes ≤ index → None ≡ varint_at bytes
unfolding groups_at
cut bytes index value scale on past =
    let k : 10 - index ≡ suc (9 - index) = omega (arith, on.within) in
    let nothing : drop index bytes ≡ [] = drop_past bytes index past in
    let none : groups_at (10 - index) (drop index bytes) ≡ None = rw (k, nothing) refl in
    sym (no_groups bytes (sym on.so_far ∙ ap (scaled value scale) none))
