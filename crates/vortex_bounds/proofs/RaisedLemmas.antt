-- Bytes that are raised, by the place.
use Rattle.std.proofs.Common.{◌≡◌, ℕ, zero, suc, ◌+◌, ◌-◌, ◌<◌, ◌≤◌, cond, List, [], ◌∷◌, ◌++◌, map, length, get_or, take, replicate, Option, Some, None, refl, ap, ◌∙◌, arith, length-append}
use Rattle.std.specs.Prelude.{nat_lt}
use Rattle.std.specs.Option.{option_map, option_or}
use Rattle.std.proofs.lemmas.Bool.{cond-true, cond-false, lt-ltb, le-ltb}
use Rattle.std.proofs.lemmas.List.{append_assoc, length-take-le, take_all}
use Rattle.vortex_bounds.specs.Bytes.{raised_bytes}

abbrev zeros : List ℕ → List ℕ
zeros bytes = map (λ _. 0) bytes

zeros-replicate : (bytes : List ℕ) → zeros bytes ≡ replicate (length bytes) 0
zeros-replicate [] = refl
zeros-replicate (byte ∷ bytes) = ap (λ l. 0 ∷ l) (zeros-replicate bytes)

-- what is found in a list from what is found in its tail
abbrev step : ℕ → List ℕ → Option (List ℕ) → Option (List ℕ)
step byte bytes o = option_or (option_map (λ raised. byte ∷ raised) o) (cond (nat_lt byte 255) (Some (suc byte ∷ zeros bytes)) None)

full_none : (byte : ℕ) (o : Option (List ℕ)) → 255 ≤ byte → cond (nat_lt byte 255) o None ≡ None
full_none byte o h = cond-false (nat_lt byte 255) o None (le-ltb byte 255 h)

below_some : (byte : ℕ) (o : Option (List ℕ)) → byte < 255 → cond (nat_lt byte 255) o None ≡ o
below_some byte o h = cond-true (nat_lt byte 255) o None (lt-ltb byte 255 h)

pub raised_none : (bytes : List ℕ) → ((k : ℕ) → k < length bytes → 255 ≤ get_or bytes k 0) → raised_bytes bytes ≡ None
unfolding raised_bytes
raised_none [] full = refl
raised_none (byte ∷ bytes) full =
    ap (step byte bytes) (raised_none bytes (λ k h. full (suc k) (omega (arith, h))))
    ∙ full_none byte _ (full 0 (omega arith))

pub raised_at : (bytes : List ℕ) (i : ℕ) → i < length bytes → get_or bytes i 0 < 255 → ((k : ℕ) → i + 1 ≤ k → k < length bytes → 255 ≤ get_or bytes k 0) → raised_bytes bytes ≡ Some (take i bytes ++ (get_or bytes i 0 + 1) ∷ replicate (length bytes - (i + 1)) 0)
unfolding raised_bytes
raised_at [] i within below after = absurd (omega (arith, within))
raised_at (byte ∷ bytes) zero within below after =
    let none = raised_none bytes (λ k h. after (suc k) (omega arith) (omega (arith, h))) in
    let same : length bytes ≡ suc (length bytes) - 1 = omega arith in
    let one : suc byte ≡ byte + 1 = omega arith in
    ap (step byte bytes) none ∙ below_some byte _ below
    ∙ ap (λ l. Some (suc byte ∷ l)) (zeros-replicate bytes ∙ ap (λ n. replicate n 0) same)
    ∙ ap (λ n. Some (n ∷ replicate (suc (length bytes) - 1) 0)) one
raised_at (byte ∷ bytes) (suc i) within below after =
    let inner = raised_at bytes i (omega (arith, within)) below (λ k low high. after (suc k) (omega (arith, low)) (omega (arith, high))) in
    let same : length bytes - (i + 1) ≡ suc (length bytes) - (suc i + 1) = omega arith in
    ap (step byte bytes) inner
    ∙ ap (λ n. Some (byte ∷ (take i bytes ++ (get_or bytes i 0 + 1) ∷ replicate n 0))) same

-- the bytes as they are put together
pub put_together : (bytes first pushed made : List ℕ) (i n : ℕ) → i < length bytes → n ≡ length first + 1 → first ≡ take i bytes → pushed ≡ first ++ (get_or bytes i 0 + 1) ∷ [] → made ≡ take (length bytes) pushed ++ replicate (length bytes - n) 0 → made ≡ take i bytes ++ (get_or bytes i 0 + 1) ∷ replicate (length bytes - (i + 1)) 0
put_together bytes first pushed made i n within count e f g =
    let last : List ℕ = (get_or bytes i 0 + 1) ∷ [] in
    let whole : pushed ≡ take i bytes ++ last = f ∙ ap (λ l. l ++ last) e in
    let short : length first ≡ i = ap length e ∙ length-take-le i bytes (omega (arith, within)) in
    let long : length pushed ≡ i + 1 = omega (arith, ap length f, length-append first last, short) in
    let places : n ≡ i + 1 = omega (arith, count, short) in
    g ∙ ap (λ l. l ++ replicate (length bytes - n) 0) (take_all (length bytes) pushed (omega (arith, long)) ∙ whole)
    ∙ append_assoc (take i bytes) last (replicate (length bytes - n) 0)
    ∙ ap (λ m. take i bytes ++ (get_or bytes i 0 + 1) ∷ replicate (length bytes - m) 0) places
