-- How the bytes of characters compare.
use Rattle.std.proofs.Common.{◌≡◌, ℕ, suc, ◌+◌, ◌/◌, ◌%◌, ◌<◌, ◌≤◌, ◌⊎◌, inl, inr, cond, List, [], ◌∷◌, ◌++◌, ap, sym, ◌∙◌, arith}
use Rattle.std.specs.Prelude.{nat_lt}
use Rattle.std.specs.Char.{len_utf8, encode_utf8}
use Rattle.std.specs.declared.cmp.Ordering.TheVariants.{Less}
use Rattle.std.proofs.lemmas.Bool.{cases_lt, cond-true, cond-false, lt-ltb, le-ltb}
use Rattle.vortex_bounds.proofs.BoundLemmas.{byte_cmp, first_less, front_cmp}

below : (c n : ℕ) (A : Type 0) (x y : A) → c < n → cond (nat_lt c n) x y ≡ x
below c n A x y h = cond-true (nat_lt c n) x y (lt-ltb c n h)

above : (c n : ℕ) (A : Type 0) (x y : A) → n ≤ c → cond (nat_lt c n) x y ≡ y
above c n A x y h = cond-false (nat_lt c n) x y (le-ltb c n h)

abbrev follow : ℕ → ℕ
follow bits = 128 + bits % 64

one : (c : ℕ) → c < 128 → encode_utf8 c ≡ c ∷ []
unfolding encode_utf8
one c h = below c 128 (List ℕ) _ _ h

two : (c : ℕ) → 128 ≤ c → c < 2048 → encode_utf8 c ≡ (192 + c / 64) ∷ follow c ∷ []
unfolding encode_utf8
two c l h = above c 128 (List ℕ) _ _ l ∙ below c 2048 (List ℕ) _ _ h

three : (c : ℕ) → 2048 ≤ c → c < 65536 → encode_utf8 c ≡ (224 + c / 4096) ∷ follow (c / 64) ∷ follow c ∷ []
unfolding encode_utf8
three c l h = above c 128 (List ℕ) _ _ (omega arith) ∙ above c 2048 (List ℕ) _ _ l ∙ below c 65536 (List ℕ) _ _ h

four : (c : ℕ) → 65536 ≤ c → encode_utf8 c ≡ (240 + c / 262144) ∷ follow (c / 4096) ∷ follow (c / 64) ∷ follow c ∷ []
unfolding encode_utf8
four c l = above c 128 (List ℕ) _ _ (omega arith) ∙ above c 2048 (List ℕ) _ _ (omega arith) ∙ above c 65536 (List ℕ) _ _ l

-- a character's range, and how many bytes that is
data Range (c : ℕ) : Type 0 where
  in1 : c < 128 → len_utf8 c ≡ 1 → Range c
  in2 : 128 ≤ c → c < 2048 → len_utf8 c ≡ 2 → Range c
  in3 : 2048 ≤ c → c < 65536 → len_utf8 c ≡ 3 → Range c
  in4 : 65536 ≤ c → len_utf8 c ≡ 4 → Range c

range : (c : ℕ) → Range c
range c = by (cases_lt c 128) (cases_lt c 2048) (cases_lt c 65536)
  where
    by : (c < 128) ⊎ (128 ≤ c) → (c < 2048) ⊎ (2048 ≤ c) → (c < 65536) ⊎ (65536 ≤ c) → Range c
    by (inl h) _ _ = in1 h (below c 128 ℕ _ _ h)
    by (inr l) (inl h) _ = in2 l h (above c 128 ℕ _ _ l ∙ below c 2048 ℕ _ _ h)
    by (inr k) (inr l) (inl h) = in3 l h (above c 128 ℕ _ _ k ∙ above c 2048 ℕ _ _ l ∙ below c 65536 ℕ _ _ h)
    by (inr j) (inr k) (inr l) = in4 l (above c 128 ℕ _ _ j ∙ above c 2048 ℕ _ _ k ∙ above c 65536 ℕ _ _ l)

-- a byte is less, or it is the same and what follows is less
next_byte : (x y : ℕ) (xs ys : List ℕ) → x ≤ y → (x ≡ y → byte_cmp xs ys ≡ Less) → byte_cmp (x ∷ xs) (y ∷ ys) ≡ Less
next_byte x y xs ys le more = by (cases_lt x y)
  where
    by : (x < y) ⊎ (y ≤ x) → byte_cmp (x ∷ xs) (y ∷ ys) ≡ Less
    by (inl h) = first_less x y xs ys h
    by (inr h) =
        let same : x ≡ y = omega (arith, h, le) in
        ap (λ z. byte_cmp (x ∷ xs) (z ∷ ys)) (sym same) ∙ front_cmp (x ∷ []) xs ys ∙ more same

by_bytes : (c : ℕ) (bs ds xs ys : List ℕ) → encode_utf8 c ≡ bs → encode_utf8 (suc c) ≡ ds → byte_cmp (bs ++ xs) (ds ++ ys) ≡ Less → byte_cmp (encode_utf8 c ++ xs) (encode_utf8 (suc c) ++ ys) ≡ Less
by_bytes c bs ds xs ys e f h = ap (λ l. byte_cmp (l ++ xs) (encode_utf8 (suc c) ++ ys)) e ∙ ap (λ l. byte_cmp (bs ++ xs) (l ++ ys)) f ∙ h

-- the next character's bytes are greater, if they are as many
pub next_greater : (c : ℕ) (xs ys : List ℕ) → len_utf8 (suc c) ≡ len_utf8 c → byte_cmp (encode_utf8 c ++ xs) (encode_utf8 (suc c) ++ ys) ≡ Less
next_greater c xs ys e = by (range c) (range (suc c))
  where
    by : Range c → Range (suc c) → byte_cmp (encode_utf8 c ++ xs) (encode_utf8 (suc c) ++ ys) ≡ Less
    by (in1 h w) (in1 k v) = by_bytes c _ _ xs ys (one c h) (one (suc c) k) (first_less c (suc c) xs ys (omega arith))
    by (in2 l h w) (in2 m k v) =
        let d : ℕ = suc c in
        by_bytes c _ _ xs ys (two c l h) (two d m k)
        (next_byte (192 + c / 64) (192 + d / 64) (follow c ∷ xs) (follow d ∷ ys) (omega arith)
        (λ a. first_less (follow c) (follow d) xs ys (omega (arith, a))))
    by (in3 l h w) (in3 m k v) =
        let d : ℕ = suc c in
        by_bytes c _ _ xs ys (three c l h) (three d m k)
        (next_byte (224 + c / 4096) (224 + d / 4096) (follow (c / 64) ∷ follow c ∷ xs) (follow (d / 64) ∷ follow d ∷ ys) (omega arith)
        (λ a. next_byte (follow (c / 64)) (follow (d / 64)) (follow c ∷ xs) (follow d ∷ ys) (omega (arith, a))
        (λ b. first_less (follow c) (follow d) xs ys (omega (arith, a, b)))))
    by (in4 l w) (in4 m v) =
        let d : ℕ = suc c in
        by_bytes c _ _ xs ys (four c l) (four d m)
        (next_byte (240 + c / 262144) (240 + d / 262144) (follow (c / 4096) ∷ follow (c / 64) ∷ follow c ∷ xs) (follow (d / 4096) ∷ follow (d / 64) ∷ follow d ∷ ys) (omega arith)
        (λ a. next_byte (follow (c / 4096)) (follow (d / 4096)) (follow (c / 64) ∷ follow c ∷ xs) (follow (d / 64) ∷ follow d ∷ ys) (omega (arith, a))
        (λ b. next_byte (follow (c / 64)) (follow (d / 64)) (follow c ∷ xs) (follow d ∷ ys) (omega (arith, a, b))
        (λ e. first_less (follow c) (follow d) xs ys (omega (arith, a, b, e))))))
    by (in1 h w) (in2 m k v) = absurd (omega (arith, e, w, v))
    by (in1 h w) (in3 m k v) = absurd (omega (arith, e, w, v))
    by (in1 h w) (in4 m v) = absurd (omega (arith, e, w, v))
    by (in2 l h w) (in1 k v) = absurd (omega (arith, e, w, v))
    by (in2 l h w) (in3 m k v) = absurd (omega (arith, e, w, v))
    by (in2 l h w) (in4 m v) = absurd (omega (arith, e, w, v))
    by (in3 l h w) (in1 k v) = absurd (omega (arith, e, w, v))
    by (in3 l h w) (in2 m k v) = absurd (omega (arith, e, w, v))
    by (in3 l h w) (in4 m v) = absurd (omega (arith, e, w, v))
    by (in4 l w) (in1 k v) = absurd (omega (arith, e, w, v))
    by (in4 l w) (in2 m k v) = absurd (omega (arith, e, w, v))
    by (in4 l w) (in3 m k v) = absurd (omega (arith, e, w, v))
