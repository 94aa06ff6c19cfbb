-- How bounds of texts compare with the texts.
use Rattle.std.proofs.Common.{◌≡◌, ℕ, suc, ◌-◌, ◌≤◌, cond, Bool, ◌&&◌, true, false, List, [], ◌∷◌, ◌++◌, length, Option, Some, None, refl, ap, sym, subst, ◌∙◌, arith, length-append, append_assoc}
use Rattle.std.specs.Prelude.{nat_le, IsTrue}
use Rattle.std.specs.Option.{option_map, option_or}
use Rattle.std.specs.Char.{len_utf8, encode_utf8, IsScalar}
use Rattle.std.specs.Str.{chars, encode_utf8_all, IsUtf8, all_scalars}
use Rattle.std.specs.Ordering.{is_le}
use Rattle.std.specs.declared.cmp.Ordering.TheVariants.{Less}
use Rattle.std.proofs.lemmas.Bool.{and_parts, eqb-true, leb-true}
use Rattle.std.proofs.lemmas.List.{append-nil}
use Rattle.std.proofs.lemmas.Option.{none-some, same_Some}
use Rattle.std.proofs.lemmas.Str.{scalars-chars, encodes-chars, length-encode, encodes-append}
use Rattle.vortex_bounds.specs.Texts.{chars_within, text_lower_bound, text_upper_bound, can_be_raised, raised_chars}
use Rattle.vortex_bounds.proofs.BoundLemmas.{byte_cmp, front_cmp, same_list, le_from_less, le_from_equal}
use Rattle.vortex_bounds.proofs.CharLemmas.{next_greater}
use Rattle.vortex_bounds.proofs.TextLemmas.{scalars_within}

-- ---- lower bounds

-- what is left after the characters that fit
abbrev left : ℕ → List ℕ → List ℕ
left n [] = []
left n (c ∷ cs) = cond (nat_le (len_utf8 c) n) (left (n - len_utf8 c) cs) (c ∷ cs)

parted : (n : ℕ) (cs : List ℕ) → cs ≡ chars_within n cs ++ left n cs
parted n [] = refl
parted n (c ∷ cs) = by (nat_le (len_utf8 c) n) (parted (n - len_utf8 c) cs)
  where
    by : (b : Bool) → cs ≡ chars_within (n - len_utf8 c) cs ++ left (n - len_utf8 c) cs → c ∷ cs ≡ cond b (c ∷ chars_within (n - len_utf8 c) cs) [] ++ cond b (left (n - len_utf8 c) cs) (c ∷ cs)
    by true e = ap (λ l. c ∷ l) e
    by false e = refl

short : (n : ℕ) (cs : List ℕ) → length (encode_utf8_all (chars_within n cs)) ≤ n
short n [] = omega arith
short n (c ∷ cs) = by (nat_le (len_utf8 c) n) refl (short (n - len_utf8 c) cs)
  where
    by : (b : Bool) → nat_le (len_utf8 c) n ≡ b → length (encode_utf8_all (chars_within (n - len_utf8 c) cs)) ≤ n - len_utf8 c → length (encode_utf8_all (cond b (c ∷ chars_within (n - len_utf8 c) cs) [])) ≤ n
    by true e h = omega (arith, h, leb-true (len_utf8 c) n e, length-encode c, length-append (encode_utf8 c) (encode_utf8_all (chars_within (n - len_utf8 c) cs)))
    by false e h = omega arith

pub text_lower_short : (n : ℕ) (text : List ℕ) → length (text_lower_bound n text) ≤ n
text_lower_short n text = short n (chars text)

pub text_lower_utf8 : (n : ℕ) (text : List ℕ) → IsUtf8 text → IsUtf8 (text_lower_bound n text)
text_lower_utf8 n text u = (chars_within n (chars text), (scalars_within n (chars text) (scalars-chars text u), refl))

front_le : (xs ys : List ℕ) → IsTrue (is_le (byte_cmp xs (xs ++ ys)))
front_le [] [] = refl
front_le [] (y ∷ ys) = refl
front_le (x ∷ xs) ys = subst (λ o. IsTrue (is_le o)) (sym (front_cmp (x ∷ []) xs (xs ++ ys))) (front_le xs ys)

-- the text is its lower bound and something behind it
whole : (n : ℕ) (text : List ℕ) → IsUtf8 text → text ≡ text_lower_bound n text ++ encode_utf8_all (left n (chars text))
whole n text u = sym (encodes-chars text u) ∙ ap encode_utf8_all (parted n (chars text)) ∙ encodes-append (chars_within n (chars text)) (left n (chars text))

pub text_lower_le : (n : ℕ) (text : List ℕ) → IsUtf8 text → IsTrue (is_le (byte_cmp (text_lower_bound n text) text))
text_lower_le n text u =
    subst (λ l. IsTrue (is_le (byte_cmp (text_lower_bound n text) l))) (sym (whole n text u)) (front_le (text_lower_bound n text) (encode_utf8_all (left n (chars text))))

-- ---- upper bounds

-- what is found in a list, from what is found in its tail
module _ (c : ℕ) (cs raised : List ℕ) (P : List ℕ → Type 0) where
  last : (b : Bool) → can_be_raised c ≡ b → (can_be_raised c ≡ true → P (suc c ∷ [])) → cond b (Some (suc c ∷ [])) None ≡ Some raised → P raised
  last true t p e = subst P (same_Some _ _ e) (p t)
  last false t p e = absurd (none-some raised e)

  by_tail : (o : Option (List ℕ)) → ((tail : List ℕ) → o ≡ Some tail → P (c ∷ tail)) → (can_be_raised c ≡ true → P (suc c ∷ [])) → option_or (option_map (λ tail. c ∷ tail) o) (cond (can_be_raised c) (Some (suc c ∷ [])) None) ≡ Some raised → P raised
  by_tail (Some tail) f p e = subst P (same_Some _ _ e) (f tail refl)
  by_tail None f p e = last (can_be_raised c) refl p e

-- what a character that can be raised tells
raised_scalar : (c : ℕ) → can_be_raised c ≡ true → IsScalar (suc c)
raised_scalar c t = (and_parts _ _ (and_parts _ _ t).0).0

raised_width : (c : ℕ) → can_be_raised c ≡ true → len_utf8 (suc c) ≡ len_utf8 c
raised_width c t = eqb-true (len_utf8 (suc c)) (len_utf8 c) (and_parts _ _ t).1

greater : (cs rest raised : List ℕ) → raised_chars cs ≡ Some raised → byte_cmp (encode_utf8_all cs ++ rest) (encode_utf8_all raised) ≡ Less
unfolding raised_chars
greater [] rest raised e = absurd (none-some raised e)
greater (c ∷ cs) rest raised e =
    let joined = append_assoc (encode_utf8 c) (encode_utf8_all cs) rest in
    by_tail c cs raised (λ l. byte_cmp (encode_utf8_all (c ∷ cs) ++ rest) (encode_utf8_all l) ≡ Less) (raised_chars cs)
    (λ tail h. ap (λ l. byte_cmp l (encode_utf8_all (c ∷ tail))) joined ∙ front_cmp (encode_utf8 c) (encode_utf8_all cs ++ rest) (encode_utf8_all tail) ∙ greater cs rest tail h)
    (λ t. ap (λ l. byte_cmp l (encode_utf8_all (suc c ∷ []))) joined ∙ next_greater c (encode_utf8_all cs ++ rest) [] (raised_width c t)) e

no_longer : (cs raised : List ℕ) → raised_chars cs ≡ Some raised → length (encode_utf8_all raised) ≤ length (encode_utf8_all cs)
unfolding raised_chars
no_longer [] raised e = absurd (none-some raised e)
no_longer (c ∷ cs) raised e =
    let long = length-append (encode_utf8 c) (encode_utf8_all cs) in
    by_tail c cs raised (λ l. length (encode_utf8_all l) ≤ length (encode_utf8_all (c ∷ cs))) (raised_chars cs)
    (λ tail h. omega (arith, no_longer cs tail h, long, length-append (encode_utf8 c) (encode_utf8_all tail)))
    (λ t. omega (arith, raised_width c t, long, length-encode c, length-encode (suc c), ap length (append-nil (encode_utf8 (suc c))))) e

raised_scalars : (cs raised : List ℕ) → all_scalars cs ≡ true → raised_chars cs ≡ Some raised → all_scalars raised ≡ true
unfolding raised_chars
raised_scalars [] raised s e = absurd (none-some raised e)
raised_scalars (c ∷ cs) raised s e =
    let parts = and_parts _ _ s in
    by_tail c cs raised (λ l. all_scalars l ≡ true) (raised_chars cs)
    (λ tail h. ap (λ b. b && all_scalars tail) parts.0 ∙ raised_scalars cs tail parts.1 h)
    (λ t. (and_parts _ _ t).0) e

-- a bound by its two cases
module _ (n : ℕ) (text bound : List ℕ) (P : List ℕ → Type 0) where
  by_raised : (o : Option (List ℕ)) → ((raised : List ℕ) → o ≡ Some raised → P (encode_utf8_all raised)) → option_map encode_utf8_all o ≡ Some bound → P bound
  by_raised (Some raised) q e = subst P (same_Some _ _ e) (q raised refl)
  by_raised None q e = absurd (none-some bound e)

  by_length : (b : Bool) → nat_le (length text) n ≡ b → (nat_le (length text) n ≡ true → P text) → ((raised : List ℕ) → raised_chars (chars_within n (chars text)) ≡ Some raised → P (encode_utf8_all raised)) → cond b (Some text) (option_map encode_utf8_all (raised_chars (chars_within n (chars text)))) ≡ Some bound → P bound
  by_length true t p q e = subst P (same_Some _ _ e) (p t)
  by_length false t p q e = by_raised (raised_chars (chars_within n (chars text))) q e

pub text_upper_ge : (n : ℕ) (text bound : List ℕ) → IsUtf8 text → text_upper_bound n text ≡ Some bound → IsTrue (is_le (byte_cmp text bound))
text_upper_ge n text bound u e =
    by_length n text bound (λ l. IsTrue (is_le (byte_cmp text l))) (nat_le (length text) n) refl
    (λ t. le_from_equal (byte_cmp text text) (same_list text))
    (λ raised h. le_from_less (byte_cmp text (encode_utf8_all raised))
    (ap (λ l. byte_cmp l (encode_utf8_all raised)) (whole n text u) ∙ greater (chars_within n (chars text)) (encode_utf8_all (left n (chars text))) raised h)) e

pub text_upper_short : (n : ℕ) (text bound : List ℕ) → text_upper_bound n text ≡ Some bound → length bound ≤ n
text_upper_short n text bound e =
    by_length n text bound (λ l. length l ≤ n) (nat_le (length text) n) refl
    (λ t. leb-true (length text) n t)
    (λ raised h. omega (arith, no_longer (chars_within n (chars text)) raised h, short n (chars text))) e

pub text_upper_utf8 : (n : ℕ) (text bound : List ℕ) → IsUtf8 text → text_upper_bound n text ≡ Some bound → IsUtf8 bound
text_upper_utf8 n text bound u e =
    by_length n text bound IsUtf8 (nat_le (length text) n) refl
    (λ t. u)
    (λ raised h. (raised, (raised_scalars (chars_within n (chars text)) raised (scalars_within n (chars text) (scalars-chars text u)) h, refl))) e
