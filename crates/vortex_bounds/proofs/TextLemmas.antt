-- Texts that are cut and raised.
use Rattle.std.proofs.Common.{◌≡◌, ℕ, suc, ◌+◌, ◌-◌, ◌<◌, ◌≤◌, ◌⊎◌, inl, inr, cond, Bool, ◌&&◌, true, false, List, [], ◌∷◌, ◌++◌, length, take, drop, Option, Some, None, refl, ap, sym, subst, ◌∙◌, arith, length-append, take-append-drop, append_assoc}
use Rattle.std.specs.Prelude.{nat_le}
use Rattle.std.specs.Option.{option_map, option_or}
use Rattle.std.specs.List.{slice_range}
use Rattle.std.specs.Char.{IsScalar, len_utf8, encode_utf8}
use Rattle.std.specs.Str.{chars, encode_utf8_all, IsUtf8, IsCharBoundary, all_scalars}
use Rattle.std.proofs.lemmas.Bool.{and_parts, cases_lt, cond-true, cond-false, le-leb, lt-leb}
use Rattle.std.proofs.lemmas.List.{append-nil, length-take-le}
use Rattle.std.proofs.lemmas.Str.{scalars-chars, encodes-append, IsUtf8-take, IsUtf8-drop, chars-append, encodes-chars, length-encode, len_utf8_bounds, chars-encodes, IsCharBoundary-at_seam, IsCharBoundary-past_char}
use Rattle.std.proofs.lemmas.Option.{none-some, same_Some}
use Rattle.std.proofs.Math.Seq.{take-append_seam}
use Rattle.vortex_bounds.specs.Texts.{chars_within, text_lower_bound, text_upper_bound, can_be_raised, raised_chars}

-- characters that fit are taken, and leave the room that is left to what follows
within_front : (cs ds : List ℕ) (n m : ℕ) → length (encode_utf8_all cs) + m ≡ n → chars_within n (cs ++ ds) ≡ cs ++ chars_within m ds
within_front [] ds n m e = let same : n ≡ m = omega (arith, e) in ap (λ k. chars_within k ds) same
within_front (c ∷ cs) ds n m e =
    let long = length-append (encode_utf8 c) (encode_utf8_all cs) in
    let fits : len_utf8 c ≤ n = omega (arith, e, long, length-encode c) in
    let rest : length (encode_utf8_all cs) + m ≡ n - len_utf8 c = omega (arith, e, long, length-encode c) in
    cond-true (nat_le (len_utf8 c) n) _ _ (le-leb (len_utf8 c) n fits) ∙ ap (λ l. c ∷ l) (within_front cs ds (n - len_utf8 c) m rest)

-- nothing is taken where the first does not fit
none_within : (ds : List ℕ) (m : ℕ) → ((c : ℕ) (es : List ℕ) → ds ≡ c ∷ es → m < len_utf8 c) → chars_within m ds ≡ []
none_within [] m h = refl
none_within (c ∷ cs) m h = cond-false (nat_le (len_utf8 c) m) _ _ (lt-leb (len_utf8 c) m (h c cs refl))

-- the cut at the last place up to n where the text may be cut
pub cut_is : (text : List ℕ) (n r : ℕ) → IsUtf8 text → r ≤ n → IsCharBoundary text r → ((i : ℕ) → r < i → i ≤ n → IsCharBoundary text i → ⊥) → take r text ≡ text_lower_bound n text
cut_is text n r u low at nearest =
    let front = IsUtf8-take text r u at in
    let back = IsUtf8-drop text r u at in
    let parts : chars text ≡ chars (take r text) ++ chars (drop r text) = ap chars (sym (take-append-drop r text)) ∙ chars-append (take r text) (drop r text) front in
    let long : length (encode_utf8_all (chars (take r text))) ≡ r = ap length (encodes-chars (take r text) front) ∙ length-take-le r text at.0 in
    let head : (c : ℕ) (es : List ℕ) → chars (drop r text) ≡ c ∷ es → n - r < len_utf8 c =
    λ c es e. first c es e back (cases_lt (n - r) (len_utf8 c)) in
    sym (ap encode_utf8_all (ap (chars_within n) parts ∙ within_front (chars (take r text)) (chars (drop r text)) n (n - r) (omega (arith, long, low)) ∙ ap (λ l. chars (take r text) ++ l) (none_within (chars (drop r text)) (n - r) head) ∙ append-nil (chars (take r text))) ∙ encodes-chars (take r text) front)
  where
    first : (c : ℕ) (es : List ℕ) → chars (drop r text) ≡ c ∷ es → IsUtf8 (drop r text) → (n - r < len_utf8 c) ⊎ (len_utf8 c ≤ n - r) → n - r < len_utf8 c
    first c es e back (inl h) = h
    first c es e back (inr h) =
        let opens : drop r text ≡ encode_utf8 c ++ encode_utf8_all es = sym (encodes-chars (drop r text) back) ∙ ap encode_utf8_all e in
        absurd (nearest (r + len_utf8 c) (omega (arith, (len_utf8_bounds c).0)) (omega (arith, h, low)) (IsCharBoundary-past_char text (encode_utf8_all es) r c at.0 back opens))

pub range_is : (text : List ℕ) (r : ℕ) → slice_range text 0 r ≡ take r text
range_is text r = let same : r - 0 ≡ r = omega arith in ap (λ k. take k text) same

-- ---- raised characters

abbrev step : ℕ → List ℕ → Option (List ℕ) → Option (List ℕ)
step c cs o = option_or (option_map (λ raised. c ∷ raised) o) (cond (can_be_raised c) (Some (suc c ∷ [])) None)

raised_front : (xs ys zs : List ℕ) → raised_chars ys ≡ Some zs → raised_chars (xs ++ ys) ≡ Some (xs ++ zs)
unfolding raised_chars
raised_front [] ys zs e = e
raised_front (x ∷ xs) ys zs e = ap (step x (xs ++ ys)) (raised_front xs ys zs e)

raised_head : (c : ℕ) (cs : List ℕ) → raised_chars cs ≡ None → can_be_raised c ≡ true → raised_chars (c ∷ cs) ≡ Some (suc c ∷ [])
unfolding raised_chars
raised_head c cs none can = ap (step c cs) none ∙ cond-true (can_be_raised c) _ _ can

raised_more : (c : ℕ) (cs : List ℕ) → raised_chars cs ≡ None → can_be_raised c ≡ false → raised_chars (c ∷ cs) ≡ None
unfolding raised_chars
raised_more c cs none cannot = ap (step c cs) none ∙ cond-false (can_be_raised c) _ _ cannot

raised_empty : raised_chars [] ≡ None
unfolding raised_chars
raised_empty = refl

-- the text is rest, and behind it characters of which none can be raised
pub record NoneBehind (text rest : List ℕ) : Type 0 where
  pub behind : List ℕ
  pub scalars : all_scalars behind ≡ true
  pub parts : text ≡ rest ++ encode_utf8_all behind
  pub none : raised_chars behind ≡ None

pub none_behind_start : (text rest : List ℕ) → rest ≡ text → NoneBehind text rest
none_behind_start text rest e = record { behind = []; scalars = refl; parts = sym (append-nil rest ∙ e); none = raised_empty }

pub none_behind_more : (text rest before : List ℕ) (c : ℕ) → IsScalar c → rest ≡ before ++ encode_utf8 c → can_be_raised c ≡ false → NoneBehind text rest → NoneBehind text before
none_behind_more text rest before c s e cannot h = record {
  behind = c ∷ h.behind;
  scalars = ap (λ b. b && all_scalars h.behind) s ∙ h.scalars;
  parts = h.parts ∙ ap (λ l. l ++ encode_utf8_all h.behind) e ∙ append_assoc before (encode_utf8 c) (encode_utf8_all h.behind);
  none = raised_more c h.behind h.none cannot;
}

pub none_raised : (text rest : List ℕ) → length rest ≡ 0 → NoneBehind text rest → raised_chars (chars text) ≡ None
none_raised text [] e h = ap (λ l. raised_chars (chars l)) h.parts ∙ ap raised_chars (chars-encodes h.behind h.scalars) ∙ h.none
none_raised text (b ∷ rest) e h = absurd (omega (arith, e))

last_raised : (text rest before : List ℕ) (c : ℕ) → IsUtf8 text → IsScalar c → rest ≡ before ++ encode_utf8 c → can_be_raised c ≡ true → NoneBehind text rest → option_map encode_utf8_all (raised_chars (chars text)) ≡ Some (take (length before) text ++ encode_utf8 (suc c))
last_raised text rest before c u s e can h =
    let tail : List ℕ = c ∷ h.behind in
    let scalars : all_scalars tail ≡ true = ap (λ b. b && all_scalars h.behind) s ∙ h.scalars in
    let parts : text ≡ before ++ encode_utf8_all tail = h.parts ∙ ap (λ l. l ++ encode_utf8_all h.behind) e ∙ append_assoc before (encode_utf8 c) (encode_utf8_all h.behind) in
    let front : take (length before) text ≡ before = ap (take (length before)) parts ∙ take-append_seam before (encode_utf8_all tail) in
    let utf8 : IsUtf8 before = subst IsUtf8 front (IsUtf8-take text (length before) u (IsCharBoundary-at_seam text before (encode_utf8_all tail) parts (tail, (scalars, refl)))) in
    let read : chars text ≡ chars before ++ tail = ap chars parts ∙ chars-append before (encode_utf8_all tail) utf8 ∙ ap (λ l. chars before ++ l) (chars-encodes tail scalars) in
    let spelt : encode_utf8_all (chars before ++ suc c ∷ []) ≡ before ++ encode_utf8 (suc c) = encodes-append (chars before) (suc c ∷ []) ∙ ap (λ l. l ++ encode_utf8_all (suc c ∷ [])) (encodes-chars before utf8) ∙ ap (λ l. before ++ l) (append-nil (encode_utf8 (suc c))) in
    ap (λ l. option_map encode_utf8_all (raised_chars l)) read
    ∙ ap (option_map encode_utf8_all) (raised_front (chars before) tail (suc c ∷ []) (raised_head c h.behind h.none can))
    ∙ ap Some (spelt ∙ ap (λ l. l ++ encode_utf8 (suc c)) (sym front))

-- what the next character says
next_some : (b : Bool) (next raised : ℕ) → Some next ≡ cond b (Some raised) None → (b ≡ true) × (next ≡ raised)
next_some true next raised e = (refl, same_Some next raised e)
next_some false next raised e = absurd (none-some next (sym e))

pub next_none : (b : Bool) (raised : ℕ) → None ≡ cond b (Some raised) None → b ≡ false
next_none true raised e = absurd (none-some raised e)
next_none false raised e = refl

pub found : (text rest before : List ℕ) (place c next : ℕ) → IsUtf8 text → IsScalar c → rest ≡ before ++ encode_utf8 c → place ≡ length before → Some next ≡ cond (can_be_raised c) (Some (suc c)) None → NoneBehind text rest → option_map encode_utf8_all (raised_chars (chars text)) ≡ Some (slice_range text 0 place ++ encode_utf8 next)
found text rest before place c next u s e at n h =
    let test = next_some (can_be_raised c) next (suc c) n in
    last_raised text rest before c u s e test.0 h
    ∙ ap (λ k. Some (take k text ++ encode_utf8 (suc c))) (sym at)
    ∙ ap (λ k. Some (take place text ++ encode_utf8 k)) (sym test.1)
    ∙ ap (λ l. Some (l ++ encode_utf8 next)) (sym (range_is text place))

pub scalars_within : (n : ℕ) (cs : List ℕ) → all_scalars cs ≡ true → all_scalars (chars_within n cs) ≡ true
scalars_within n [] s = refl
scalars_within n (c ∷ cs) s = by (nat_le (len_utf8 c) n) (scalars_within (n - len_utf8 c) cs ((and_parts _ _ s).1))
  where
    by : (b : Bool) → all_scalars (chars_within (n - len_utf8 c) cs) ≡ true → all_scalars (cond b (c ∷ chars_within (n - len_utf8 c) cs) []) ≡ true
    by true h = ap (λ t. t && all_scalars (chars_within (n - len_utf8 c) cs)) ((and_parts _ _ s).0) ∙ h
    by false h = refl

-- the upper bound of a long text is what its lower bound is raised to
pub upper_raised : (text lower : List ℕ) (n : ℕ) → IsUtf8 text → n < length text → lower ≡ text_lower_bound n text → option_map encode_utf8_all (raised_chars (chars lower)) ≡ text_upper_bound n text
upper_raised text lower n u long e =
    ap (λ l. option_map encode_utf8_all (raised_chars l)) (ap chars e ∙ chars-encodes _ (scalars_within n (chars text) (scalars-chars text u)))
    ∙ sym (cond-false (nat_le (length text) n) _ _ (lt-leb (length text) n long))

-- a text that is short enough is its own lower bound
pub all_within : (n : ℕ) (text : List ℕ) → IsUtf8 text → length text ≤ n → text_lower_bound n text ≡ text
all_within n text u h =
    let cs = chars text in
    let long : length (encode_utf8_all cs) + (n - length text) ≡ n = omega (arith, h, ap length (encodes-chars text u)) in
    ap encode_utf8_all (ap (chars_within n) (sym (append-nil cs)) ∙ within_front cs [] n (n - length text) long ∙ append-nil cs) ∙ encodes-chars text u
