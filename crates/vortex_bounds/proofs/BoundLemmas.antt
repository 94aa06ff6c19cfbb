-- How bounds compare with what they bound.
use Rattle.std.proofs.Common.{◌≡◌, ℕ, zero, suc, ◌<◌, ◌≤◌, Bool, true, false, cond, List, [], ◌∷◌, ◌++◌, map, length, take, drop, Option, Some, None, refl, ap, sym, ◌∙◌, arith, length-take, subst, take-append-drop}
use Rattle.std.specs.Prelude.{nat_lt, nat_le, IsTrue}
use Rattle.std.specs.Option.{option_map, option_or}
use Rattle.std.specs.Cmp.{nat_cmp_is}
use Rattle.std.specs.Cmp.Lexicographic.{slice_cmp}
use Rattle.std.specs.Ordering.{nat_cmp, ordering_then, is_le}
use Rattle.std.specs.declared.cmp.Ordering.{Ordering}
use Rattle.std.specs.declared.cmp.Ordering.TheVariants.{Less, Equal}
use Rattle.std.proofs.lemmas.Bool.{leb-true}
use Rattle.std.proofs.lemmas.Option.{none-some, same_Some}
use Rattle.vortex_bounds.specs.Bytes.{raised_bytes, byte_upper_bound}

abbrev pub byte_cmp : List ℕ → List ℕ → Ordering
byte_cmp xs ys = slice_cmp nat_cmp xs ys

same_byte : (x : ℕ) → nat_cmp x x ≡ Equal
same_byte x = sym (nat_cmp_is x x Equal refl)

less_byte : (x y : ℕ) → x < y → nat_cmp x y ≡ Less
less_byte x y h = sym (nat_cmp_is x y Less h)

-- a common front decides nothing
pub front_cmp : (zs xs ys : List ℕ) → byte_cmp (zs ++ xs) (zs ++ ys) ≡ byte_cmp xs ys
front_cmp [] xs ys = refl
front_cmp (z ∷ zs) xs ys = ap (λ o. ordering_then o (byte_cmp (zs ++ xs) (zs ++ ys))) (same_byte z) ∙ front_cmp zs xs ys

pub first_less : (x y : ℕ) (xs ys : List ℕ) → x < y → byte_cmp (x ∷ xs) (y ∷ ys) ≡ Less
first_less x y xs ys h = ap (λ o. ordering_then o (byte_cmp xs ys)) (less_byte x y h)

pub same_list : (xs : List ℕ) → byte_cmp xs xs ≡ Equal
same_list [] = refl
same_list (x ∷ xs) = ap (λ o. ordering_then o (byte_cmp xs xs)) (same_byte x) ∙ same_list xs

pub le_from_less : (o : Ordering) → o ≡ Less → IsTrue (is_le o)
le_from_less o h = subst (λ p. IsTrue (is_le p)) (sym h) refl

pub le_from_equal : (o : Ordering) → o ≡ Equal → IsTrue (is_le o)
le_from_equal o h = subst (λ p. IsTrue (is_le p)) (sym h) refl

-- what was cut is at most the whole
pub lower_le : (n : ℕ) (bytes : List ℕ) → IsTrue (is_le (byte_cmp (take n bytes) bytes))
lower_le zero [] = refl
lower_le zero (byte ∷ bytes) = refl
lower_le (suc n) [] = refl
lower_le (suc n) (byte ∷ bytes) = subst (λ o. IsTrue (is_le (ordering_then o (byte_cmp (take n bytes) bytes)))) (sym (same_byte byte)) (lower_le n bytes)

-- what is found in a list, from what is found in its tail
module _ (byte : ℕ) (bytes raised : List ℕ) (P : List ℕ → Type 0) where
  last : (b : Bool) → P (suc byte ∷ map (λ _. 0) bytes) → cond b (Some (suc byte ∷ map (λ _. 0) bytes)) None ≡ Some raised → P raised
  last true p e = subst P (same_Some _ _ e) p
  last false p e = absurd (none-some raised e)

  by_tail : (o : Option (List ℕ)) → ((tail : List ℕ) → o ≡ Some tail → P (byte ∷ tail)) → P (suc byte ∷ map (λ _. 0) bytes) → option_or (option_map (λ tail. byte ∷ tail) o) (cond (nat_lt byte 255) (Some (suc byte ∷ map (λ _. 0) bytes)) None) ≡ Some raised → P raised
  by_tail (Some tail) f p e = subst P (same_Some _ _ e) (f tail refl)
  by_tail None f p e = last (nat_lt byte 255) p e

-- raised bytes are greater than all that begins with what was raised
pub raised_greater : (bytes rest raised : List ℕ) → raised_bytes bytes ≡ Some raised → byte_cmp (bytes ++ rest) raised ≡ Less
unfolding raised_bytes
raised_greater [] rest raised e = absurd (none-some raised e)
raised_greater (byte ∷ bytes) rest raised e =
    by_tail byte bytes raised (λ l. byte_cmp (byte ∷ bytes ++ rest) l ≡ Less) (raised_bytes bytes)
    (λ tail h. ap (λ o. ordering_then o (byte_cmp (bytes ++ rest) tail)) (same_byte byte) ∙ raised_greater bytes rest tail h)
    (first_less byte (suc byte) (bytes ++ rest) (map (λ _. 0) bytes) (omega arith)) e

zeros_long : (bytes : List ℕ) → length {A = ℕ} (map (λ _. 0) bytes) ≡ length bytes
zeros_long [] = refl
zeros_long (byte ∷ bytes) = ap suc (zeros_long bytes)

pub raised_long : (bytes raised : List ℕ) → raised_bytes bytes ≡ Some raised → length raised ≡ length bytes
unfolding raised_bytes
raised_long [] raised e = absurd (none-some raised e)
raised_long (byte ∷ bytes) raised e =
    by_tail byte bytes raised (λ l. length l ≡ suc (length bytes)) (raised_bytes bytes)
    (λ tail h. ap suc (raised_long bytes tail h)) (ap suc (zeros_long bytes)) e

-- a bound by its two cases
module _ (n : ℕ) (bytes bound : List ℕ) (P : List ℕ → Type 0) where
  by_length : (b : Bool) → nat_le (length bytes) n ≡ b → (nat_le (length bytes) n ≡ true → P bytes) → ((raised : List ℕ) → raised_bytes (take n bytes) ≡ Some raised → P raised) → cond b (Some bytes) (raised_bytes (take n bytes)) ≡ Some bound → P bound
  by_length true t p q e = subst P (same_Some _ _ e) (p t)
  by_length false t p q e = q bound e

pub upper_ge : (n : ℕ) (bytes bound : List ℕ) → byte_upper_bound n bytes ≡ Some bound → IsTrue (is_le (byte_cmp bytes bound))
upper_ge n bytes bound e =
    by_length n bytes bound (λ l. IsTrue (is_le (byte_cmp bytes l))) (nat_le (length bytes) n) refl
    (λ t. le_from_equal (byte_cmp bytes bytes) (same_list bytes))
    (λ raised h. le_from_less (byte_cmp bytes raised)
    (ap (λ l. byte_cmp l raised) (sym (take-append-drop n bytes)) ∙ raised_greater (take n bytes) (drop n bytes) raised h)) e

pub upper_short : (n : ℕ) (bytes bound : List ℕ) → byte_upper_bound n bytes ≡ Some bound → length bound ≤ n
upper_short n bytes bound e =
    by_length n bytes bound (λ l. length l ≤ n) (nat_le (length bytes) n) refl
    (λ t. leb-true (length bytes) n t)
    (λ raised h. omega (arith, raised_long (take n bytes) raised h, length-take n bytes)) e
