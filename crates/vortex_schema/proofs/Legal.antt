-- What the bytes of a buffer let the readers find is legal.
use Rattle.std.proofs.Common.{◌≡◌, ℕ, ◌+◌, ◌*◌, ◌^◌, ◌<◌, ◌≤◌, cond, leb, List, [], ◌∷◌, length, take, drop, Option, Some, None, refl, subst, arith, length-take, length-drop}
use Rattle.std.specs.Prelude.{IfSome}
use Rattle.std.specs.List.{AllByRecursion}
use Rattle.std.specs.Option.{option_map}
use Rattle.std.specs.Str.{IsUtf8, is_utf8}
use Rattle.std.proofs.lemmas.Bool.{leb-true}
use Rattle.std.proofs.lemmas.List.Elements.{All-take, All-drop, recursion_from_All}
use Rattle.std.proofs.lemmas.Str.{IsUtf8-from_is_utf8}
use Rattle.vortex_prelude.specs.Absent.{or_zero}
use Rattle.vortex_flat.specs.Numbers.{little_endian, number}
use Rattle.vortex_flat.specs.Targets.{VectorShape, if_present, number_field, follow, vector_at, bytes_at, text_at, bytes_field, text_field, text_element, target_field, element}
use Rattle.vortex_flat.specs.Table.{field_at}
use Rattle.vortex_terms.specs.Types.{IsBytes}
use Rattle.vortex_schema.proofs.Options.{bound, mapped, guarded}

-- ---- numbers of four bytes

spelled_4 : (xs : List ℕ) → length xs ≡ 4 → AllByRecursion (λ x. x < 256) xs → little_endian xs < 2 ^ 32
spelled_4 [] e h = omega arith
spelled_4 (x ∷ []) e h = absurd (omega arith)
spelled_4 (x ∷ y ∷ []) e h = absurd (omega arith)
spelled_4 (x ∷ y ∷ z ∷ []) e h = absurd (omega arith)
spelled_4 (x ∷ y ∷ z ∷ w ∷ []) e h = omega (arith, h.0, h.1.0, h.1.1.0, h.1.1.1.0)
spelled_4 (x ∷ y ∷ z ∷ w ∷ v ∷ vs) e h = absurd (omega arith)

number_4-below : (b : List ℕ) (i n : ℕ) → IsBytes b → number b i 4 ≡ Some n → n < 2 ^ 32
unfolding number
number_4-below b i n bytes e =
    let g = guarded (leb (i + 4) (length b)) (little_endian (take 4 (drop i b))) n e in
    let within : i + 4 ≤ length b = leb-true _ _ g.0 in
    let len : length (take 4 (drop i b)) ≡ 4 = omega (arith, length-take 4 (drop i b), length-drop i b) in
    let small = spelled_4 (take 4 (drop i b)) len (recursion_from_All (λ x. x < 256) (take 4 (drop i b)) (All-take (λ x. x < 256) 4 (drop i b) (All-drop (λ x. x < 256) i b bytes))) in
    omega (arith, small, g.1)

pub number_field_4-below : (b : List ℕ) (q k n : ℕ) → IsBytes b → or_zero (number_field b q k 4) ≡ Some n → n < 2 ^ 32
number_field_4-below b q k n bytes e = by (field_at b q k 4) e
  where
    there : (o : Option ℕ) → ((m : ℕ) → o ≡ Some m → m < 2 ^ 32) → or_zero (option_map Some o) ≡ Some n → n < 2 ^ 32
    there None h e = absurd cc
    there (Some m) h e = let same : m ≡ n = cc in omega (arith, h m refl)

    by : (o : Option (Option ℕ)) → or_zero (if_present o (λ i. number b i 4)) ≡ Some n → n < 2 ^ 32
    by None e = absurd cc
    by (Some None) e = let same : 0 ≡ n = cc in omega arith
    by (Some (Some i)) e = there (number b i 4) (λ m. number_4-below b i m bytes) e

-- ---- texts and bytes

text_at-IsUtf8 : (b : List ℕ) (p : ℕ) (x : List ℕ) → text_at b p ≡ Some x → IsUtf8 x
text_at-IsUtf8 b p x e =
    let found = bound (bytes_at b p) (λ text. cond (is_utf8 text) (Some text) None) x e in
    let g = guarded (is_utf8 found.0) found.0 x found.2 in
    subst IsUtf8 g.1 (IsUtf8-from_is_utf8 found.0 g.0)

pub text_element-IsUtf8 : (b : List ℕ) (v : VectorShape) (i : ℕ) (x : List ℕ) → text_element b v i ≡ Some x → IsUtf8 x
text_element-IsUtf8 b v i x e =
    let found = bound (follow b (element v i)) (text_at b) x e in
    text_at-IsUtf8 b found.0 x found.2

pub text_field-IsUtf8 : (b : List ℕ) (q k : ℕ) (x : List ℕ) → text_field b q k ≡ Some (Some x) → IsUtf8 x
text_field-IsUtf8 b q k x e = by (target_field b q k) e
  where
    there : (o : Option (List ℕ)) → ((y : List ℕ) → o ≡ Some y → IsUtf8 y) → option_map Some o ≡ Some (Some x) → IsUtf8 x
    there None h e = absurd cc
    there (Some y) h e = let same : y ≡ x = cc in subst IsUtf8 same (h y refl)

    by : (o : Option (Option ℕ)) → if_present o (text_at b) ≡ Some (Some x) → IsUtf8 x
    by None e = absurd cc
    by (Some None) e = absurd cc
    by (Some (Some p)) e = there (text_at b p) (text_at-IsUtf8 b p) e

bytes_at-IsBytes : (b : List ℕ) (p : ℕ) (x : List ℕ) → IsBytes b → bytes_at b p ≡ Some x → IsBytes x
bytes_at-IsBytes b p x bytes e =
    let found = mapped (λ (v : VectorShape). take v.count (drop v.first b)) (vector_at b p 1) x e in
    let v = found.0 in
    subst IsBytes found.2 (All-take (λ y. y < 256) v.count (drop v.first b) (All-drop (λ y. y < 256) v.first b bytes))

pub bytes_field-IsBytes : (b : List ℕ) (q k : ℕ) (m : Option (List ℕ)) → IsBytes b → bytes_field b q k ≡ Some m → IfSome m IsBytes
bytes_field-IsBytes b q k m bytes e = by (target_field b q k) e
  where
    there : (o : Option (List ℕ)) → ((y : List ℕ) → o ≡ Some y → IsBytes y) → option_map Some o ≡ Some m → IfSome m IsBytes
    there None h e = absurd cc
    there (Some y) h e = let same : Some y ≡ m = cc in subst (λ l. IfSome l IsBytes) same (h y refl)

    by : (o : Option (Option ℕ)) → if_present o (bytes_at b) ≡ Some m → IfSome m IsBytes
    by None e = absurd cc
    by (Some None) e = let same : None ≡ m = cc in subst (λ l. IfSome l IsBytes) same tt
    by (Some (Some p)) e = there (bytes_at b p) (λ y. bytes_at-IsBytes b p y bytes) e
