-- Sizes by counts: no law here needs the rows of a large list.
--     length-copies, distinct-copies      n equal rows
--     length-lists, length-fixed_lists    how many elements lists have
--     size-copies                         the size of n equal rows
--     passes-text, passes-binary, ..      which columns of a kind pass
--     many-pass                           a column of more than 268,435,455 rows passes
use Rattle.std.specs.Prelude.{◌≡◌, ◌≤◌, ◌<◌, ◌↔◌, ℕ, zero, suc, ◌+◌, ◌*◌, Bool, true, false, not, ◌||◌, cond, nat_lt, List, [], ◌∷◌, length, sum_by, IsTrue, refl}
use Rattle.std.specs.List.{filter, flat_map}
use Rattle.std.proofs.lemmas.Bool.{ltb-true, lt-ltb}
use Rattle.std.proofs.lemmas.List.{length-append}
use Rattle.std.proofs.lemmas.List.Concat.{length-flat_map}
use Rattle.std.proofs.lemmas.List.Sums.{sum_by-cons}
use Rattle.std.proofs.Common.{ap, sym, ◌∙◌, arith, true≢false}
use Rattle.vortex_terms.specs.Term.{WholeKind, Term, null, boolean, primitive, decimal, utf8, binary, structure, list, extension, fixed_size_list}
use Rattle.vortex_terms.specs.Row.{Row, null_row, truth_row, whole_row, bytes_row, list_row, copies}
use Rattle.vortex_terms.specs.Fits.{Fits}
use Rattle.vortex_terms.specs.Order.{row_eq}
use Rattle.vortex_terms.specs.OrderLaws.{row_eq-Decides}
use Rattle.vortex_terms.specs.Default.{default_row}
use Rattle.vortex_terms.specs.Distinct.{distinct}
use Rattle.vortex_terms.specs.Parts.{inner_rows, fixed_inner_rows, byte_count, size_of, is_large, most_size, passes, fields_pass}
use Rattle.vortex_terms.specs.RowLaws.{length-row_list}
use Rattle.vortex_terms.specs.PartLaws.{AllFit}

-- ---- equal rows

pub length-copies : (n : ℕ) (r : Row) → length (copies n r) ≡ n
unfolding copies
length-copies zero r = refl
length-copies (suc n) r = ap suc (length-copies n r)

-- of equal rows one is distinct
pub distinct-copies : (n : ℕ) (r : Row) → distinct (copies (suc n) r) ≡ r ∷ []
unfolding copies
distinct-copies zero r = refl
distinct-copies (suc n) r =
    ap (λ rs. r ∷ filter (λ s. not (row_eq r s)) rs) (distinct-copies n r)
    ∙ ap (λ b. r ∷ cond (not b) (r ∷ []) []) ((row_eq-Decides r r).1 refl)

-- ---- how many elements

pub length-lists : (rs : List Row)
    → length (flat_map inner_rows rs) ≡ sum_by (λ r. length (inner_rows r)) rs
length-lists rs = length-flat_map inner_rows rs

fixed-length : (t : Term) (k : ℕ) (n : Bool) (r : Row) → Fits (fixed_size_list t k n) r
    → length (fixed_inner_rows t k r) ≡ k
fixed-length t k n null_row f = length-copies k (default_row t)
fixed-length t k n (list_row rs) f = length-row_list rs ∙ f.0
fixed-length t k n (truth_row b) f = absurd f
fixed-length t k n (whole_row z) f = absurd f
fixed-length t k n (bytes_row bs) f = absurd f

times-more : (n k : ℕ) → k + n * k ≡ suc n * k
times-more n k = grind arith

-- lists of k elements have k for each list, also under a null
pub length-fixed_lists : (t : Term) (k : ℕ) (n : Bool) (rs : List Row)
    → AllFit (fixed_size_list t k n) rs
    → length (flat_map (fixed_inner_rows t k) rs) ≡ length rs * k
length-fixed_lists t k n [] a = let none : 0 ≡ 0 * k = omega arith in none
length-fixed_lists t k n (r ∷ rs) a =
    length-append (fixed_inner_rows t k r) (flat_map (fixed_inner_rows t k) rs)
    ∙ (λ i. fixed-length t k n r a.0 i + length-fixed_lists t k n rs a.1 i)
    ∙ times-more (length rs) k

-- ---- sizes

-- a size is at least 16 for each row
size-least : (t : Term) (rs : List Row) → 16 * length rs ≤ size_of t rs
size-least (utf8 n) rs = omega arith
size-least (binary n) rs = omega arith
size-least null rs = omega arith
size-least (boolean n) rs = omega arith
size-least (primitive k n) rs = omega arith
size-least (decimal p s n) rs = omega arith
size-least (structure fs n) rs = omega arith
size-least (list t n) rs = omega arith
size-least (extension id t m) rs = omega arith
size-least (fixed_size_list t k n) rs = omega arith

passes-large : (t : Term) (rs : List Row) → is_large t rs ≡ true → passes t rs ≡ true
passes-large (structure fs n) rs h = ap (λ b. b || fields_pass fs 0 rs) h
passes-large (list t n) rs h = ap (λ b. b || passes t (flat_map inner_rows rs)) h
passes-large (extension id t m) rs h = ap (λ b. b || passes t rs) h
passes-large (fixed_size_list t k n) rs h =
    ap (λ b. b || passes t (flat_map (fixed_inner_rows t k) rs)) h
passes-large null rs h = h
passes-large (boolean n) rs h = h
passes-large (primitive k n) rs h = h
passes-large (decimal p s n) rs h = h
passes-large (utf8 n) rs h = h
passes-large (binary n) rs h = h

-- a column of more rows than 16 goes into the limit passes, whatever its type
pub many-pass : (t : Term) (rs : List Row) → 268435455 < length rs → IsTrue (passes t rs)
many-pass t rs h =
    passes-large t rs (lt-ltb most_size (size_of t rs)
    (let least = size-least t rs in omega (arith, h)))

-- n equal texts have their bytes once
pub size-copies : (n : ℕ) (bs : List ℕ) (m : Bool)
    → size_of (utf8 m) (copies (suc n) (bytes_row bs)) ≡ 16 * suc n + length bs
size-copies n bs m =
    (λ i. 16 * length-copies (suc n) (bytes_row bs) i + sum_by byte_count
    (distinct-copies n (bytes_row bs) i))
    ∙ (let one : sum_by byte_count (bytes_row bs ∷ [])
    ≡ length bs = sum_by-cons byte_count (bytes_row bs) []
    ∙ plus_none (length bs) in ap (λ k. 16 * suc n + k) one)
  where
    plus_none : (k : ℕ) → k + sum_by byte_count [] ≡ k
    plus_none k = let none : k + 0 ≡ k = omega arith in none

-- ---- which columns pass

above : (a b : ℕ) → IsTrue (nat_lt a b) ↔ (a < b)
above a b = (ltb-true a b, lt-ltb a b)

-- texts pass by their rows and the bytes of the distinct ones
pub passes-text : (n : Bool) (rs : List Row)
    → IsTrue (passes (utf8 n) rs) ↔ (4294967295 < 16 * length rs + sum_by byte_count (distinct rs))
passes-text n rs = above 4294967295 (16 * length rs + sum_by byte_count (distinct rs))

pub passes-binary : (n : Bool) (rs : List Row)
    → IsTrue (passes (binary n) rs) ↔
    (4294967295 < 16 * length rs + sum_by byte_count (distinct rs))
passes-binary n rs = above 4294967295 (16 * length rs + sum_by byte_count (distinct rs))

-- numbers by their rows
pub passes-primitive : (w : WholeKind) (n : Bool) (rs : List Row)
    → IsTrue (passes (primitive w n) rs) ↔ (4294967295 < 16 * length rs)
passes-primitive w n rs = above 4294967295 (16 * length rs)

either : (a b : Bool) → a || b ≡ true → (a ≡ false) → b ≡ true
either true b h e = absurd (true≢false e)
either false b h e = h

-- lists of k numbers by their numbers, since there are no fewer than lists where k is not 0
pub passes-fixed : (w : WholeKind) (k : ℕ) (m n : Bool) (rs : List Row)
    → AllFit (fixed_size_list (primitive w m) k n) rs → 0 < k
    → IsTrue (passes (fixed_size_list (primitive w m) k n) rs) ↔ (4294967295 < 16 * (length rs * k))
passes-fixed w k m n rs a pos =
    by (nat_lt 4294967295 (16 * length rs)) refl
    (ap (λ c. nat_lt 4294967295 (16 * c)) (length-fixed_lists (primitive w m) k n rs a))
  where
    more : (l k : ℕ) → 0 < k → l ≤ l * k
    more l zero h = absurd (omega arith)
    more l (suc k) h = grind arith

    by : (b : Bool) → nat_lt 4294967295 (16 * length rs) ≡ b
        → nat_lt 4294967295 (16 * length (flat_map (fixed_inner_rows (primitive w m) k) rs))
        ≡ nat_lt 4294967295 (16 * (length rs * k))
        → IsTrue (nat_lt 4294967295 (16 * length rs) || nat_lt 4294967295
        (16 * length (flat_map (fixed_inner_rows (primitive w m) k) rs))) ↔
        (4294967295 < 16 * (length rs * k))
    by true e same =
        let few = more (length rs) k pos in
        let here = ltb-true 4294967295 (16 * length rs) e in (
          λ _. omega arith,
          λ _. ap
              (λ c. c || nat_lt 4294967295
              (16 * length (flat_map (fixed_inner_rows (primitive w m) k) rs))) e,
        )
    by false e same = (
      λ h. ltb-true 4294967295 (16 * (length rs * k))
          (sym same ∙ either (nat_lt 4294967295 (16 * length rs))
          (nat_lt 4294967295 (16 * length (flat_map (fixed_inner_rows (primitive w m) k) rs))) h e),
      λ h. ap (λ c. c || nat_lt 4294967295
          (16 * length (flat_map (fixed_inner_rows (primitive w m) k) rs))) e ∙ same
          ∙ lt-ltb 4294967295 (16 * (length rs * k)) h,
    )
