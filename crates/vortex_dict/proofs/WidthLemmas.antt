-- Distinct rows of whole numbers are no more than the numbers of their kind.
use Rattle.std.proofs.Common.{◌≡◌, ℕ, suc, ◌+◌, ◌*◌, ◌-◌, ◌^◌, ◌<◌, ◌≤◌, min, Bool, true, false}
use Rattle.std.proofs.Common.{◌&&◌, cond, true≢false, nat_lt, ℤ, pos, negsuc, IsTrue, List, [], ◌∷◌}
use Rattle.std.proofs.Common.{map, length, get_or, refl, ap, sym, ◌∙◌, arith}
use Rattle.std.specs.List.{range_with_len, All, AllByRecursion}
use Rattle.std.proofs.lemmas.Bool.{ltb-true, lt-ltb}
use Rattle.std.proofs.lemmas.List.Elements.{recursion_from_All}
use Rattle.std.proofs.lemmas.List.FromFn.{length-map-range_with_len, get_or-map-range_with_len}
use Rattle.vortex_number.specs.Format.{Format, fits, magnitude_bits}
use Rattle.vortex_number.specs.PType.{format_of, byte_width_of, greatest, in_range}
use Rattle.vortex_number.specs.declared.ptype.PType.{PType}
use Rattle.vortex_number.specs.declared.ptype.PType.TheVariants.{U8, U16, U32, U64, I8, I16, I32}
use Rattle.vortex_number.specs.declared.ptype.PType.TheVariants.{I64}
use Rattle.vortex_terms.specs.Row.{Row, null_row, truth_row, whole_row, bytes_row, list_row}
use Rattle.vortex_terms.specs.Distinct.{distinct}
use Rattle.vortex_terms.specs.DistinctLaws.{distinct-shortest}
use Rattle.vortex_dict.specs.Widths.{IsLeastFor, IsRowOf, most_possible}

both : (a b : Bool) → a && b ≡ true → (a ≡ true) × (b ≡ true)
both true b h = (refl, h)
both false b h = absurd (true≢false (sym h))

not_less : (a b : ℕ) → b ≤ a → nat_lt a b ≡ false
not_less a b l = by (nat_lt a b) refl
  where
    by : (x : Bool) → nat_lt a b ≡ x → x ≡ false
    by true e = absurd (let t = ltb-true a b e in omega (arith, t, l))
    by false e = refl

-- ---- a list of all numbers: first those from 0 on, then those below 0

module _ (half count : ℕ) where
  abbrev number_at : ℕ → ℤ
  number_at i = cond (nat_lt i half) (pos i) (negsuc (i - half))

  abbrev place : ℤ → ℕ
  place (pos n) = n
  place (negsuc n) = half + n

  abbrev Has : ℤ → Type 0
  Has (pos n) = (n < half) × (n < count)
  Has (negsuc n) = half + n < count

  at_place : (z : ℤ) → Has z → number_at (place z) ≡ z
  at_place (pos n) h = ap (λ b. cond b (pos n) (negsuc (n - half))) (lt-ltb n half h.0)
  at_place (negsuc n) h =
      let back : half + n - half ≡ n = omega arith in
      ap (λ b. cond b (pos (half + n)) (negsuc (half + n - half)))
      (not_less (half + n) half (omega arith))
      ∙ ap negsuc back

  place_below : (z : ℤ) → Has z → place z < count
  place_below (pos n) h = h.1
  place_below (negsuc n) h = h

  abbrev row_of : ℕ → Row
  row_of i = whole_row (number_at i)

  abbrev all : List Row
  all = map row_of (range_with_len 0 count)

  abbrev others : Bool → List Row
  others true = null_row ∷ all
  others false = all

  abbrev HasRow : Bool → Row → Type 0
  HasRow nullable null_row = IsTrue nullable
  HasRow nullable (whole_row z) = Has z
  HasRow nullable (truth_row b) = ⊥
  HasRow nullable (bytes_row bytes) = ⊥
  HasRow nullable (list_row rows) = ⊥

  abbrev row_place : Bool → Row → ℕ
  row_place nullable null_row = 0
  row_place nullable (whole_row z) = cond nullable (suc (place z)) (place z)
  row_place nullable (truth_row b) = 0
  row_place nullable (bytes_row bytes) = 0
  row_place nullable (list_row rows) = 0

  all_length : length all ≡ count
  all_length = length-map-range_with_len row_of 0 count

  others_length : (nullable : Bool) → length (others nullable) ≡ cond nullable (suc count) count
  others_length true = ap (λ n. suc n) all_length
  others_length false = all_length

  there : (z : ℤ) → Has z → get_or all (place z) null_row ≡ whole_row z
  there z h =
      get_or-map-range_with_len row_of 0 count (place z) (place z) null_row (place_below z h)
      (omega arith)
      ∙ ap whole_row (at_place z h)

  row_there : (nullable : Bool) (r : Row) → HasRow nullable r
      → get_or (others nullable) (row_place nullable r) null_row ≡ r
  row_there true null_row h = refl
  row_there false null_row h = absurd (true≢false (sym h))
  row_there true (whole_row z) h = there z h
  row_there false (whole_row z) h = there z h
  row_there nullable (truth_row b) h = absurd h
  row_there nullable (bytes_row bytes) h = absurd h
  row_there nullable (list_row rows) h = absurd h

  row_below : (nullable : Bool) (r : Row) → HasRow nullable r
      → row_place nullable r < length (others nullable)
  row_below true null_row h = omega arith
  row_below false null_row h = absurd (true≢false (sym h))
  row_below true (whole_row z) h =
      let below = place_below z h in let n = all_length in omega (arith, below, n)
  row_below false (whole_row z) h =
      let below = place_below z h in let n = all_length in omega (arith, below, n)
  row_below nullable (truth_row b) h = absurd h
  row_below nullable (bytes_row bytes) h = absurd h
  row_below nullable (list_row rows) h = absurd h

  spelled : (nullable : Bool) (rs : List Row) → AllByRecursion (HasRow nullable) rs
      → AllByRecursion (λ c. c < length (others nullable)) (map (row_place nullable) rs)
      × (map (λ c. get_or (others nullable) c null_row) (map (row_place nullable) rs) ≡ rs)
  spelled nullable [] a = (tt, refl)
  spelled nullable (r ∷ rs) a =
      let rest = spelled nullable rs a.1 in
      ((row_below nullable r a.0, rest.0), λ i. row_there nullable r a.0 i ∷ rest.1 i)

  few_rows : (nullable : Bool) (rs : List Row) → distinct rs ≡ rs
      → AllByRecursion (HasRow nullable) rs → length rs ≤ cond nullable (suc count) count
  few_rows nullable rs d a =
      let s = spelled nullable rs a in
      let few = distinct-shortest rs (others nullable) (map (row_place nullable) rs) null_row s.0 s.1 in
      let same = ap length d in
      let n = others_length nullable in
      omega (arith, few, same, n)

-- ---- the numbers of a kind

module _ (f : Format) (count : ℕ) (low : 2 ^ magnitude_bits f ≤ count)
    (high : f.signed ≡ true → 2 ^ magnitude_bits f + 2 ^ magnitude_bits f ≤ count) where
  has : (z : ℤ) → IsTrue (fits f z) → Has (2 ^ magnitude_bits f) count z
  has (pos n) h =
      let below = ltb-true n (2 ^ magnitude_bits f) h in (below, omega (arith, below, low))
  has (negsuc n) h =
      let parts = both f.signed (nat_lt n (2 ^ magnitude_bits f)) h in
      let below = ltb-true n (2 ^ magnitude_bits f) parts.1 in
      let most = high parts.0 in
      omega (arith, below, most)

module _ (kind : PType) (nullable : Bool) (count : ℕ) (low : 2 ^ magnitude_bits (format_of kind) ≤ count)
    (high : (format_of kind).signed ≡ true → 2 ^ magnitude_bits (format_of kind) + 2 ^ magnitude_bits (format_of kind) ≤ count) where
  has_row : (r : Row) → IsRowOf kind nullable r → HasRow (2 ^ magnitude_bits (format_of kind)) count nullable r
  has_row null_row h = h
  has_row (whole_row z) h = has (format_of kind) count low high z h
  has_row (truth_row b) h = h
  has_row (bytes_row bytes) h = h
  has_row (list_row rows) h = h

  has_rows : (rs : List Row) → AllByRecursion (IsRowOf kind nullable) rs
      → AllByRecursion (HasRow (2 ^ magnitude_bits (format_of kind)) count nullable) rs
  has_rows [] a = tt
  has_rows (r ∷ rs) a = (has_row r a.0, has_rows rs a.1)

  numbers_few : (rs : List Row) → distinct rs ≡ rs → All (IsRowOf kind nullable) rs
      → length rs ≤ cond nullable (suc count) count
  numbers_few rs d a =
      few_rows (2 ^ magnitude_bits (format_of kind)) count nullable rs d
      (has_rows rs (recursion_from_All (IsRowOf kind nullable) rs a))

abbrev count_of : PType → ℕ
count_of kind = 2 ^ (8 * byte_width_of kind)

low_of : (kind : PType) → 2 ^ magnitude_bits (format_of kind) ≤ count_of kind
low_of U8 = omega arith
low_of U16 = omega arith
low_of U32 = omega arith
low_of U64 = omega arith
low_of I8 = omega arith
low_of I16 = omega arith
low_of I32 = omega arith
low_of I64 = omega arith

high_of : (kind : PType) → (format_of kind).signed ≡ true
    → 2 ^ magnitude_bits (format_of kind) + 2 ^ magnitude_bits (format_of kind) ≤ count_of kind
high_of U8 h = absurd (true≢false (sym h))
high_of U16 h = absurd (true≢false (sym h))
high_of U32 h = absurd (true≢false (sym h))
high_of U64 h = absurd (true≢false (sym h))
high_of I8 h = omega arith
high_of I16 h = omega arith
high_of I32 h = omega arith
high_of I64 h = omega arith

-- ---- the code type

within_greatest : (code : PType) (i : ℕ) → i ≤ greatest code → IsTrue (in_range code (pos i))
within_greatest U8 i h = lt-ltb i (2 ^ 8) (omega (arith, h))
within_greatest U16 i h = lt-ltb i (2 ^ 16) (omega (arith, h))
within_greatest U32 i h = lt-ltb i (2 ^ 32) (omega (arith, h))
within_greatest U64 i h = lt-ltb i (2 ^ 64) (omega (arith, h))
within_greatest I8 i h = lt-ltb i (2 ^ 7) (omega (arith, h))
within_greatest I16 i h = lt-ltb i (2 ^ 15) (omega (arith, h))
within_greatest I32 i h = lt-ltb i (2 ^ 31) (omega (arith, h))
within_greatest I64 i h = lt-ltb i (2 ^ 63) (omega (arith, h))

least_has : (n : ℕ) (code : PType) → IsLeastFor (n ∷ []) code → n ≤ greatest code
least_has n code l = l.has 0 0 (omega arith)

pub places_fit : (code : PType) (max_len : ℕ) → IsLeastFor (max_len ∷ []) code → (i : ℕ)
    → i < max_len → IsTrue (in_range code (pos i))
places_fit code max_len l i u =
    let most = least_has max_len code l in within_greatest code i (omega (arith, most, u))

narrow : (count len max_len g i : ℕ) (nullable : Bool) → len ≤ cond nullable (suc count) count → len ≤ max_len
    → min max_len (cond nullable (count + 1) (count - 1)) ≤ g → i < len → i ≤ g
narrow count len max_len g i true a b c d = omega (arith, a, b, c, d)
narrow count len max_len g i false a b c d = omega (arith, a, b, c, d)

wide : (count len max_len g i : ℕ) → max_len < count → len ≤ max_len → min max_len (count - 1) ≤ g → i < len → i ≤ g
wide count len max_len g i a b c d = omega (arith, a, b, c, d)

enough : (kind : PType) (nullable : Bool) (len max_len g i : ℕ) → max_len < 2 ^ 64
    → len ≤ cond nullable (suc (count_of kind)) (count_of kind) → len ≤ max_len
    → min max_len (most_possible (8 * byte_width_of kind) nullable) ≤ g → i < len → i ≤ g
enough U8 true len max_len g i m a b c d = narrow (2 ^ 8) len max_len g i true a b c d
enough U8 false len max_len g i m a b c d = narrow (2 ^ 8) len max_len g i false a b c d
enough U16 true len max_len g i m a b c d = narrow (2 ^ 16) len max_len g i true a b c d
enough U16 false len max_len g i m a b c d = narrow (2 ^ 16) len max_len g i false a b c d
enough U32 true len max_len g i m a b c d = narrow (2 ^ 32) len max_len g i true a b c d
enough U32 false len max_len g i m a b c d = narrow (2 ^ 32) len max_len g i false a b c d
enough U64 true len max_len g i m a b c d = wide (2 ^ 64) len max_len g i m b c d
enough U64 false len max_len g i m a b c d = wide (2 ^ 64) len max_len g i m b c d
enough I8 true len max_len g i m a b c d = narrow (2 ^ 8) len max_len g i true a b c d
enough I8 false len max_len g i m a b c d = narrow (2 ^ 8) len max_len g i false a b c d
enough I16 true len max_len g i m a b c d = narrow (2 ^ 16) len max_len g i true a b c d
enough I16 false len max_len g i m a b c d = narrow (2 ^ 16) len max_len g i false a b c d
enough I32 true len max_len g i m a b c d = narrow (2 ^ 32) len max_len g i true a b c d
enough I32 false len max_len g i m a b c d = narrow (2 ^ 32) len max_len g i false a b c d
enough I64 true len max_len g i m a b c d = wide (2 ^ 64) len max_len g i m b c d
enough I64 false len max_len g i m a b c d = wide (2 ^ 64) len max_len g i m b c d

pub numbers_places_fit : (kind code : PType) (nullable : Bool) (max_len : ℕ) (values : List Row)
    → max_len < 2 ^ 64 → IsLeastFor (min max_len (most_possible (8 * byte_width_of kind) nullable) ∷ []) code
    → distinct values ≡ values → All (IsRowOf kind nullable) values → length values ≤ max_len → (i : ℕ)
    → i < length values → IsTrue (in_range code (pos i))
numbers_places_fit kind code nullable max_len values m l d a u i h =
    let few = numbers_few kind nullable (count_of kind) (low_of kind) (high_of kind) values d a in
    let least = least_has (min max_len (most_possible (8 * byte_width_of kind) nullable)) code l in
    within_greatest code i (enough kind nullable (length values) max_len (greatest code) i m few u least h)
