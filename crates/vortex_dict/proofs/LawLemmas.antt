-- What encodings without stops are, and that no dictionary is shorter.
use Rattle.std.proofs.Common.{◌≡◌, ℕ, ◌+◌, ◌-◌, ◌^◌, ◌<◌, ◌≤◌, nat_lt, nat_le, ◌||◌, inl, inr, Bool}
use Rattle.std.proofs.Common.{true, false, not, ◌&&◌, true≢false, Some, List, [], ◌∷◌, map, length}
use Rattle.std.proofs.Common.{take, get_or, refl, ap, sym, subst, ◌∙◌, arith}
use Rattle.std.specs.List.{slice_get, sum_by, AllByRecursion}
use Rattle.std.proofs.lemmas.Bool.{cases_lt}
use Rattle.std.proofs.lemmas.List.{take_all}
use Rattle.std.proofs.lemmas.Option.{slice_get_within, slice_get-get_or}
use Rattle.std.specs.Int.{w64}
use Rattle.std.proofs.lemmas.Bool.{ltb-true, lt-ltb, leb-true}
use Rattle.vortex_number.specs.Format.{unsigned}
use Rattle.vortex_number.specs.PType.{byte_width_of}
use Rattle.vortex_number.specs.declared.ptype.PType.{PType}
use Rattle.vortex_number.specs.declared.ptype.PType.TheVariants.{U8, U16, U32, U64, I8, I16, I32}
use Rattle.vortex_number.specs.declared.ptype.PType.TheVariants.{I64}
use Rattle.vortex_dict.specs.declared.constraints.DictConstraints.{DictConstraints}
use Rattle.vortex_dict.specs.Limits.{Dictionary, byte_count, counted, bytes_over, numbers_over}
use Rattle.vortex_dict.proofs.BytesLemmas.{counted_bound, counted_most}
use Rattle.vortex_terms.specs.Row.{Row, null_row, is_null}
use Rattle.vortex_terms.specs.Distinct.{distinct, codes_of}
use Rattle.vortex_terms.specs.DistinctLaws.{distinct-shortest}
use Rattle.vortex_dict.specs.Encoding.{stands, stops_at, Encodes, IsFull}
use Rattle.vortex_dict.proofs.SizeLemmas.{all_too_large}

module _ (over : List Row → Row → Bool) (rows values : List Row) (codes : List ℕ) (e : Encodes over [] rows values codes) where
  never : ((i : ℕ) → i < length rows → over values (get_or rows i null_row) ≡ false) → length codes < length rows → stops_at over [] rows (length codes) ≡ true → ⊥
  never h l s =
      let n = length codes in
      let r = get_or rows n null_row in
      by (not (stands r (take n rows))) (sym (ap (λ b. not (stands r (take n rows)) && b) (ap (λ vs. over vs r) (sym e.values_are) ∙ h n l)) ∙ s)
    where
      by : (b : Bool) → b && false ≡ true → ⊥
      by true t = true≢false (sym t)
      by false t = true≢false (sym t)

  pub all_encoded : ((i : ℕ) → i < length rows → over values (get_or rows i null_row) ≡ false) → length codes ≡ length rows
  all_encoded h = elim (cases_lt (length codes) (length rows)) [ inl l ↦ absurd (never h l (e.stops l)) | inr g ↦ omega (arith, g, e.count) ]

  pub values_distinct : length codes ≡ length rows → values ≡ distinct rows
  values_distinct h = e.values_are ∙ ap distinct (take_all (length codes) rows (omega (arith, h)))

  pub codes_distinct : length codes ≡ length rows → codes ≡ codes_of rows
  codes_distinct h = e.codes_are ∙ ap codes_of (take_all (length codes) rows (omega (arith, h)))

  some_is : {r s : Row} → Some r ≡ Some s → r ≡ s
  some_is h = cc

  spelled : (vs : List Row) (cs : List ℕ) (rs : List Row) (d : Row) → map (slice_get vs) cs ≡ map Some rs → AllByRecursion (λ c. c < length vs) cs × (map (λ c. get_or vs c d) cs ≡ rs)
  spelled vs [] [] d h = (tt, refl)
  spelled vs [] (r ∷ rs) d h = absurd cc
  spelled vs (c ∷ cs) [] d h = absurd cc
  spelled vs (c ∷ cs) (r ∷ rs) d h =
      let first : slice_get vs c ≡ Some r = cc in
      let rest : map (slice_get vs) cs ≡ map Some rs = cc in
      let below = slice_get_within vs c r first in
      let more = spelled vs cs rs d rest in
      ((below, more.0), λ i. some_is (sym (slice_get-get_or vs c d below) ∙ first) i ∷ more.1 i)

  pub no_fewer : (others : List Row) (spelling : List ℕ) → map (slice_get others) spelling ≡ map Some (take (length codes) rows) → length values ≤ length others
  no_fewer others spelling h =
      let s = spelled others spelling (take (length codes) rows) null_row h in
      let few = distinct-shortest (take (length codes) rows) others spelling null_row s.0 s.1 in
      let same = ap length e.values_are in
      omega (arith, few, same)

-- ---- no limits

abbrev no_limits : DictConstraints
no_limits = record { max_bytes = 2 ^ 64 - 1; max_len = 2 ^ 64 - 1 }

not_lt : (a b : ℕ) → b ≤ a → nat_lt a b ≡ false
not_lt a b l = by (nat_lt a b) refl
  where
    by : (x : Bool) → nat_lt a b ≡ x → x ≡ false
    by true e = absurd (let t = ltb-true a b e in omega (arith, t, l))
    by false e = refl

not_le : (a b : ℕ) → b < a → nat_le a b ≡ false
not_le a b l = not_lt' (nat_le a b) refl
  where
    not_lt' : (x : Bool) → nat_le a b ≡ x → x ≡ false
    not_lt' true e = absurd (let t = leb-true a b e in omega (arith, t, l))
    not_lt' false e = refl

is_lt : (a b : ℕ) → a < b → nat_lt a b ≡ true
is_lt a b l = lt-ltb a b l

three : (a b c d : Bool) → a ≡ true → b ≡ false → d ≡ false → not a || b || (not c && d) ≡ false
three true false true false e f g = refl
three true false false false e f g = refl
three false b c d e f g = absurd (true≢false (sym e))
three true true c d e f g = absurd (true≢false f)
three true false c true e f g = absurd (true≢false g)

pub bytes_no_limits : (values : List Row) (r : Row) → length values < 2 ^ 32 → sum_by byte_count values < 2 ^ 32 → byte_count r < 2 ^ 63 → bytes_over (unsigned w64) no_limits values r ≡ false
bytes_no_limits values r n s l =
    let most = counted_bound values in
    let one = counted_most r in
    three (nat_lt (length values) (2 ^ 64)) (nat_le (2 ^ 64 - 1) (length values)) (is_null r) (nat_lt (2 ^ 64 - 1) (sum_by counted values + counted r))
    (is_lt (length values) (2 ^ 64) (omega (arith, n))) (not_le (2 ^ 64 - 1) (length values) (omega (arith, n))) (not_lt (2 ^ 64 - 1) (sum_by counted values + counted r) (omega (arith, most, one, n, s, l)))

two : (a b : Bool) → a ≡ true → b ≡ false → not a || b ≡ false
two true false e f = refl
two false b e f = absurd (true≢false (sym e))
two true true e f = absurd (true≢false f)

few_places : (most n : ℕ) → n < 2 ^ 32 → 2 ^ 32 ≤ most → not (nat_lt n (2 ^ 64)) || nat_le most n ≡ false
few_places most n l h = two (nat_lt n (2 ^ 64)) (nat_le most n) (is_lt n (2 ^ 64) (omega (arith, l))) (not_le most n (omega (arith, l, h)))

pub numbers_no_limits : (kind : PType) (values : List Row) (r : Row) → length values < 2 ^ 32 → numbers_over (unsigned w64) (byte_width_of kind) no_limits values r ≡ false
numbers_no_limits U8 values r n = few_places (2 ^ 64 - 1) (length values) n (omega arith)
numbers_no_limits I8 values r n = few_places (2 ^ 64 - 1) (length values) n (omega arith)
numbers_no_limits U16 values r n = few_places (2 ^ 63 - 1) (length values) n (omega arith)
numbers_no_limits I16 values r n = few_places (2 ^ 63 - 1) (length values) n (omega arith)
numbers_no_limits U32 values r n = few_places (2 ^ 62 - 1) (length values) n (omega arith)
numbers_no_limits I32 values r n = few_places (2 ^ 62 - 1) (length values) n (omega arith)
numbers_no_limits U64 values r n = few_places (2 ^ 61 - 1) (length values) n (omega arith)
numbers_no_limits I64 values r n = few_places (2 ^ 61 - 1) (length values) n (omega arith)

-- ---- whole columns

pub whole_bytes : (rows values : List Row) (codes : List ℕ)
    → Encodes (bytes_over (unsigned w64) no_limits) [] rows values codes → length values < 2 ^ 32
    → sum_by byte_count values < 2 ^ 32
    → ((i : ℕ) → i < length rows → byte_count (get_or rows i null_row) < 2 ^ 63)
    → (values ≡ distinct rows) × (codes ≡ codes_of rows)
whole_bytes rows values codes e n s h =
    let over = bytes_over (unsigned w64) no_limits in
    let within = λ (i : ℕ) (l : i < length rows). bytes_no_limits values (get_or rows i null_row) n s (h i l) in
    let all = all_encoded over rows values codes e within in
    (values_distinct over rows values codes e all, codes_distinct over rows values codes e all)

pub whole_numbers : (kind : PType) (rows values : List Row) (codes : List ℕ)
    → Encodes (numbers_over (unsigned w64) (byte_width_of kind) no_limits) [] rows values codes
    → length values < 2 ^ 32 → (values ≡ distinct rows) × (codes ≡ codes_of rows)
whole_numbers kind rows values codes e n =
    let over = numbers_over (unsigned w64) (byte_width_of kind) no_limits in
    let within = λ (i : ℕ) (l : i < length rows). numbers_no_limits kind values (get_or rows i null_row) n in
    let all = all_encoded over rows values codes e within in
    (values_distinct over rows values codes e all, codes_distinct over rows values codes e all)

-- what a new encoder without limits makes

abbrev unlimited : Dictionary
unlimited = record { values = []; constraints = no_limits }

pub bytes_whole : (d : Dictionary) (rows values : List Row) (codes codes' : List ℕ) → d ≡ unlimited
    → Encodes (bytes_over (unsigned w64) d.constraints) d.values rows values codes' → codes' ≡ codes
    → length values < 2 ^ 32 → sum_by byte_count values < 2 ^ 32
    → ((i : ℕ) → i < length rows → byte_count (get_or rows i null_row) < 2 ^ 63)
    → (values ≡ distinct rows) × (codes ≡ codes_of rows)
bytes_whole d rows values codes codes' m e c n s h =
    let made = subst (λ k. Encodes (bytes_over (unsigned w64) k.constraints) k.values rows values codes') m e in
    let all = whole_bytes rows values codes' made n s h in
    (all.0, sym c ∙ all.1)

pub bytes_large : (d : Dictionary) (rows : List Row) → d ≡ unlimited
    → IsFull (bytes_over (unsigned w64) d.constraints) byte_count d.values rows
    → 2 ^ 32 ≤ sum_by byte_count (distinct rows)
bytes_large d rows m p =
    all_too_large byte_count (bytes_over (unsigned w64) no_limits) rows
    (subst (λ k. IsFull (bytes_over (unsigned w64) k.constraints) byte_count k.values rows) m p)

-- values of fewer than 2^32 bytes are not those of rows that are too large
pub small_whole : (size : Row → ℕ) (rows values : List Row) → values ≡ distinct rows
    → sum_by size values < 2 ^ 32 → 2 ^ 32 ≤ sum_by size (distinct rows) → ⊥
small_whole size rows values e s h = let same = ap (sum_by size) e in omega (arith, same, s, h)

pub numbers_whole : (kind : PType) (d : Dictionary) (rows values : List Row) (codes codes' : List ℕ)
    → d ≡ unlimited
    → Encodes (numbers_over (unsigned w64) (byte_width_of kind) d.constraints) d.values rows values codes'
    → codes' ≡ codes → length values < 2 ^ 32 → (values ≡ distinct rows) × (codes ≡ codes_of rows)
numbers_whole kind d rows values codes codes' m e c n =
    let made = subst (λ k. Encodes (numbers_over (unsigned w64) (byte_width_of kind) k.constraints) k.values rows values codes') m e in
    let all = whole_numbers kind rows values codes' made n in
    (all.0, sym c ∙ all.1)

pub numbers_large : (kind : PType) (d : Dictionary) (rows : List Row) → d ≡ unlimited
    → IsFull (numbers_over (unsigned w64) (byte_width_of kind) d.constraints) (λ r. byte_width_of kind) d.values rows
    → 2 ^ 32 ≤ sum_by (λ r. byte_width_of kind) (distinct rows)
numbers_large kind d rows m p =
    all_too_large (λ r. byte_width_of kind) (numbers_over (unsigned w64) (byte_width_of kind) no_limits) rows
    (subst (λ k. IsFull (numbers_over (unsigned w64) (byte_width_of kind) k.constraints) (λ r. byte_width_of kind) k.values rows) m p)
