-- What comparing the rows of an array with a scalar answers, by the masks of truth values that it is made of.
use Rattle.std.specs.Prelude.{not, ◌&&◌, ◌||◌, slice_get, if◌then◌else◌}
use Rattle.std.proofs.Common.{◌≡◌, ◌∙◌, ◌<◌, ◌+◌, ◌++◌, ℕ, zero, suc, List, [], ◌∷◌, Bool, true, false, IsTrue, Option, Some, map, length, replicate, take, refl, sym, ap, subst, arith, true≢false}
use Rattle.std.proofs.lemmas.List.{length-map}
use Rattle.std.specs.List.{list_all, list_any, AllByRecursion}
use Rattle.std.specs.Option.{is_some, IsSome, unwrap_or}
use Rattle.vortex_names.specs.Nullable.{is_nullable, nullability_of, either}
use Rattle.vortex_names.specs.declared.nullable.Nullability.{Nullability}
use Rattle.vortex_terms.specs.Term.{Term, null, boolean, primitive, decimal, utf8, binary, structure, list, extension, fixed_size_list}
use Rattle.vortex_terms.specs.Types.{nullable}
use Rattle.vortex_terms.specs.Equality.{is_same}
use Rattle.vortex_terms.specs.EqualityLaws.{is_same-Decides}
use Rattle.vortex_terms.specs.Fits.{Fits}
use Rattle.vortex_terms.specs.FromColumns.{masked}
use Rattle.vortex_terms.specs.Order.{row_cmp}
use Rattle.vortex_terms.specs.Row.{Row, null_row, truth_row, whole_row, bytes_row, list_row, is_null, copies}
use Rattle.vortex_value.specs.Operator.{bears}
use Rattle.vortex_value.specs.declared.operator.Operator.{Operator}
use Rattle.vortex_scalar_value.specs.Value.{ValueTerm}
use Rattle.vortex_value_rows.specs.RowOf.{row_of, row_under}
use Rattle.vortex_value_rows.specs.RowLaws.{row_of-same}
use Rattle.vortex_node_rows.specs.RowsOf.{truth_of}
use Rattle.vortex_array_data.specs.ValidRows.{valid_rows}
use Rattle.vortex_array_compare.specs.Compared.{compared_rows, has_true}
use Rattle.vortex_array_compare.specs.inner.ComparedRows.{row_in, known_row, known_rows, row_truth, row_truths}
use Rattle.vortex_array_compare.specs.inner.AlikeRows.{AreAlike}

-- ---- whether the answer is nullable

pub either_is : (a b : Bool) (n m k : Nullability) → n ≡ nullability_of a → m ≡ nullability_of b → k ≡ either n m
    → is_nullable k ≡ (a || b)
either_is a b n m k p q r = ap is_nullable (r ∙ ap (λ (x : Nullability). either x m) p ∙ ap (either (nullability_of a)) q) ∙ by a b
  where
    by : (a b : Bool) → is_nullable (either (nullability_of a) (nullability_of b)) ≡ (a || b)
    by true b = refl
    by false true = refl
    by false false = refl

null_fits : (t : Term) → Fits t null_row → IsTrue (nullable t)
null_fits null h = refl
null_fits (boolean n) h = h
null_fits (primitive k n) h = h
null_fits (decimal p s n) h = h
null_fits (utf8 n) h = h
null_fits (binary n) h = h
null_fits (structure fs n) h = h
null_fits (list t n) h = h
null_fits (extension id t m) h = null_fits t h
null_fits (fixed_size_list t k n) h = h

-- no row of a type that is not nullable is null
not_null : (t : Term) (r : Row) → Fits t r → nullable t ≡ false → is_null r ≡ false
not_null t null_row h e = absurd (true≢false (sym (null_fits t h) ∙ e))
not_null t (truth_row b) h e = refl
not_null t (whole_row z) h e = refl
not_null t (bytes_row bs) h e = refl
not_null t (list_row rs) h e = refl

neither : (a b : Bool) → (a || b) ≡ false → (a ≡ false) × (b ≡ false)
neither true b e = absurd (true≢false e)
neither false b e = (refl, e)

all_known : (t : Term) (s : Row) (rs : List Row) → AllByRecursion (Fits t) rs → nullable t ≡ false → is_null s ≡ false
    → list_all (λ b. b) (known_rows s rs) ≡ true
all_known t s [] h e k = refl
all_known t s (r ∷ rs) h e k =
    ap (λ (b : Bool). not (b || is_null r) && list_all (λ b. b) (known_rows s rs)) k
    ∙ ap (λ (b : Bool). not b && list_all (λ b. b) (known_rows s rs)) (not_null t r h.0 e) ∙ all_known t s rs h.1 e k

-- where neither type is nullable, no row is null
pub left_bare : (t u : Term) (s : Row) (rs : List Row) (b : Bool) (m : List Bool) → AllByRecursion (Fits t) rs → Fits u s
    → b ≡ (nullable t || nullable u) → m ≡ known_rows s rs → b ≡ false → list_all (λ b. b) m ≡ true
left_bare t u s rs b m h f is e n =
    let none = neither (nullable t) (nullable u) (sym is ∙ n) in
    ap (list_all (λ b. b)) e ∙ all_known t s rs h none.0 (not_null u s f none.1)

-- ---- the rows of the answer

one_compared : (b c : Bool) → (if not b then truth_row (not b && c) else null_row) ≡ (if b then null_row else truth_row c)
one_compared true c = refl
one_compared false c = refl

compared : (o : Operator) (s : Row) (rs : List Row)
    → masked (Some (known_rows s rs)) (map truth_row (row_truths o s rs)) ≡ compared_rows o s rs
compared o s [] = refl
compared o s (r ∷ rs) =
    λ i. one_compared (is_null s || is_null r) (bears o (row_cmp r s)) i ∷ compared o s rs i

pub compared_is : (o : Operator) (s : Row) (rs held : List Row) (known truths : List Bool) → known ≡ known_rows s rs
    → truths ≡ row_truths o s rs → held ≡ masked (Some known) (map truth_row truths) → held ≡ compared_rows o s rs
compared_is o s rs held known truths e f is =
    is ∙ (λ i. masked (Some (e i)) (map truth_row (f i))) ∙ compared o s rs

one_true : (b c : Bool) → truth_of (if b then null_row else truth_row c) ≡ (not b && c)
one_true true c = refl
one_true false c = refl

any_is : (o : Operator) (s : Row) (rs : List Row) → has_true (compared_rows o s rs) ≡ list_any (λ b. b) (row_truths o s rs)
any_is o s [] = refl
any_is o s (r ∷ rs) =
    λ i. one_true (is_null s || is_null r) (bears o (row_cmp r s)) i || any_is o s rs i

-- a row of the answer is true where a truth value is
pub any_truth : (o : Operator) (s : Row) (rs held : List Row) (truths : List Bool) → truths ≡ row_truths o s rs
    → held ≡ compared_rows o s rs → IsTrue (has_true held) → IsTrue (list_any (λ b. b) truths)
any_truth o s rs held truths e is h =
    subst IsTrue (ap has_true is ∙ any_is o s rs ∙ ap (list_any (λ b. b)) (sym e)) h

-- ---- which rows are known

pub null_known : (s : Row) (rs : List Row) (n : ℕ) → is_null s ≡ true → n ≡ length rs
    → replicate n false ≡ known_rows s rs
null_known s rs n e is = ap (λ (k : ℕ). replicate k false) is ∙ by rs
  where
    by : (rs : List Row) → replicate (length rs) false ≡ known_rows s rs
    by [] = refl
    by (r ∷ rs) = λ i. not (sym e i || is_null r) ∷ by rs i

pub valid_known : (s : Row) (rs : List Row) → is_null s ≡ false → valid_rows rs ≡ known_rows s rs
valid_known s rs e = ap (λ (b : Bool). map (λ r. not (b || is_null r)) rs) (sym e)

-- ---- truth values

pub null_truths : (o : Operator) (s : Row) (rs : List Row) (n : ℕ) → is_null s ≡ true → n ≡ length rs
    → replicate n false ≡ row_truths o s rs
null_truths o s rs n e is = ap (λ (k : ℕ). replicate k false) is ∙ by rs
  where
    by : (rs : List Row) → replicate (length rs) false ≡ row_truths o s rs
    by [] = refl
    by (r ∷ rs) = λ i. (not (sym e i || is_null r) && bears o (row_cmp r s)) ∷ by rs i

none_any : (n : ℕ) → list_any (λ b. b) (replicate n false) ≡ false
none_any zero = refl
none_any (suc n) = none_any n

pub none_true : {X : Type 0} (n : ℕ) → IsTrue (list_any (λ b. b) (replicate n false)) → X
none_true n h = absurd (true≢false (sym h ∙ none_any n))

pub never_true : {X : Type 0} (n : ℕ) (m : List Bool) → m ≡ replicate n false → IsTrue (list_any (λ b. b) m) → X
never_true n m e h = none_true n (subst (λ (l : List Bool). IsTrue (list_any (λ b. b) l)) e h)

-- the value is the scalar's row under the array's type, too
pub known_value : (t u : Term) (v : ValueTerm) (r : Row) → IsTrue (is_same t u) → row_of u v ≡ Some r → row_of t v ≡ Some r
known_value t u v r same e = row_of-same t u v ((is_same-Decides t u).0 same) ∙ e

pub value_there : (t u : Term) (v : ValueTerm) (r : Row) → IsTrue (is_same t u) → row_of u v ≡ Some r → IsSome (row_of t v)
value_there t u v r same e = ap is_some (known_value t u v r same e)

pub value_under : (t u : Term) (v : ValueTerm) (r : Row) → IsTrue (is_same t u) → row_of u v ≡ Some r → row_under t v ≡ r
value_under t u v r same e = ap (λ (o : Option Row). unwrap_or o null_row) (known_value t u v r same e)

-- of rows that are all one row
alike : (o : Operator) (s : Row) (n : ℕ) (r : Row) → replicate n (row_truth o s r) ≡ row_truths o s (copies n r)
unfolding copies
alike o s zero r = refl
alike o s (suc n) r = ap (λ (l : List Bool). row_truth o s r ∷ l) (alike o s n r)

first_copy : (n : ℕ) (r : Row) → 0 < n → row_in (copies n r) 0 ≡ r
unfolding copies
first_copy zero r h = absurd (omega (arith, h))
first_copy (suc n) r h = refl

pub alike_truths : (o : Operator) (s : Row) (rs : List Row) (n : ℕ) (b : Bool) → AreAlike rs → n ≡ length rs → 0 < n
    → b ≡ row_truth o s (row_in rs 0) → replicate n b ≡ row_truths o s rs
alike_truths o s rs n b h is some e =
    let first : row_in rs 0 ≡ h.0 =
    ap (λ (l : List Row). row_in l 0) h.1 ∙ first_copy (length rs) h.0 (omega (arith, is, some)) in
    (λ i. replicate (is i) ((e ∙ ap (row_truth o s) first) i)) ∙ alike o s (length rs) h.0
    ∙ ap (row_truths o s) (sym h.1)

-- ---- a single row

-- a row at a place is known where it is not null, beside one that is not
pub row_known : (s : Row) (rs : List Row) (i : ℕ) (b : Bool) → is_null s ≡ false → slice_get (valid_rows rs) i ≡ Some b
    → known_row s (row_in rs i) ≡ b
row_known s [] i b e h = absurd (cc)
row_known s (r ∷ rs) zero b e h = ap (λ (c : Bool). not (c || is_null r)) e ∙ same (not (is_null r)) b h
  where
    same : (x y : Bool) → Some x ≡ Some y → x ≡ y
    same x y e = cc
row_known s (r ∷ rs) (suc i) b e h = row_known s rs i b e h

pub hidden_truth : (o : Operator) (s : Row) (rs : List Row) (i : ℕ) (b : Bool) → is_null s ≡ false
    → slice_get (valid_rows rs) i ≡ Some b → b ≡ false → false ≡ row_truth o s (row_in rs i)
hidden_truth o s rs i b e h n =
    sym (ap (λ (c : Bool). c && bears o (row_cmp (row_in rs i) s)) (row_known s rs i b e h ∙ n))

pub shown_truth : (o : Operator) (s : Row) (rs : List Row) (i : ℕ) (b c : Bool) → is_null s ≡ false
    → slice_get (valid_rows rs) i ≡ Some b → b ≡ true → c ≡ bears o (row_cmp (row_in rs i) s)
    → c ≡ row_truth o s (row_in rs i)
shown_truth o s rs i b c e h n is =
    is ∙ sym (ap (λ (d : Bool). d && bears o (row_cmp (row_in rs i) s)) (row_known s rs i b e h ∙ n))

-- ---- one more row

truths_next : (o : Operator) (s : Row) (rs : List Row) (i : ℕ) → i < length rs
    → row_truths o s (take (suc i) rs) ≡ row_truths o s (take i rs) ++ row_truth o s (row_in rs i) ∷ []
truths_next o s [] i h = absurd (omega (arith, h))
truths_next o s (r ∷ rs) zero h = refl
truths_next o s (r ∷ rs) (suc i) h =
    ap (λ (l : List Bool). row_truth o s r ∷ l) (truths_next o s rs i (omega (arith, h)))

pub truths_more : (o : Operator) (s : Row) (rs : List Row) (i : ℕ) (ts us : List Bool) (b : Bool) → i < length rs
    → ts ≡ row_truths o s (take i rs) → b ≡ row_truth o s (row_in rs i) → us ≡ ts ++ b ∷ []
    → us ≡ row_truths o s (take (i + 1) rs)
truths_more o s rs i ts us b h e f is =
    let next : suc i ≡ i + 1 = omega arith in
    is ∙ (λ j. e j ++ f j ∷ []) ∙ sym (truths_next o s rs i h) ∙ ap (λ (k : ℕ). row_truths o s (take k rs)) next

any_next : (ts : List Bool) (b : Bool) → list_any (λ b. b) (ts ++ b ∷ []) ≡ true → (list_any (λ b. b) ts ≡ false) → b ≡ true
any_next [] true h e = refl
any_next [] false h e = absurd (true≢false (sym h))
any_next (true ∷ ts) b h e = absurd (true≢false e)
any_next (false ∷ ts) b h e = any_next ts b h e

pub any_more : (ts us : List Bool) (b : Bool) (first now next : ℕ) → us ≡ ts ++ b ∷ []
    → (IsTrue (list_any (λ b. b) ts) → first < now) → (IsTrue b → now < next)
    → first < suc now → now < suc next → IsTrue (list_any (λ b. b) us) → first < next
any_more ts us b first now next is before here rise more h = by (list_any (λ b. b) ts) refl
  where
    by : (c : Bool) → list_any (λ b. b) ts ≡ c → first < next
    by true e = omega (arith, before e, more)
    by false e = omega (arith, here (any_next ts b (ap (list_any (λ b. b)) (sym is) ∙ h) e), rise)

-- ---- the lengths of masks

pub known_count : (s : Row) (rs : List Row) (m : List Bool) → m ≡ known_rows s rs → length m ≡ length rs
known_count s rs m e = ap length e ∙ length-map rs (known_row s)

pub truths_count : (o : Operator) (s : Row) (rs : List Row) (m : List Bool) → m ≡ row_truths o s rs → length m ≡ length rs
truths_count o s rs m e = ap length e ∙ length-map rs (row_truth o s)
