-- The laws of the order of rows: it is total, says Equal exactly of a row and itself, puts null
-- first, and is Rust's order on what rows hold.
use Rattle.std.specs.Prelude.{◌≡◌, ◌≢◌, ◌<◌, ◌≤◌, ◌<ℤ◌, ℕ, pos, Bool, true, false, refl}
use Rattle.std.specs.declared.cmp.Ordering.{Ordering}
use Rattle.std.specs.declared.cmp.Ordering.TheVariants.{Less, Equal, Greater}
use Rattle.std.specs.Ordering.{nat_cmp, int_cmp, bool_cmp, ordering_then, ordering_reverse, is_eq, MatchOrdering}
use Rattle.std.specs.Bool.{Decides}
use Rattle.std.specs.Cmp.{int_cmp_is, ranked, IsTotalOrder, int_cmp_total, bool_cmp_total, tied_itself, Equal-is}
use Rattle.std.specs.Cmp.Lexicographic.{slice_cmp, nat_list_cmp_total}
use Rattle.std.specs.FinMap.{nat_cmp-IsAntisymmetric, int_cmp-IsAntisymmetric, slice_cmp-IsAntisymmetric}
use lib.Dec.{T, eqb}
use lib.Signed.{lt_z_yes}
use borrow.Author.Tests.{eq-eqb, lt-ltb}
use Rattle.std.proofs.lemmas.Bool.{cases_lt}
use Rattle.std.proofs.Common.{true≢false, ◌&&◌, subst, ⊎_elim, ap, sym, ◌∙◌, arith}
use Rattle.vortex_terms.specs.Row.{Row, null_row, truth_row, whole_row, bytes_row, list_row, Rows, no_rows, row, row_list, form_of}
use Rattle.vortex_terms.specs.Order.{form_number, row_cmp, rows_cmp, row_eq}

-- ---- Equal is said of a row and itself alone

bool_cmp-Equal : (a b : Bool) → bool_cmp a b ≡ Equal → a ≡ b
bool_cmp-Equal false false e = refl
bool_cmp-Equal true true e = refl
bool_cmp-Equal false true e = cc
bool_cmp-Equal true false e = cc

then-Equal : (o q : Ordering) → ordering_then o q ≡ Equal → (o ≡ Equal) × (q ≡ Equal)
then-Equal Less q e = cc
then-Equal Equal q e = (refl, e)
then-Equal Greater q e = cc

mutual
  pub row_cmp-Equal : (r s : Row) → row_cmp r s ≡ Equal → r ≡ s
  row_cmp-Equal null_row null_row e = refl
  row_cmp-Equal (truth_row a) (truth_row b) e = ap truth_row (bool_cmp-Equal a b e)
  row_cmp-Equal (whole_row a) (whole_row b) e = ap whole_row (int_cmp-IsAntisymmetric a b e)
  row_cmp-Equal (bytes_row a) (bytes_row b) e =
      ap bytes_row (slice_cmp-IsAntisymmetric nat_cmp-IsAntisymmetric a b e)
  row_cmp-Equal (list_row rs) (list_row ss) e = ap list_row (rows_cmp-Equal rs ss e)
  row_cmp-Equal _ _ e = cc

  pub rows_cmp-Equal : (rs ss : Rows) → rows_cmp rs ss ≡ Equal → rs ≡ ss
  rows_cmp-Equal no_rows no_rows e = refl
  rows_cmp-Equal no_rows (row s ss) e = cc
  rows_cmp-Equal (row r rs) no_rows e = cc
  rows_cmp-Equal (row r rs) (row s ss) e = let both = then-Equal (row_cmp r s) (rows_cmp rs ss)
      e in λ i. row (row_cmp-Equal r s both.0 i) (rows_cmp-Equal rs ss both.1 i)

-- ---- the other way round

then-reverse : (o q : Ordering)
    → ordering_reverse (ordering_then o q) ≡ ordering_then (ordering_reverse o) (ordering_reverse q)
then-reverse Less q = refl
then-reverse Equal q = refl
then-reverse Greater q = refl

mutual
  row_cmp-reverse : (r s : Row) → row_cmp r s ≡ ordering_reverse (row_cmp s r)
  row_cmp-reverse null_row null_row = refl
  row_cmp-reverse (truth_row a) (truth_row b) = bool_cmp_total.antisymm a b
  row_cmp-reverse (whole_row a) (whole_row b) = int_cmp_total.antisymm a b
  row_cmp-reverse (bytes_row a) (bytes_row b) = nat_list_cmp_total.antisymm a b
  row_cmp-reverse (list_row rs) (list_row ss) = rows_cmp-reverse rs ss
  row_cmp-reverse _ _ = refl

  rows_cmp-reverse : (rs ss : Rows) → rows_cmp rs ss ≡ ordering_reverse (rows_cmp ss rs)
  rows_cmp-reverse no_rows no_rows = refl
  rows_cmp-reverse no_rows (row s ss) = refl
  rows_cmp-reverse (row r rs) no_rows = refl
  rows_cmp-reverse (row r rs) (row s ss) =
      (λ i. ordering_then (row_cmp-reverse r s i) (rows_cmp-reverse rs ss i))
      ∙ sym (then-reverse (row_cmp s r) (rows_cmp ss rs))

-- ---- less than what is less

then-Less : (a b c p q r : Ordering) → (a ≡ Less → b ≡ Less → c ≡ Less) → (a ≡ Equal → c ≡ b)
    → (b ≡ Equal → c ≡ a) → (p ≡ Less → q ≡ Less → r ≡ Less) → ordering_then a p ≡ Less
    → ordering_then b q ≡ Less → ordering_then c r ≡ Less
then-Less Less Less c p q r f g h k l m = rw (f refl refl) refl
then-Less Less Equal c p q r f g h k l m = rw (h refl) refl
then-Less Equal Less c p q r f g h k l m = rw (g refl) refl
then-Less Equal Equal c p q r f g h k l m = rw (g refl) (k l m)
then-Less Less Greater c p q r f g h k l m = cc
then-Less Equal Greater c p q r f g h k l m = cc
then-Less Greater b c p q r f g h k l m = cc

-- the place of a row's form in the order
abbrev place_of_form : Row → ℕ
place_of_form r = form_number (form_of r)

-- what is less has no later form
form-rises : (r s : Row) → row_cmp r s ≡ Less → place_of_form r ≤ place_of_form s
form-rises null_row null_row h = omega arith
form-rises (truth_row a) (truth_row b) h = omega arith
form-rises (whole_row a) (whole_row b) h = omega arith
form-rises (bytes_row a) (bytes_row b) h = omega arith
form-rises (list_row rs) (list_row ss) h = omega arith
form-rises _ _ h = first_of (cc, omega arith)

-- and what has an earlier form is less
pub form-Less : (r s : Row) → form_number (form_of r) < form_number (form_of s) → row_cmp r s ≡ Less
form-Less null_row null_row h = absurd (omega arith)
form-Less (truth_row a) (truth_row b) h = absurd (omega arith)
form-Less (whole_row a) (whole_row b) h = absurd (omega arith)
form-Less (bytes_row a) (bytes_row b) h = absurd (omega arith)
form-Less (list_row rs) (list_row ss) h = absurd (omega arith)
form-Less _ _ h = first_of (cc, grind arith)

-- whether the three rows have one form
abbrev is_one_form : Row → Row → Row → Bool
is_one_form r s t =
    eqb (place_of_form r) (place_of_form s) && eqb (place_of_form s) (place_of_form t)

one_form : (a b c : ℕ) → a ≡ b → b ≡ c → eqb a b && eqb b c ≡ true
one_form a b c e f = rw (eq-eqb a b e, eq-eqb b c f) refl

-- rows that are not of one form are in order by their forms
forms-trans : (r s t : Row) → is_one_form r s t ≡ false → row_cmp r s ≡ Less → row_cmp s t ≡ Less
    → row_cmp r t ≡ Less
forms-trans r s t other h k =
    let up = form-rises r s h in
    let next = form-rises s t k in
    ⊎_elim (λ below. form-Less r t below)
    (λ above. absurd (true≢false
    (sym (one_form (place_of_form r) (place_of_form s) (place_of_form t) (omega arith)
    (omega arith)) ∙ other)))
    (cases_lt (place_of_form r) (place_of_form t))

Equal-is_not_Less : Equal ≡ Less → ⊥
Equal-is_not_Less e = cc

mutual
  row_cmp-trans : (r s t : Row) → row_cmp r s ≡ Less → row_cmp s t ≡ Less → row_cmp r t ≡ Less
  row_cmp-trans null_row null_row null_row h k = absurd (Equal-is_not_Less h)
  row_cmp-trans (truth_row a) (truth_row b) (truth_row c) h k = bool_cmp_total.trans a b c h k
  row_cmp-trans (whole_row a) (whole_row b) (whole_row c) h k = int_cmp_total.trans a b c h k
  row_cmp-trans (bytes_row a) (bytes_row b) (bytes_row c) h k = nat_list_cmp_total.trans a b c h k
  row_cmp-trans (list_row rs) (list_row ss) (list_row ts) h k = rows_cmp-trans rs ss ts h k
  row_cmp-trans r s t h k = forms-trans r s t refl h k

  rows_cmp-trans : (rs ss ts : Rows) → rows_cmp rs ss ≡ Less → rows_cmp ss ts ≡ Less
      → rows_cmp rs ts ≡ Less
  rows_cmp-trans no_rows (row s ss) (row t ts) h k = refl
  rows_cmp-trans (row r rs) (row s ss) (row t ts) h k =
      then-Less (row_cmp r s) (row_cmp s t) (row_cmp r t) (rows_cmp rs ss) (rows_cmp ss ts)
      (rows_cmp rs ts)
      (row_cmp-trans r s t)
      (λ e. ap (λ x. row_cmp x t) (row_cmp-Equal r s e))
      (λ e. ap (λ x. row_cmp r x) (sym (row_cmp-Equal s t e)))
      (rows_cmp-trans rs ss ts) h k
  rows_cmp-trans _ _ _ h k = cc

-- ---- the laws

pub row_cmp_total : IsTotalOrder row_cmp
row_cmp_total = record {
  antisymm = row_cmp-reverse;
  trans = row_cmp-trans;
  congr = λ r s t e. ap (λ x. row_cmp x t) (row_cmp-Equal r s e);
}

pub rows_cmp_total : IsTotalOrder rows_cmp
rows_cmp_total = record {
  antisymm = rows_cmp-reverse;
  trans = rows_cmp-trans;
  congr = λ rs ss ts e. ap (λ x. rows_cmp x ts) (rows_cmp-Equal rs ss e);
}

-- Equal exactly at equality
pub row_cmp-itself : (r : Row) → row_cmp r r ≡ Equal
row_cmp-itself r = tied_itself row_cmp_total r

pub row_eq-Decides : (r s : Row) → Decides (row_eq r s) (r ≡ s)
row_eq-Decides r s = (
  λ e. row_cmp-Equal r s ((Equal-is (row_cmp r s)).0 e),
  λ e. ap (λ x. is_eq (row_cmp r x)) (sym e) ∙ ap is_eq (row_cmp-itself r),
)

-- null comes first
pub row_cmp-null : (r : Row) → r ≢ null_row → row_cmp null_row r ≡ Less
row_cmp-null null_row n = absurd (n refl)
row_cmp-null (truth_row b) n = refl
row_cmp-null (whole_row z) n = refl
row_cmp-null (bytes_row bs) n = refl
row_cmp-null (list_row rs) n = refl

-- lists of rows compare as slices do
pub rows_cmp-slices : (rs ss : Rows)
    → rows_cmp rs ss ≡ slice_cmp row_cmp (row_list rs) (row_list ss)
rows_cmp-slices no_rows no_rows = refl
rows_cmp-slices no_rows (row s ss) = refl
rows_cmp-slices (row r rs) no_rows = refl
rows_cmp-slices (row r rs) (row s ss) = ap (ordering_then (row_cmp r s)) (rows_cmp-slices rs ss)

-- numbers that are not negative compare as unsigned ones do
pub int_cmp-pos : (a b : ℕ) → int_cmp (pos a) (pos b) ≡ nat_cmp a b
int_cmp-pos a b =
    sym (int_cmp_is (pos a) (pos b) (nat_cmp a b)
    (ranks (nat_cmp a b) (ranked a b (nat_cmp a b) refl)))
  where
    ranks : (o : Ordering) → MatchOrdering o (a < b) (a ≡ b) (b < a)
        → MatchOrdering o (pos a <ℤ pos b) (pos a ≡ pos b) (pos b <ℤ pos a)
    ranks Less h = lt_z_yes (subst T (sym (lt-ltb a b h)) tt)
    ranks Equal h = ap pos h
    ranks Greater h = lt_z_yes (subst T (sym (lt-ltb b a h)) tt)
