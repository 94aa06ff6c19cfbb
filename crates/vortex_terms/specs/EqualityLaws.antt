-- The laws of the tests of equality.
--     term_eq-Decides, fields_eq-Decides, is_same-Decides      they are true exactly at equality,
--         and at equality apart from nullability
--     Same-itself, Same-back, Same-along    being the same apart from nullability is an equivalence
use Rattle.std.specs.Prelude.{◌≡◌, ℕ, Bool, true, ◌&&◌, nat_eq, List, Option, Some, None, refl}
use Rattle.std.specs.Bool.{Decides, beq}
use Rattle.std.specs.Option.{option_eq}
use Rattle.std.specs.Ordering.{int_eq}
use Rattle.std.specs.Str.{bytes_eq}
use Rattle.std.specs.Cmp.{first_so, second_so, unsigned_Decides, signed_Decides, booleans_Decides}
use Rattle.std.specs.Cmp.Lexicographic.{bytes_decides}
use Rattle.std.proofs.Common.{ap, sym, ◌∙◌, subst, true≢false}
use Rattle.vortex_terms.specs.Term.{WholeKind, Term, null, boolean, primitive, decimal, utf8, binary, structure, list, extension, fixed_size_list, Fields, no_fields, field}
use Rattle.vortex_terms.specs.Types.{bare, Same}
use Rattle.vortex_terms.specs.TermCode.{kind_number, kind_number-inj}
use Rattle.vortex_terms.specs.Equality.{kind_eq, term_eq, fields_eq, is_same}

and-both : (a b : Bool) → a && b ≡ true → (a ≡ true) × (b ≡ true)
and-both a b h = (first_so a b h, second_so a b h)

and-three : (a b c : Bool) → a && b && c ≡ true → (a ≡ true) × (b ≡ true) × (c ≡ true)
and-three a b c h = (
  first_so a b (first_so (a && b) c h),
  second_so a b (first_so (a && b) c h),
  second_so (a && b) c h,
)

metadata_eq-true : (m l : Option (List ℕ)) → option_eq bytes_eq m l ≡ true → m ≡ l
metadata_eq-true None None h = refl
metadata_eq-true (Some x) (Some y) h = ap Some ((bytes_decides x y).0 h)
metadata_eq-true _ _ h = absurd (true≢false (sym h))

metadata_eq-itself : (m : Option (List ℕ)) → option_eq bytes_eq m m ≡ true
metadata_eq-itself None = refl
metadata_eq-itself (Some x) = (bytes_decides x x).1 refl

pub kind_eq-true : (k l : WholeKind) → kind_eq k l ≡ true → k ≡ l
kind_eq-true k l h = kind_number-inj k l ((unsigned_Decides (kind_number k) (kind_number l)).0 h)

pub kind_eq-Decides : (k l : WholeKind) → Decides (kind_eq k l) (k ≡ l)
kind_eq-Decides k l =
    (kind_eq-true k l, λ e. (unsigned_Decides (kind_number k) (kind_number l)).1 (ap kind_number e))

mutual
  pub term_eq-true : (t u : Term) → term_eq t u ≡ true → t ≡ u
  term_eq-true null null h = refl
  term_eq-true (boolean n) (boolean m) h = ap boolean ((booleans_Decides n m).0 h)
  term_eq-true (primitive k n) (primitive l m) h = let both = and-both (kind_eq k l) (beq n m)
      h in λ i. primitive (kind_eq-true k l both.0 i) ((booleans_Decides n m).0 both.1 i)
  term_eq-true (decimal p s n) (decimal q r m) h = let three = and-three (nat_eq p q) (int_eq s r)
      (beq n m) h in λ i. decimal ((unsigned_Decides p q).0 three.0 i)
      ((signed_Decides s r).0 three.1 i) ((booleans_Decides n m).0 three.2 i)
  term_eq-true (utf8 n) (utf8 m) h = ap utf8 ((booleans_Decides n m).0 h)
  term_eq-true (binary n) (binary m) h = ap binary ((booleans_Decides n m).0 h)
  term_eq-true (structure fs n) (structure gs m) h = let both = and-both (beq n m) (fields_eq fs gs)
      h in λ i. structure (fields_eq-true fs gs both.1 i) ((booleans_Decides n m).0 both.0 i)
  term_eq-true (list t n) (list u m) h = let both = and-both (beq n m) (term_eq t u) h in λ i. list
      (term_eq-true t u both.1 i) ((booleans_Decides n m).0 both.0 i)
  term_eq-true (extension id t m) (extension jd u l) h = let three = and-three (bytes_eq id jd)
      (option_eq bytes_eq m l) (term_eq t u) h in λ i. extension ((bytes_decides id jd).0 three.0 i)
      (term_eq-true t u three.2 i) (metadata_eq-true m l three.1 i)
  term_eq-true (fixed_size_list t k n) (fixed_size_list u l m) h = let three = and-three (beq n m)
      (nat_eq k l) (term_eq t u) h in λ i. fixed_size_list (term_eq-true t u three.2 i)
      ((unsigned_Decides k l).0 three.1 i) ((booleans_Decides n m).0 three.0 i)
  term_eq-true _ _ h = absurd (true≢false (sym h))

  pub fields_eq-true : (fs gs : Fields) → fields_eq fs gs ≡ true → fs ≡ gs
  fields_eq-true no_fields no_fields h = refl
  fields_eq-true (field x t fs) (field y u gs) h = let three = and-three (bytes_eq x y)
      (term_eq t u) (fields_eq fs gs) h in λ i. field ((bytes_decides x y).0 three.0 i)
      (term_eq-true t u three.1 i) (fields_eq-true fs gs three.2 i)
  fields_eq-true _ _ h = absurd (true≢false (sym h))

mutual
  pub term_eq-itself : (t : Term) → term_eq t t ≡ true
  term_eq-itself null = refl
  term_eq-itself (boolean n) = (booleans_Decides n n).1 refl
  term_eq-itself (primitive k n) =
      λ i. (unsigned_Decides (kind_number k) (kind_number k)).1 refl i && (booleans_Decides n n).1
      refl i
  term_eq-itself (decimal p s n) =
      λ i. (unsigned_Decides p p).1 refl i && (signed_Decides s s).1 refl i &&
      (booleans_Decides n n).1 refl i
  term_eq-itself (utf8 n) = (booleans_Decides n n).1 refl
  term_eq-itself (binary n) = (booleans_Decides n n).1 refl
  term_eq-itself (structure fs n) = λ i. (booleans_Decides n n).1 refl i && fields_eq-itself fs i
  term_eq-itself (list t n) = λ i. (booleans_Decides n n).1 refl i && term_eq-itself t i
  term_eq-itself (extension id t m) =
      λ i. (bytes_decides id id).1 refl i && metadata_eq-itself m i && term_eq-itself t i
  term_eq-itself (fixed_size_list t k n) =
      λ i. (booleans_Decides n n).1 refl i && (unsigned_Decides k k).1 refl i && term_eq-itself t i

  pub fields_eq-itself : (fs : Fields) → fields_eq fs fs ≡ true
  fields_eq-itself no_fields = refl
  fields_eq-itself (field x t fs) =
      λ i. (bytes_decides x x).1 refl i && term_eq-itself t i && fields_eq-itself fs i

pub term_eq-Decides : (t u : Term) → Decides (term_eq t u) (t ≡ u)
term_eq-Decides t u = (term_eq-true t u, λ e. subst (λ x. term_eq t x ≡ true) e (term_eq-itself t))

pub fields_eq-Decides : (fs gs : Fields) → Decides (fields_eq fs gs) (fs ≡ gs)
fields_eq-Decides fs gs =
    (fields_eq-true fs gs, λ e. subst (λ x. fields_eq fs x ≡ true) e (fields_eq-itself fs))

pub is_same-Decides : (t u : Term) → Decides (is_same t u) (Same t u)
is_same-Decides t u = term_eq-Decides (bare t) (bare u)

-- ---- the same apart from nullability

pub Same-itself : (t : Term) → Same t t
Same-itself t = refl

pub Same-back : (t u : Term) → Same t u → Same u t
Same-back t u h = sym h

pub Same-along : (t u v : Term) → Same t u → Same u v → Same t v
Same-along t u v h k = h ∙ k
