-- The results of operators as rows of a type.
use Rattle.std.proofs.Common.{◌≡◌, Bool, true, false, ◌⊎◌, inl, inr, Option, Some, None, ℤ, refl, sym, ap, subst, ◌∙◌}
use Rattle.std.specs.Prelude.{pos, negsuc, IsTrue, if◌then◌else◌}
use Rattle.std.specs.Option.{option_map}
use Rattle.std.proofs.lemmas.Option.{same_Some}
use Rattle.vortex_prelude.specs.Chain.{◌>>=◌}
use Rattle.vortex_number.specs.PType.{format_of, in_range}
use Rattle.vortex_number.specs.WholeKind.{whole_kind, ptype_of}
use Rattle.vortex_number.specs.declared.ptype.PType.{PType}
use Rattle.vortex_number.specs.declared.ptype.PType.TheVariants.{U8, U16, U32, U64, I8, I16, I32, I64}
use Rattle.vortex_number.proofs.Ranges.{same_range}
use Rattle.vortex_value.specs.PValue.{kind_of, number_of, value_of}
use Rattle.vortex_value.specs.declared.pvalue.PValue.{PValue}
use Rattle.vortex_value.specs.declared.numeric_operator.NumericOperator.{NumericOperator}
use Rattle.vortex_arithmetic.specs.Operated.{within, operated, operated_within}
use Rattle.vortex_terms.specs.Term.{WholeKind, Term, primitive}
use Rattle.vortex_terms.specs.Row.{Row, null_row, whole_row}
use Rattle.vortex_terms.specs.Tests.{is_in_range, is_fitting}
use Rattle.vortex_terms.specs.TestLaws.{is_in_range-Decides}
use Rattle.vortex_types.specs.Accessors.{whole_kind_of}
use Rattle.vortex_scalar.specs.Made.{typed}
use Rattle.vortex_scalar.specs.Arithmetic.{nullable_one, operated_row, combined}

-- ---- values of a kind

kind_back : (k : PType) (z : ℤ) → kind_of (value_of k z) ≡ k
kind_back U8 z = refl
kind_back U16 z = refl
kind_back U32 z = refl
kind_back U64 z = refl
kind_back I8 z = refl
kind_back I16 z = refl
kind_back I32 z = refl
kind_back I64 z = refl

number_back : (k : PType) (z : ℤ) → in_range k z ≡ true → number_of (value_of k z) ≡ z
number_back U8 (pos n) h = refl
number_back U16 (pos n) h = refl
number_back U32 (pos n) h = refl
number_back U64 (pos n) h = refl
number_back U8 (negsuc n) h = absurd cc
number_back U16 (negsuc n) h = absurd cc
number_back U32 (negsuc n) h = absurd cc
number_back U64 (negsuc n) h = absurd cc
number_back I8 z h = refl
number_back I16 z h = refl
number_back I32 z h = refl
number_back I64 z h = refl

numbers_back : (k : PType) (o : Option ℤ) → option_map number_of (option_map (value_of k) (within (format_of k) o)) ≡ within (format_of k) o
numbers_back k None = refl
numbers_back k (Some z) = by (in_range k z) refl
  where
    by : (b : Bool) → in_range k z ≡ b → option_map number_of (option_map (value_of k) (if b then Some z else None)) ≡ (if b then Some z else None)
    by true h = ap Some (number_back k z h)
    by false h = refl

-- the number of the result
pub result_number : (k : PType) (op : NumericOperator) (a b : PValue) (r : Option PValue) → kind_of a ≡ k
    → r ≡ option_map (value_of (kind_of a)) (operated_within (kind_of a) op (number_of a) (number_of b))
    → option_map number_of r ≡ operated_within k op (number_of a) (number_of b)
result_number k op a b r e h =
    ap (option_map number_of) h
    ∙ ap (λ l. option_map number_of (option_map (value_of l) (operated_within l op (number_of a) (number_of b)))) e
    ∙ numbers_back k (operated op (number_of a) (number_of b))

-- ---- kinds in types

ptype_back : (k : PType) → ptype_of (whole_kind k) ≡ k
ptype_back U8 = refl
ptype_back U16 = refl
ptype_back U32 = refl
ptype_back U64 = refl
ptype_back I8 = refl
ptype_back I16 = refl
ptype_back I32 = refl
ptype_back I64 = refl

-- types of one kind have one kind
pub same_kind : (t u : Term) (k l : PType) → whole_kind_of t ≡ Some (whole_kind k) → whole_kind_of u ≡ Some (whole_kind l)
    → whole_kind_of t ≡ whole_kind_of u → l ≡ k
same_kind t u k l e f h =
    sym (ptype_back l) ∙ ap ptype_of (same_Some (whole_kind l) (whole_kind k) (sym f ∙ sym h ∙ e)) ∙ ptype_back k

either_kind : (b : Bool) (t u : Term) (o : Option WholeKind) → whole_kind_of t ≡ o → whole_kind_of u ≡ o → whole_kind_of (if b then t else u) ≡ o
either_kind true t u o e f = e
either_kind false t u o e f = f

pub one_kind : (t u v : Term) (o : Option WholeKind) → v ≡ nullable_one t u → whole_kind_of t ≡ o → whole_kind_of t ≡ whole_kind_of u → whole_kind_of v ≡ o
one_kind t u v o d e f = ap whole_kind_of d ∙ either_kind _ t u o e (sym f ∙ e)

-- ---- the result fits its type

null_fits : (l m : WholeKind) (n p : Bool) → (n ≡ true) ⊎ (p ≡ true) → IsTrue (is_fitting (nullable_one (primitive l n) (primitive m p)) null_row)
null_fits l m true p h = refl
null_fits l m false p (inl e) = absurd cc
null_fits l m false p (inr e) = e

in_kind : (k : PType) (z : ℤ) → in_range k z ≡ true → IsTrue (is_in_range (whole_kind k) z)
in_kind k z h = (is_in_range-Decides (whole_kind k) z).1 ((same_range k z).0 h)

whole_fits : (k : PType) (n p : Bool) (z : ℤ) → in_range k z ≡ true → IsTrue (is_fitting (nullable_one (primitive (whole_kind k) n) (primitive (whole_kind k) p)) (whole_row z))
whole_fits k true p z h = in_kind k z h
whole_fits k false p z h = in_kind k z h

number_fits : (k : PType) (n p : Bool) (o : Option ℤ) (q : Row) → option_map whole_row (within (format_of k) o) ≡ Some q
    → IsTrue (is_fitting (nullable_one (primitive (whole_kind k) n) (primitive (whole_kind k) p)) q)
number_fits k n p None q e = absurd cc
number_fits k n p (Some z) q e = by (in_range k z) refl e
  where
    by : (b : Bool) → in_range k z ≡ b → option_map whole_row (if b then Some z else None) ≡ Some q
        → IsTrue (is_fitting (nullable_one (primitive (whole_kind k) n) (primitive (whole_kind k) p)) q)
    by true h f = subst (λ x. IsTrue (is_fitting (nullable_one (primitive (whole_kind k) n) (primitive (whole_kind k) p)) x)) (same_Some (whole_row z) q f) (whole_fits k n p z h)
    by false h f = absurd cc

module _ (k : PType) (op : NumericOperator) (n p : Bool) where
  abbrev left_type : Term
  left_type = primitive (whole_kind k) n

  abbrev right_type : Term
  right_type = primitive (whole_kind k) p

  fits_of : (r s q : Row) → IsTrue (is_fitting left_type r) → IsTrue (is_fitting right_type s) → operated_row k op r s ≡ Some q
      → IsTrue (is_fitting (nullable_one left_type right_type) q)
  fits_of null_row s q f g e = subst (λ x. IsTrue (is_fitting (nullable_one left_type right_type) x)) (same_Some null_row q e) (null_fits _ _ n p (inl f))
  fits_of (whole_row a) null_row q f g e = subst (λ x. IsTrue (is_fitting (nullable_one left_type right_type) x)) (same_Some null_row q e) (null_fits _ _ n p (inr g))
  fits_of (whole_row a) (whole_row b) q f g e = number_fits k n p (operated op a b) q e
  fits_of (whole_row a) _ q f g e = absurd cc
  fits_of _ s q f g e = absurd cc

pub one_fits : (op : NumericOperator) (t u v : Term) (k : PType) (r s q : Row) → v ≡ nullable_one t u
    → whole_kind_of t ≡ Some (whole_kind k) → whole_kind_of u ≡ Some (whole_kind k)
    → IsTrue (is_fitting t r) → IsTrue (is_fitting u s) → operated_row k op r s ≡ Some q → IsTrue (is_fitting v q)
one_fits op (primitive l n) (primitive m p) v k r s q d e f x y h =
    let left = same_Some l (whole_kind k) e in
    let right = same_Some m (whole_kind k) f in
    let fits = fits_of k op n p r s q (subst (λ a. IsTrue (is_fitting (primitive a n) r)) left x) (subst (λ a. IsTrue (is_fitting (primitive a p) s)) right y) h in
    subst (λ a. IsTrue (is_fitting a q)) (sym (d ∙ λ i. nullable_one (primitive (left i) n) (primitive (right i) p))) fits
one_fits op (primitive l n) _ v k r s q d e f x y h = absurd cc
one_fits op _ u v k r s q d e f x y h = absurd cc

-- ---- the scalar

combined_is : (op : NumericOperator) (t u : Term) (k : PType) (r s : Row) → whole_kind_of t ≡ Some (whole_kind k)
    → combined op (typed t r) (typed u s) ≡ option_map (typed (nullable_one t u)) (operated_row k op r s)
combined_is op t u k r s e =
    ap (λ (o : Option WholeKind). o >>= λ l. operated_row (ptype_of l) op r s >>= λ q. Some (typed (nullable_one t u) q)) e
    ∙ ap (λ (l : PType). operated_row l op r s >>= λ q. Some (typed (nullable_one t u) q)) (ptype_back k)
    ∙ mapped (operated_row k op r s)
  where
    mapped : (o : Option Row) → (o >>= λ q. Some (typed (nullable_one t u) q)) ≡ option_map (typed (nullable_one t u)) o
    mapped (Some q) = refl
    mapped None = refl

pub combined_some : (op : NumericOperator) (t u v : Term) (k : PType) (r s q : Row) → v ≡ nullable_one t u
    → whole_kind_of t ≡ Some (whole_kind k) → operated_row k op r s ≡ Some q
    → Some (typed v q) ≡ combined op (typed t r) (typed u s)
combined_some op t u v k r s q d e h =
    ap (λ a. Some (typed a q)) d ∙ ap (option_map (typed (nullable_one t u))) (sym h) ∙ sym (combined_is op t u k r s e)

pub combined_none : (op : NumericOperator) (t u : Term) (k : PType) (r s : Row)
    → whole_kind_of t ≡ Some (whole_kind k) → operated_row k op r s ≡ None
    → None ≡ combined op (typed t r) (typed u s)
combined_none op t u k r s e h =
    ap (option_map (typed (nullable_one t u))) (sym h) ∙ sym (combined_is op t u k r s e)
