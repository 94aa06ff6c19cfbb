-- Numbers of another kind that have the same bits.
use Rattle.std.proofs.Common.{◌≡◌, ℕ, Bool, true, false, Some, refl, sym, ap, ◌∙◌}
use Rattle.std.specs.Prelude.{IsTrue}
use Rattle.vortex_number.specs.Format.{number_with_bits}
use Rattle.vortex_number.specs.PType.{format_of}
use Rattle.vortex_number.specs.WholeKind.{whole_kind, ptype_of}
use Rattle.vortex_number.specs.declared.ptype.PType.{PType}
use Rattle.vortex_number.specs.declared.ptype.PType.TheVariants as kinds
use Rattle.vortex_names.specs.Nullable.{is_nullable, nullability_of}
use Rattle.vortex_names.specs.declared.nullable.Nullability.{Nullability}
use Rattle.vortex_terms.specs.Term.{Term, null, boolean, primitive, decimal, utf8, binary, structure, list, extension, fixed_size_list}
use Rattle.vortex_terms.specs.Types.{nullable}
use Rattle.vortex_terms.specs.Row.{Row, null_row, whole_row}
use Rattle.vortex_terms.specs.Fits.{Fits}
use Rattle.vortex_types.specs.Accessors.{whole_kind_of}
use Rattle.vortex_types.specs.Predicates.{is_primitive}
use Rattle.vortex_value.specs.PValue.{kind_of, number_of, value_with_bits, value_bits}
use Rattle.vortex_value.specs.declared.pvalue.PValue.{PValue}
use Rattle.vortex_scalar.specs.ScalarTerm.{ScalarTerm}
use Rattle.vortex_scalar.specs.Made.{typed}
use Rattle.vortex_scalar.specs.Recast.{kind_in, same_bits, reinterpreted}

same_kind : (k : PType) → ptype_of (whole_kind k) ≡ k
same_kind kinds.U8 = refl
same_kind kinds.U16 = refl
same_kind kinds.U32 = refl
same_kind kinds.U64 = refl
same_kind kinds.I8 = refl
same_kind kinds.I16 = refl
same_kind kinds.I32 = refl
same_kind kinds.I64 = refl

-- the value of a kind that has these bits, under the kind's type
with_bits : (k : PType) (n : ℕ) (b : Bool)
    → typed (primitive (whole_kind (kind_of (value_with_bits k n))) b) (whole_row (number_of (value_with_bits k n)))
    ≡ typed (primitive (whole_kind k) b) (whole_row (number_with_bits (format_of k) n))
with_bits kinds.U8 n b = refl
with_bits kinds.U16 n b = refl
with_bits kinds.U32 n b = refl
with_bits kinds.U64 n b = refl
with_bits kinds.I8 n b = refl
with_bits kinds.I16 n b = refl
with_bits kinds.I32 n b = refl
with_bits kinds.I64 n b = refl

kind_is : (k : PType) (t : Term) → Some (whole_kind k) ≡ whole_kind_of t → kind_in t ≡ k
kind_is k (primitive l n) e = same e ∙ same_kind k
  where
    same : Some (whole_kind k) ≡ Some l → ptype_of l ≡ ptype_of (whole_kind k)
    same e = cc
kind_is k null e = absurd (cc)
kind_is k (boolean n) e = absurd (cc)
kind_is k (decimal p s n) e = absurd (cc)
kind_is k (utf8 n) e = absurd (cc)
kind_is k (binary n) e = absurd (cc)
kind_is k (structure fs n) e = absurd (cc)
kind_is k (list t n) e = absurd (cc)
kind_is k (extension id t m) e = absurd (cc)
kind_is k (fixed_size_list t j n) e = absurd (cc)

flag : (b : Bool) → is_nullable (nullability_of b) ≡ b
flag true = refl
flag false = refl

-- of a number
pub number_recast : (l : PType) (v : PValue) (w : PValue) (s r : ScalarTerm) (n : Nullability)
    → r ≡ typed (primitive (whole_kind (kind_of w)) (is_nullable n)) (whole_row (number_of w)) → w ≡ value_with_bits l (value_bits v)
    → n ≡ nullability_of (nullable s.dtype) → whole_row (number_of v) ≡ s.row → Some (whole_kind (kind_of v)) ≡ whole_kind_of s.dtype
    → r ≡ reinterpreted l s
number_recast l v w s r n made bits m row kind =
    made ∙ ap (λ x. typed (primitive (whole_kind (kind_of x)) (is_nullable n)) (whole_row (number_of x))) bits
    ∙ with_bits l (value_bits v) (is_nullable n)
    ∙ ap (λ b. typed (primitive (whole_kind l) b) (same_bits (kind_of v) l (whole_row (number_of v)))) (ap is_nullable m ∙ flag (nullable s.dtype))
    ∙ (λ i. typed (primitive (whole_kind l) (nullable s.dtype)) (same_bits (sym (kind_is (kind_of v) s.dtype kind) i) l (row i)))

-- of null
pub null_recast : (l : PType) (s r : ScalarTerm) (n : Nullability)
    → r ≡ typed (primitive (whole_kind l) (is_nullable n)) null_row → n ≡ nullability_of (nullable s.dtype) → null_row ≡ s.row → r ≡ reinterpreted l s
null_recast l s r n made m row =
    made ∙ (λ i. typed (primitive (whole_kind l) ((ap is_nullable m ∙ flag (nullable s.dtype)) i)) (same_bits (kind_in s.dtype) l (row i)))

null_fits : (t : Term) (r : Row) → null_row ≡ r → IsTrue (is_primitive t) → Fits t r → nullable t ≡ true
null_fits (primitive k true) r e p fits = refl
null_fits (primitive k false) null_row e p fits = absurd (cc)
null_fits (primitive k false) _ e p fits = absurd (cc)
null_fits _ r e p fits = absurd (cc)

pub null_allowed : (s : ScalarTerm) (n : Nullability) → n ≡ nullability_of (nullable s.dtype) → null_row ≡ s.row
    → IsTrue (is_primitive s.dtype) → Fits s.dtype s.row → IsTrue (is_nullable n)
null_allowed s n m row p fits = ap is_nullable m ∙ flag (nullable s.dtype) ∙ null_fits s.dtype s.row row p fits
