-- Casts of values that hold no values.
use Rattle.std.proofs.Common.{◌≡◌, ℕ, ℤ, pos, negsuc, Bool, true, false, Option, Some, None, Result, Ok, Err, refl, sym, ap, subst, ◌∙◌, true≢false, inl, inr}
use Rattle.std.specs.Prelude.{if◌then◌else◌, ok_or, FitsSigned}
use Rattle.std.specs.Int.{w128}
use Rattle.std.specs.Option.{option_map}
use Rattle.vortex_number.specs.PType.{in_range}
use Rattle.vortex_number.specs.WholeKind.{whole_kind, ptype_of}
use Rattle.vortex_number.specs.declared.ptype.PType.{PType}
use Rattle.vortex_number.specs.declared.ptype.PType.TheVariants.{U8, U16, U32, U64, I8, I16, I32, I64}
use Rattle.vortex_names.specs.Nullable.{is_nullable, nullability_of}
use Rattle.vortex_names.specs.declared.nullable.Nullability.{Nullability}
use Rattle.vortex_value.specs.PValue.{number_of, value_of}
use Rattle.vortex_terms.specs.Term.{Term, null, boolean, primitive, decimal, utf8, binary, structure, list, extension, fixed_size_list}
use Rattle.vortex_terms.specs.Types.{nullable}
use Rattle.vortex_terms.specs.Row.{null_row, whole_row}
use Rattle.vortex_arithmetic.specs.Scaled.{tens, rescaled, whole_of}
use Rattle.vortex_arithmetic.proofs.Exact.{exact}
use Rattle.std.specs.Prelude.{◌*ℤ◌, IfOk, IsOkUnless}
use Rattle.vortex_scalar_value.specs.Value.{ValueTerm, null_value, truth_value, whole_value, decimal_value, bytes_value, text_value, list_value}
use Rattle.vortex_scalar_value.specs.declared.error.ScalarError.{ScalarError}
use Rattle.vortex_scalar_value.specs.declared.error.ScalarError.TheVariants as error
use Rattle.vortex_value_rows.specs.RowOf.{row_of}
use Rattle.vortex_cast.specs.Cast.{in_range_or, decimal_cast}
use Rattle.vortex_cast.specs.Answers.{IsCast}
use Rattle.vortex_cast.specs.inner.Steps.{IsShared, IsNumber, pvalue_term}
use Rattle.vortex_cast.proofs.Ranges.{whole_in_range}

-- ---- null

pub null_row_of : (u : Term) → row_of u null_value ≡ Some null_row
null_row_of null = refl
null_row_of (boolean n) = refl
null_row_of (primitive k n) = refl
null_row_of (decimal p s n) = refl
null_row_of (utf8 n) = refl
null_row_of (binary n) = refl
null_row_of (structure fs n) = refl
null_row_of (list t n) = refl
null_row_of (extension id t m) = null_row_of t
null_row_of (fixed_size_list t k n) = refl

flag_kept : (b : Bool) → is_nullable (nullability_of b) ≡ b
flag_kept true = refl
flag_kept false = refl

pub nullable_is : (u : Term) (m : Nullability) → true ≡ is_nullable m → m ≡ nullability_of (nullable u) → nullable u ≡ true
nullable_is u m e f = sym (e ∙ ap is_nullable f ∙ flag_kept (nullable u))

pub null_is_cast : (u : Term) (v : ValueTerm) → v ≡ null_value → nullable u ≡ true
    → IsCast (row_of u) (Ok v) (if nullable u then Ok null_row else Err error.CastNull)
null_is_cast u v e n =
    rw n (ap (row_of u) e ∙ null_row_of u)

-- ---- numbers

-- a number in range is that of its value
pub number_kept : (k : PType) (z : ℤ) → in_range k z ≡ true → number_of (value_of k z) ≡ z
number_kept U8 (pos n) h = refl
number_kept U16 (pos n) h = refl
number_kept U32 (pos n) h = refl
number_kept U64 (pos n) h = refl
number_kept I8 z h = refl
number_kept I16 z h = refl
number_kept I32 z h = refl
number_kept I64 z h = refl
number_kept U8 (negsuc n) h = absurd (true≢false (sym h))
number_kept U16 (negsuc n) h = absurd (true≢false (sym h))
number_kept U32 (negsuc n) h = absurd (true≢false (sym h))
number_kept U64 (negsuc n) h = absurd (true≢false (sym h))

pub kind_kept : (k : PType) → ptype_of (whole_kind k) ≡ k
kind_kept U8 = refl
kind_kept U16 = refl
kind_kept U32 = refl
kind_kept U64 = refl
kind_kept I8 = refl
kind_kept I16 = refl
kind_kept I32 = refl
kind_kept I64 = refl

-- a value whose number is found
found_is : (k : PType) (n : Bool) (o : Option ℤ) → ((w : ℤ) → o ≡ Some w → in_range k w ≡ true) → (x : Result ValueTerm ScalarError)
    → x ≡ ok_or (option_map pvalue_term (option_map (value_of k) o)) error.CastRange
    → IsCast (row_of (primitive (whole_kind k) n)) x (in_range_or o)
found_is k n (Some w) h x e =
    subst (λ y. IsCast (row_of (primitive (whole_kind k) n)) y (in_range_or (Some w))) (sym e)
    (ap (λ z. Some (whole_row z)) (number_kept k w (h w refl)))
found_is k n None h x e =
    subst (λ y. IsCast (row_of (primitive (whole_kind k) n)) y (in_range_or None)) (sym e) (inr refl)

-- a decimal as a whole number
decimal_of_kind : (k : PType) (n : Bool) (z s : ℤ) (x : Result ValueTerm ScalarError)
    → x ≡ ok_or (option_map pvalue_term (option_map (value_of k) (whole_of z s k))) error.CastRange
    → IsCast (row_of (primitive (whole_kind k) n)) x (decimal_cast s (whole_row z) (primitive (whole_kind k) n))
decimal_of_kind k n z s x e =
    subst (λ l. IsCast (row_of (primitive (whole_kind k) n)) x (in_range_or (whole_of z s l))) (sym (kind_kept k))
    (found_is k n (whole_of z s k) (λ w h. whole_in_range k z s w h) x e)

pub decimal_is_cast : (k : PType) (n : Bool) (z s : ℤ) (u : Term) (x : Result ValueTerm ScalarError) → primitive (whole_kind k) n ≡ u
    → x ≡ ok_or (option_map pvalue_term (option_map (value_of k) (whole_of z s k))) error.CastRange
    → IsCast (row_of u) x (decimal_cast s (whole_row z) u)
decimal_is_cast k n z s u x t e = subst (λ v. IsCast (row_of v) x (decimal_cast s (whole_row z) v)) t (decimal_of_kind k n z s x e)

-- a decimal at its own scale
number_of_decimal : (q : ℕ) (r : ℤ) (n : Bool) (v : ValueTerm) (z : ℤ) → IsNumber v z → row_of (decimal q r n) v ≡ Some (whole_row z)
number_of_decimal q r n null_value z e = e
number_of_decimal q r n (truth_value b) z e = e
number_of_decimal q r n (whole_value k w) z e = e
number_of_decimal q r n (decimal_value k w) z e = e
number_of_decimal q r n (bytes_value bs) z e = e
number_of_decimal q r n (text_value bs) z e = e
number_of_decimal q r n (list_value vs) z e = e

-- at its own scale a number stays
unscaled : (z s r : ℤ) → r ≡ s → FitsSigned w128 z → rescaled z s r ≡ Some z
unscaled z s r e f = (exact z s r z).1 (f, λ i. z *ℤ pos (tens (e i) (sym e i)))

pub shared : (v : ValueTerm) (x : Result ValueTerm ScalarError) → IfOk x (λ w. w ≡ v) → IsOkUnless x error.OutOfMemory → IsShared true v x
shared v (Ok w) ok memory = ok
shared v (Err e) ok memory = memory

pub same_is_cast : (q : ℕ) (r : ℤ) (n : Bool) (v : ValueTerm) (z s : ℤ) (u : Term) (x : Result ValueTerm ScalarError) → decimal q r n ≡ u → r ≡ s
    → FitsSigned w128 z → IsNumber v z → IsShared true v x → IsCast (row_of u) x (decimal_cast s (whole_row z) u)
same_is_cast q r n v z s u x t e f number same =
    subst (λ w. IsCast (row_of w) x (decimal_cast s (whole_row z) w)) t (by x same)
  where
    by : (x : Result ValueTerm ScalarError) → IsShared true v x → IsCast (row_of (decimal q r n)) x (in_range_or (rescaled z s r))
    by (Ok w) h = rw (unscaled z s r e f) (ap (row_of (decimal q r n)) h ∙ number_of_decimal q r n v z number)
    by (Err e) h = inl h
