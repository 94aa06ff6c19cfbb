-- Contents of values are those of the type's rows.
use Rattle.std.proofs.Common.{◌≡◌, ◌∙◌, ◌*◌, ℕ, ℤ, List, [], ◌∷◌, Bool, true, false, IsTrue, Option, Some, None, map, length, refl, sym, ap, subst, true≢false}
use Rattle.std.specs.Prelude.{pos}
use Rattle.std.specs.Int.{w128}
use Rattle.std.specs.Option.{IsSome, option_map, unwrap_or}
use Rattle.std.specs.List.{AllByRecursion}
use Rattle.std.proofs.lemmas.List.{length-map}
use Rattle.vortex_prelude.specs.Chain.{◌>>=◌}
use Rattle.vortex_number.specs.Format.{fits, signed}
use Rattle.vortex_number.specs.PType.{format_of}
use Rattle.vortex_number.specs.WholeKind.{whole_kind}
use Rattle.vortex_number.specs.declared.ptype.PType.{PType}
use Rattle.vortex_number.specs.declared.ptype.PType.TheVariants as kind
use Rattle.vortex_number.proofs.Ranges.{same_range}
use Rattle.vortex_terms.specs.Term.{null, boolean, primitive, decimal, utf8, binary}
use Rattle.vortex_terms.specs.Row.{Row, null_row, truth_row, whole_row, bytes_row, copies}
use Rattle.vortex_terms.specs.Fits.{Fits}
use Rattle.vortex_scalar_value.specs.Value.{ValueTerm, null_value, truth_value, whole_value, decimal_value, bytes_value, text_value, list_value}
use Rattle.vortex_value_rows.specs.RowOf.{row_under, number_of_bytes}
use Rattle.vortex_node_rows.specs.Leaves.{kind_format}
use Rattle.vortex_leaves.specs.Numbers.{NumberBytes}
use Rattle.vortex_leaves.specs.Selected.{AreNumbersOf}
use Rattle.vortex_leaves.specs.Texts.{TextBytes, text_pieces}
use Rattle.vortex_array_data.specs.declared.held.Content.TheVariants.{Nulls, Truths, Numbers, Decimals, Texts}
use Rattle.vortex_array_plain.specs.PlainValues.{truth_in, number_in, decimal_in, bytes_in, AllFit, FitsValue, IsPlainContent}
use Rattle.vortex_array_plain.proofs.ValueFits.{map_fit, all_more, row_fits}

-- ---- nulls

same_copies : (r : Row) (f : ValueTerm → Row) (vs : List ValueTerm) → ((v : ValueTerm) → f v ≡ r) → copies (length vs) r ≡ map f vs
unfolding copies
same_copies r f [] e = refl
same_copies r f (v ∷ vs) e = λ i. sym (e v) i ∷ same_copies r f vs e i

pub null_row_under : (v : ValueTerm) → row_under null v ≡ null_row
null_row_under null_value = refl
null_row_under (truth_value b) = refl
null_row_under (whole_value k z) = refl
null_row_under (decimal_value w z) = refl
null_row_under (bytes_value bs) = refl
null_row_under (text_value bs) = refl
null_row_under (list_value vs) = refl

pub nulls_content : (vs : List ValueTerm) → IsPlainContent null vs Nulls
nulls_content vs = record { shape = tt; rows = same_copies null_row (row_under null) vs null_row_under; canonical = refl }

-- ---- truth values

truth_under : (v : ValueTerm) → FitsValue (boolean false) v → truth_row (truth_in v) ≡ row_under (boolean false) v
truth_under (truth_value b) h = refl
truth_under null_value h = absurd (true≢false (sym h))
truth_under (whole_value k z) h = absurd (true≢false (sym h))
truth_under (decimal_value w z) h = absurd (true≢false (sym h))
truth_under (bytes_value bs) h = absurd (true≢false (sym h))
truth_under (text_value bs) h = absurd (true≢false (sym h))
truth_under (list_value vs) h = absurd (true≢false (sym h))

mapped : {A : Type 0} (f : ValueTerm → A) (g : A → Row) (vs : List ValueTerm) → map g (map f vs) ≡ map (λ v. g (f v)) vs
mapped f g [] = refl
mapped f g (v ∷ vs) = λ i. g (f v) ∷ mapped f g vs i

pub truths_content : (vs : List ValueTerm) (m : List Bool) (nl : Bool) → nl ≡ false → AllFit (boolean nl) vs
    → m ≡ map truth_in vs → IsPlainContent (boolean nl) vs (Truths m)
truths_content vs m nl z h e =
    subst (λ (b : Bool). IsPlainContent (boolean b) vs (Truths m)) (sym z)
    (record {
      shape = ap length e ∙ length-map vs truth_in;
      rows = ap (map truth_row) e ∙ mapped truth_in truth_row vs
          ∙ map_fit (boolean false) (λ v. truth_row (truth_in v)) vs truth_under (subst (λ (b : Bool). AllFit (boolean b) vs) z h);
      canonical = refl;
    })

-- ---- numbers

number_under : (p : PType) (v : ValueTerm) → FitsValue (primitive (whole_kind p) false) v
    → whole_row (number_in v) ≡ row_under (primitive (whole_kind p) false) v
number_under p (whole_value k z) h = refl
number_under p null_value h = absurd (true≢false (sym h))
number_under p (truth_value b) h = absurd (true≢false (sym h))
number_under p (decimal_value w z) h = absurd (true≢false (sym h))
number_under p (bytes_value bs) h = absurd (true≢false (sym h))
number_under p (text_value bs) h = absurd (true≢false (sym h))
number_under p (list_value vs) h = absurd (true≢false (sym h))

number_fits : (p : PType) (v : ValueTerm) → FitsValue (primitive (whole_kind p) false) v → IsTrue (fits (format_of p) (number_in v))
number_fits p v h =
    (same_range p (number_in v)).1
    (subst (Fits (primitive (whole_kind p) false)) (sym (number_under p v h)) (row_fits (primitive (whole_kind p) false) v h))

pub numbers_fitting : (p : PType) (nl : Bool) (vs : List ValueTerm) → nl ≡ false → AllFit (primitive (whole_kind p) nl) vs
    → AllByRecursion (λ v. IsTrue (fits (format_of p) (number_in v))) vs
numbers_fitting p nl vs z h =
    all_more (FitsValue (primitive (whole_kind p) false)) (λ v. IsTrue (fits (format_of p) (number_in v))) vs (number_fits p)
    (subst (λ (b : Bool). AllFit (primitive (whole_kind p) b) vs) z h)

kind_formats : (p : PType) → format_of p ≡ kind_format (whole_kind p)
kind_formats kind.U8 = refl
kind_formats kind.U16 = refl
kind_formats kind.U32 = refl
kind_formats kind.U64 = refl
kind_formats kind.I8 = refl
kind_formats kind.I16 = refl
kind_formats kind.I32 = refl
kind_formats kind.I64 = refl

pub numbers_content : (p : PType) (vs : List ValueTerm) (a : NumberBytes) (nl : Bool) → nl ≡ false
    → AllFit (primitive (whole_kind p) nl) vs → AreNumbersOf (format_of p) (map (λ v. whole_row (number_in v)) vs) a
    → IsPlainContent (primitive (whole_kind p) nl) vs (Numbers a)
numbers_content p vs a nl z h e =
    subst (λ (b : Bool). IsPlainContent (primitive (whole_kind p) b) vs (Numbers a)) (sym z)
    (record {
      shape = (e.format ∙ kind_formats p, e.count ∙ length-map vs (λ v. whole_row (number_in v)));
      rows = e.rows ∙ map_fit (primitive (whole_kind p) false) (λ v. whole_row (number_in v)) vs (number_under p)
          (subst (λ (b : Bool). AllFit (primitive (whole_kind p) b) vs) z h);
      canonical = refl;
    })

-- ---- decimals

bytes_under : (o : Option ℤ) → IsSome (option_map whole_row o)
    → whole_row (unwrap_or o (pos 0)) ≡ unwrap_or (option_map whole_row o) null_row
bytes_under (Some z) h = refl
bytes_under None h = absurd (true≢false (sym h))

first_there : {X : Type 0} (o : Option X) (f : X → Option Row) → IsSome (o >>= f) → IsSome o
first_there (Some x) f h = refl
first_there None f h = h

decimal_under : (p : ℕ) (s : ℤ) (v : ValueTerm) → FitsValue (decimal p s false) v
    → whole_row (decimal_in v) ≡ row_under (decimal p s false) v
decimal_under p s (decimal_value w z) h = refl
decimal_under p s (bytes_value bs) h = bytes_under (number_of_bytes bs) (first_there (option_map whole_row (number_of_bytes bs)) _ h)
decimal_under p s null_value h = absurd (true≢false (sym h))
decimal_under p s (truth_value b) h = absurd (true≢false (sym h))
decimal_under p s (whole_value k z) h = absurd (true≢false (sym h))
decimal_under p s (text_value bs) h = absurd (true≢false (sym h))
decimal_under p s (list_value vs) h = absurd (true≢false (sym h))

pub decimals_content : (p : ℕ) (s : ℤ) (vs : List ValueTerm) (a : NumberBytes) (nl : Bool) → nl ≡ false
    → AllFit (decimal p s nl) vs → AreNumbersOf (signed w128) (map (λ v. whole_row (decimal_in v)) vs) a
    → IsPlainContent (decimal p s nl) vs (Decimals a)
decimals_content p s vs a nl z h e =
    subst (λ (b : Bool). IsPlainContent (decimal p s b) vs (Decimals a)) (sym z)
    (record {
      shape = e.count ∙ length-map vs (λ v. whole_row (decimal_in v));
      rows = e.rows ∙ map_fit (decimal p s false) (λ v. whole_row (decimal_in v)) vs (decimal_under p s)
          (subst (λ (b : Bool). AllFit (decimal p s b) vs) z h);
      canonical = refl;
    })

-- ---- texts and bytes

pub text_under : (v : ValueTerm) → FitsValue (utf8 false) v → bytes_row (bytes_in v) ≡ row_under (utf8 false) v
text_under (bytes_value bs) h = refl
text_under (text_value bs) h = refl
text_under null_value h = absurd (true≢false (sym h))
text_under (truth_value b) h = absurd (true≢false (sym h))
text_under (whole_value k z) h = absurd (true≢false (sym h))
text_under (decimal_value w z) h = absurd (true≢false (sym h))
text_under (list_value vs) h = absurd (true≢false (sym h))

pub binary_under : (v : ValueTerm) → FitsValue (binary false) v → bytes_row (bytes_in v) ≡ row_under (binary false) v
binary_under (bytes_value bs) h = refl
binary_under (text_value bs) h = refl
binary_under null_value h = absurd (true≢false (sym h))
binary_under (truth_value b) h = absurd (true≢false (sym h))
binary_under (whole_value k z) h = absurd (true≢false (sym h))
binary_under (decimal_value w z) h = absurd (true≢false (sym h))
binary_under (list_value vs) h = absurd (true≢false (sym h))

pub texts_content : (vs : List ValueTerm) (a : TextBytes) (nl : Bool) → nl ≡ false → AllFit (utf8 nl) vs
    → text_pieces a ≡ map bytes_in vs → IsPlainContent (utf8 nl) vs (Texts a)
texts_content vs a nl z h e =
    subst (λ (b : Bool). IsPlainContent (utf8 b) vs (Texts a)) (sym z)
    (record {
      shape = ap length e ∙ length-map vs bytes_in;
      rows = ap (map bytes_row) e ∙ mapped bytes_in bytes_row vs
          ∙ map_fit (utf8 false) (λ v. bytes_row (bytes_in v)) vs text_under (subst (λ (b : Bool). AllFit (utf8 b) vs) z h);
      canonical = refl;
    })

pub bytes_content : (vs : List ValueTerm) (a : TextBytes) (nl : Bool) → nl ≡ false → AllFit (binary nl) vs
    → text_pieces a ≡ map bytes_in vs → IsPlainContent (binary nl) vs (Texts a)
bytes_content vs a nl z h e =
    subst (λ (b : Bool). IsPlainContent (binary b) vs (Texts a)) (sym z)
    (record {
      shape = ap length e ∙ length-map vs bytes_in;
      rows = ap (map bytes_row) e ∙ mapped bytes_in bytes_row vs
          ∙ map_fit (binary false) (λ v. bytes_row (bytes_in v)) vs binary_under (subst (λ (b : Bool). AllFit (binary b) vs) z h);
      canonical = refl;
    })
