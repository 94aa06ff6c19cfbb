-- How a value is stored, so that a struct's model may be one.
--     coded_value, coded_values      the codes
use Rattle.std.specs.Prelude.{◌≡◌, refl}
use Rattle.std.specs.Coded.{Coded, coded_ℕ, coded_ℤ, coded_bool, coded_list}
use Rattle.std.proofs.Common.{ap, arith}
use base.Stored.{Gv, gnil, gnum, gcons, num}
use Rattle.vortex_terms.specs.TermCode.{coded_whole_kind, head, tail}
use Rattle.vortex_value.specs.declared.decimal.DecimalValueType.{DecimalValueType}
use Rattle.vortex_value.specs.declared.decimal.DecimalValueType.TheVariants as width
use Rattle.vortex_value.specs.DecimalValue.{width_number}
use Rattle.vortex_scalar_value.specs.Value.{ValueTerm, null_value, truth_value, whole_value, decimal_value, bytes_value, text_value, list_value, ValueTerms, no_values, value}

width_number-inj : (v w : DecimalValueType) → width_number v ≡ width_number w → v ≡ w
width_number-inj width.I8 width.I8 e = refl
width_number-inj width.I16 width.I16 e = refl
width_number-inj width.I32 width.I32 e = refl
width_number-inj width.I64 width.I64 e = refl
width_number-inj width.I128 width.I128 e = refl
width_number-inj _ _ e = absurd (omega arith)

abbrev mutual
  pub value_code : ValueTerm → Gv
  value_code null_value = gcons (gnum 0) gnil
  value_code (truth_value b) = gcons (gnum 1) (coded_bool.code b)
  value_code (whole_value k z) = gcons (gnum 2) (gcons (coded_whole_kind.code k) (coded_ℤ.code z))
  value_code (decimal_value w z) = gcons (gnum 3) (gcons (gnum (width_number w)) (coded_ℤ.code z))
  value_code (bytes_value bs) = gcons (gnum 4) ((coded_list coded_ℕ).code bs)
  value_code (text_value bs) = gcons (gnum 5) ((coded_list coded_ℕ).code bs)
  value_code (list_value vs) = gcons (gnum 6) (values_code vs)

  pub values_code : ValueTerms → Gv
  values_code no_values = gnil
  values_code (value v vs) = gcons (value_code v) (values_code vs)

mutual
  pub value_code-inj : (v w : ValueTerm) → value_code v ≡ value_code w → v ≡ w
  value_code-inj null_value null_value e = refl
  value_code-inj (truth_value a) (truth_value b) e = λ i. truth_value (coded_bool.inj a b (ap tail e) i)
  value_code-inj (whole_value k a) (whole_value l b) e =
      λ i. whole_value (coded_whole_kind.inj k l (ap (λ g. head (tail g)) e) i)
      (coded_ℤ.inj a b (ap (λ g. tail (tail g)) e) i)
  value_code-inj (decimal_value k a) (decimal_value l b) e =
      λ i. decimal_value (width_number-inj k l (ap (λ g. num (head (tail g))) e) i)
      (coded_ℤ.inj a b (ap (λ g. tail (tail g)) e) i)
  value_code-inj (bytes_value a) (bytes_value b) e =
      λ i. bytes_value ((coded_list coded_ℕ).inj a b (ap tail e) i)
  value_code-inj (text_value a) (text_value b) e =
      λ i. text_value ((coded_list coded_ℕ).inj a b (ap tail e) i)
  value_code-inj (list_value vs) (list_value ws) e = λ i. list_value (values_code-inj vs ws (ap tail e) i)
  value_code-inj _ _ e = absurd (omega (arith, ap (λ g. num (head g)) e))

  pub values_code-inj : (vs ws : ValueTerms) → values_code vs ≡ values_code ws → vs ≡ ws
  values_code-inj no_values no_values e = refl
  values_code-inj (value v vs) (value w ws) e =
      λ i. value (value_code-inj v w (ap head e) i) (values_code-inj vs ws (ap tail e) i)
  values_code-inj _ _ e = absurd (cc)

abbrev pub coded_value : Coded ValueTerm
coded_value = record { code = value_code; inj = value_code-inj }

abbrev pub coded_values : Coded ValueTerms
coded_values = record { code = values_code; inj = values_code-inj }
