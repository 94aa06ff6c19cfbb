-- What each value that is kept is: `IsHeld`, `AreHeld`.
use Rattle.std.specs.Prelude.{◌≡◌, true}
use Rattle.std.specs.Str.{IsUtf8}
use Rattle.vortex_number.specs.Format.{fits}
use Rattle.vortex_number.specs.PType.{in_range}
use Rattle.vortex_number.specs.WholeKind.{ptype_of}
use Rattle.vortex_value.specs.DecimalValue.{decimal_format}
use Rattle.vortex_scalar_value.specs.Value.{ValueTerm, null_value, truth_value, whole_value, decimal_value, bytes_value, text_value, list_value, ValueTerms, no_values, value}

abbrev mutual
  -- each number in it is one of its kind or width, and each text is UTF-8
  pub IsHeld : ValueTerm → Type 0
  IsHeld null_value = Unit {0}
  IsHeld (truth_value b) = Unit {0}
  IsHeld (whole_value k z) = in_range (ptype_of k) z ≡ true
  IsHeld (decimal_value w z) = fits (decimal_format w) z ≡ true
  IsHeld (bytes_value bs) = Unit {0}
  IsHeld (text_value bs) = IsUtf8 bs
  IsHeld (list_value vs) = AreHeld vs

  pub AreHeld : ValueTerms → Type 0
  AreHeld no_values = Unit {0}
  AreHeld (value v vs) = IsHeld v × AreHeld vs
