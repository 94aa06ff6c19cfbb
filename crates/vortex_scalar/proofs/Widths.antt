-- The value that a view of a decimal keeps.
use Rattle.std.proofs.Common.{◌≡◌, ℕ, ℤ, ◌*◌, List, length, Option, Some, None, refl, ap, ◌∙◌}
use Rattle.std.specs.Prelude.{IsTrue}
use Rattle.std.specs.Option.{option_map}
use Rattle.vortex_terms.specs.Term.{Term, decimal}
use Rattle.vortex_terms.specs.Row.{whole_row}
use Rattle.vortex_types.specs.Predicates.{is_decimal}
use Rattle.vortex_value.specs.DecimalValue.{decimal_number, width_of}
use Rattle.vortex_value.specs.declared.decimal.DecimalValue.{DecimalValue}
use Rattle.vortex_scalar_value.specs.Value.{bytes_value}
use Rattle.vortex_value_rows.specs.RowOf.{row_of, number_of_bytes}
use Rattle.vortex_scalar_text.specs.ScalarText.{decimal_in, width_bits}
use Rattle.vortex_scalar.specs.ViewRows.{or_null}
use Rattle.vortex_scalar.specs.Views.{kept_value}

-- it has the view's row
pub kept_row : (t : Term) (o : Option DecimalValue) → IsTrue (is_decimal t)
    → row_of t (kept_value o) ≡ Some (or_null (λ v. whole_row (decimal_number v)) o)
kept_row (decimal p s n) None h = refl
kept_row (decimal p s n) (Some v) h = refl
kept_row _ o h = absurd cc

-- of bytes it has their number, and the width of so many
pub kept_width : (bs : List ℕ) (v : DecimalValue) → Some (decimal_number v) ≡ number_of_bytes bs → width_bits (width_of v) ≡ length bs * 8
    → decimal_in (kept_value (Some v)) ≡ decimal_in (bytes_value bs)
kept_width bs v e w =
    ap (λ (n : ℕ). Some (n, decimal_number v)) w ∙ ap (option_map (λ (z : ℤ). (length bs * 8, z))) e
