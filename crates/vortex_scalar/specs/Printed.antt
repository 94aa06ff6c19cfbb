-- What printing a scalar writes: `Prints`.
use Rattle.std.specs.Prelude.{◌≡◌, List, ℕ, Some, Result}
use Rattle.std.specs.Fmt.{WritesOnOk}
use Rattle.std.specs.declared.fmt.Formatter.{Formatter}
use Rattle.std.specs.declared.fmt.Error.{Error}
use Rattle.vortex_scalar_value.specs.Value.{ValueTerm}
use Rattle.vortex_value_rows.specs.RowOf.{row_of}
use Rattle.vortex_scalar_text.specs.ScalarText.{scalar_text}
use Rattle.vortex_scalar.specs.ScalarTerm.{ScalarTerm}

-- f is written the text of a value of this type and row, and is then g. The value tells in which width a decimal is
-- kept, which no row does.
abbrev pub Prints : {W : Type 0} → (W → List ℕ → W → Type 0) → Formatter W → Result (Unit {0}) Error → ScalarTerm → Formatter W → Type 0
Prints took f r s g =
    (v : ValueTerm) × (row_of s.dtype v ≡ Some s.row) × WritesOnOk took f r (scalar_text s.dtype v) g
