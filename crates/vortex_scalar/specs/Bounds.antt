-- Bounds of scalars of texts and of bytes. Null is its own bound, and the type stays.
--     lower_scalar      the scalar of a lower bound of the bytes
--     upper_scalar      the scalar of an upper bound of the bytes, where there is one
--     IsLowerBound      of the type, at most the scalar, and at most n bytes long
--     IsUpperBound      of the type, at least the scalar, and at most n bytes long
use Rattle.std.specs.Prelude.{◌≡◌, ◌≤◌, ℕ, List, Option, Some, IsTrue}
use Rattle.std.specs.Option.{option_map}
use Rattle.std.specs.Ordering.{is_le}
use Rattle.vortex_terms.specs.Row.{Row, bytes_row}
use Rattle.vortex_terms.specs.Order.{row_cmp}
use Rattle.vortex_terms.specs.Parts.{byte_count}
use Rattle.vortex_scalar.specs.ScalarTerm.{ScalarTerm}
use Rattle.vortex_scalar.specs.Made.{typed}

abbrev pub lower_row : (List ℕ → List ℕ) → Row → Row
lower_row lower (bytes_row bs) = bytes_row (lower bs)
lower_row lower r = r

abbrev pub upper_row : (List ℕ → Option (List ℕ)) → Row → Option Row
upper_row upper (bytes_row bs) = option_map bytes_row (upper bs)
upper_row upper r = Some r

abbrev pub lower_scalar : (List ℕ → List ℕ) → ScalarTerm → ScalarTerm
lower_scalar lower s = typed s.dtype (lower_row lower s.row)

abbrev pub upper_scalar : (List ℕ → Option (List ℕ)) → ScalarTerm → Option ScalarTerm
upper_scalar upper s = option_map (typed s.dtype) (upper_row upper s.row)

abbrev pub IsLowerBound : ℕ → ScalarTerm → ScalarTerm → Type 0
IsLowerBound n s b = (b.dtype ≡ s.dtype) × IsTrue (is_le (row_cmp b.row s.row)) × (byte_count b.row ≤ n)

abbrev pub IsUpperBound : ℕ → ScalarTerm → ScalarTerm → Type 0
IsUpperBound n s b = (b.dtype ≡ s.dtype) × IsTrue (is_le (row_cmp s.row b.row)) × (byte_count b.row ≤ n)
