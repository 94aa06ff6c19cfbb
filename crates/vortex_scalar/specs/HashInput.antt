-- What a scalar feeds a hasher: the number of the kind of its type, and its row. Neither nullability nor the variant in
-- which a value is kept is in it.
--     scalar_writes                of a scalar
use Rattle.std.specs.Prelude.{◌++◌}
use Rattle.std.specs.Hash as fed
use Rattle.std.specs.Hash.{HashWrites}
use Rattle.vortex_terms.specs.Types.{type_number}
use Rattle.vortex_value_rows.specs.HashInput.{row_writes}
use Rattle.vortex_scalar.specs.ScalarTerm.{ScalarTerm}

abbrev pub scalar_writes : ScalarTerm → HashWrites
scalar_writes s = fed.u8 (type_number s.dtype) ++ row_writes s.row
