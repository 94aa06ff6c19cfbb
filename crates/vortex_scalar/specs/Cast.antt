-- A scalar under another type: `cast_scalar`.
use Rattle.std.specs.Prelude.{Result, Ok, Err}
use Rattle.vortex_terms.specs.Term.{Term}
use Rattle.vortex_terms.specs.Row.{Row}
use Rattle.vortex_scalar_value.specs.declared.error.ScalarError.{ScalarError}
use Rattle.vortex_cast.specs.Cast.{cast_of}
use Rattle.vortex_scalar.specs.ScalarTerm.{ScalarTerm}
use Rattle.vortex_scalar.specs.Made.{typed}

-- the row under the type, or the refusal
abbrev pub typed_result : Term → Result Row ScalarError → Result ScalarTerm ScalarError
typed_result t (Ok r) = Ok (typed t r)
typed_result t (Err e) = Err e

-- the scalar of this type whose row is the scalar's under it, or the refusal
abbrev pub cast_scalar : ScalarTerm → Term → Result ScalarTerm ScalarError
cast_scalar s u = typed_result u (cast_of s.dtype s.row u)
