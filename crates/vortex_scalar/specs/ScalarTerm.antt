-- What a contract sees of a scalar: its type and its row.
use Rattle.std.specs.Prelude.{refl}
use Rattle.std.specs.Coded.{Coded, code_by, coded×}
use Rattle.vortex_terms.specs.Term.{Term}
use Rattle.vortex_terms.specs.TermCode.{coded_term}
use Rattle.vortex_terms.specs.Row.{Row}
use Rattle.vortex_terms.specs.RowCode.{coded_row}

-- a type, and a row that fits it
pub record ScalarTerm : Type 0 where
  pub dtype : Term
  pub row : Row

-- how it is stored
abbrev pub coded_scalar : Coded ScalarTerm
coded_scalar =
    code_by (Term × Row) (coded× coded_term coded_row) (λ s. (s.dtype, s.row))
    (λ p. record { dtype = p.0; row = p.1 }) (λ _. refl)
