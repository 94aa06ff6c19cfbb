-- How a proof tells what is kept of rows apart.
use Rattle.std.specs.Prelude.{ℕ, List, refl}
use Rattle.std.specs.Coded.{Coded, code_by, coded×, coded_ℕ, coded_list}
use Rattle.vortex_terms.specs.Row.{Row}
use Rattle.vortex_terms.specs.RowCode.{coded_row}
use Rattle.vortex_dict.specs.Limits.{Dictionary}

abbrev pub coded_dictionary : Coded Dictionary
coded_dictionary =
    code_by (List Row × (ℕ × ℕ)) (coded× (coded_list coded_row) (coded× coded_ℕ coded_ℕ))
    (λ d. (d.values, (d.constraints.max_bytes, d.constraints.max_len)))
    (λ p. record { values = p.0; constraints = record { max_bytes = p.1.0; max_len = p.1.1 } })
    (λ _. refl)
