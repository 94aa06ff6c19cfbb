-- What a contract sees of an extension type: `ExtTerm`, and `ext_type`, its term.
use Rattle.std.specs.Prelude.{ℕ, List, Option, refl}
use Rattle.std.specs.Coded.{Coded, code_by, coded×, coded_ℕ, coded_list, coded_option}
use Rattle.vortex_terms.specs.Term.{Term, extension}
use Rattle.vortex_terms.specs.TermCode.{coded_term}

-- its id, the type in which its rows are stored, and maybe metadata
pub record ExtTerm : Type 0 where
  pub id : List ℕ
  pub storage : Term
  pub metadata : Option (List ℕ)

-- how it is stored
abbrev pub coded_ext : Coded ExtTerm
coded_ext =
    code_by (List ℕ × (Term × Option (List ℕ)))
    (coded× (coded_list coded_ℕ) (coded× coded_term (coded_option (coded_list coded_ℕ))))
    (λ e. (e.id, (e.storage, e.metadata)))
    (λ p. record { id = p.0; storage = p.1.0; metadata = p.1.1 }) (λ _. refl)

-- as a type
abbrev pub ext_type : ExtTerm → Term
ext_type e = extension e.id e.storage e.metadata
