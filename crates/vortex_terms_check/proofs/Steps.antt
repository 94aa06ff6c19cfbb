-- What a path finds where it meets no struct, no field or no row.
use Rattle.std.proofs.Common.{arith, length, get_or, map, [], ◌≤◌, ◌≡◌, ℕ, List, ◌∷◌, None, ap, sym, ◌∙◌}
use Rattle.std.specs.Option.{option_and_then, unwrap_or}
use Rattle.vortex_terms.specs.Term.{Term, null, structure, Fields}
use Rattle.vortex_terms.specs.Row.{Row, null_row, list_row, Rows, row_at}
use Rattle.vortex_terms.specs.Types.{place_of, field_at}
use Rattle.vortex_terms.specs.Path.{PathPart, by_name, named_type, named_row, value_at}
use Rattle.vortex_terms.specs.RowLaws.{value_at-null}
use Rattle.vortex_terms.specs.FieldLaws.{place_of-field}

-- a step that finds null
pub null_step : (t : Term) (r : Row) (part : PathPart) (path : List PathPart) → named_row t r part ≡ null_row → null_row ≡ value_at t r (part ∷ path)
null_step t r part path e = sym (ap (λ s. value_at (unwrap_or (named_type t part) null) s path) e ∙ value_at-null (unwrap_or (named_type t part) null) path)

-- no row at the place of the name
pub no_row : (fs : Fields) (n : _) (rs : Rows) (x : List ℕ) (path : List PathPart) → None ≡ option_and_then (row_at rs) (place_of fs x) → null_row ≡ value_at (structure fs n) (list_row rs) (by_name x ∷ path)
no_row fs n rs x path e = null_step (structure fs n) (list_row rs) (by_name x) path (ap (λ o. unwrap_or o null_row) (sym e))

-- no field of the name
pub no_field : (fs : Fields) (n : _) (rs : Rows) (x : List ℕ) (path : List PathPart) → None ≡ option_and_then (field_at fs) (place_of fs x) → null_row ≡ value_at (structure fs n) (list_row rs) (by_name x ∷ path)
no_field fs n rs x path e = no_row fs n rs x path (ap (option_and_then (row_at rs)) (sym (place_of-field fs x (sym e))))

-- the same at the first of a list of names
pub no_first_field : {A : Type 0} (name : A → List ℕ) (fs : Fields) (n : _) (rs : Rows) (names : List A) (x : A) → 1 ≤ length names → x ≡ get_or names 0 x → None ≡ option_and_then (field_at fs) (place_of fs (name x)) → null_row ≡ value_at (structure fs n) (list_row rs) (map (λ y. by_name (name y)) names)
no_first_field name fs n rs [] x l h e = absurd (omega arith)
no_first_field name fs n rs (y ∷ ys) x l h e = no_field fs n rs (name y) (map (λ z. by_name (name z)) ys) (rw h at e)
