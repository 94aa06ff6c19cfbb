-- The value of a constant, and its rows.
use Rattle.std.proofs.Common.{◌≡◌, ℕ, List, Bool, true, false, Option, Some, None, refl, ap, sym}
use Rattle.std.specs.Prelude.{if◌then◌else◌, is_some}
use Rattle.std.specs.Option.{option_map, unwrap_or}
use Rattle.vortex_prelude.specs.Chain.{◌>>=◌}
use Rattle.vortex_terms.specs.Term.{Term}
use Rattle.vortex_terms.specs.Row.{Row, null_row, copies}
use Rattle.vortex_terms.specs.Tests.{is_fitting}
use Rattle.vortex_scalar_value.specs.Value.{ValueTerm}
use Rattle.vortex_scalar_value.specs.Reading.{value_in}
use Rattle.vortex_value_rows.specs.RowOf.{row_of, row_under, fitting_row}
use Rattle.vortex_node_rows.specs.Buffers.{one_buffer}
use Rattle.vortex_node_rows.specs.Leaves.{constant_rows}
use Rattle.vortex_leaves.specs.Constant.{fitting_value}

kept_by : (n : ℕ) (v : ValueTerm) (f : ValueTerm → Row) (r : Row) (b : Bool) → f v ≡ r → ((if b then Some r else None) >>= λ r. Some (copies n r)) ≡ option_map (λ v. copies n (f v)) (if is_some (if b then Some r else None) then Some v else None)
kept_by n v f r true e = ap (λ r. Some (copies n r)) (sym e)
kept_by n v f r false e = refl

kept : (t : Term) (n : ℕ) (v : ValueTerm) (o : Option Row) → row_of t v ≡ o → (fitting_row t v >>= λ r. Some (copies n r)) ≡ option_map (λ v. copies n (row_under t v)) (if is_some (fitting_row t v) then Some v else None)
kept t n v None e = rw e refl
kept t n v (Some r) e =
    let under : row_under t v ≡ r = ap (λ o. unwrap_or o null_row) e in
    rw e (kept_by n v (row_under t) r (is_fitting t r) under)

with_value : (t : Term) (n : ℕ) (o : Option ValueTerm) → (o >>= λ v. fitting_row t v >>= λ r. Some (copies n r)) ≡ option_map (λ v. copies n (row_under t v)) (o >>= λ v. if is_some (fitting_row t v) then Some v else None)
with_value t n None = refl
with_value t n (Some v) = kept t n v (row_of t v) refl

with_buffer : (t : Term) (n : ℕ) (o : Option (List ℕ)) → (o >>= λ b. value_in 128 b >>= λ v. fitting_row t v >>= λ r. Some (copies n r)) ≡ option_map (λ v. copies n (row_under t v)) (o >>= λ b. value_in 128 b >>= λ v. if is_some (fitting_row t v) then Some v else None)
with_buffer t n None = refl
with_buffer t n (Some b) = with_value t n (value_in 128 b)

pub constants : (t : Term) (n : ℕ) (bs : List (List ℕ)) → constant_rows t n bs ≡ option_map (λ v. copies n (row_under t v)) (fitting_value t bs)
unfolding constant_rows fitting_value
constants t n bs = with_buffer t n (one_buffer bs)
