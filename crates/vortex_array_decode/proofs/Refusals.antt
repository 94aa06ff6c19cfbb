-- What a refusal says of what is defined from it.
use Rattle.std.proofs.Common.{◌≡◌, ℕ, Option, None, refl, sym, subst, inl, inr}
use Rattle.std.specs.Prelude.{Result, Ok, Err, IsErrAnd, IfOk}
use Rattle.vortex_terms.specs.Term.{Term}
use Rattle.vortex_body.specs.Node.{Node}
use Rattle.vortex_node_rows.specs.declared.encoding.Encoding.{Encoding}
use Rattle.vortex_node_rows.specs.RowsOf.{rows_of}
use Rattle.vortex_node_rows.proofs.RowsCounted.{rows_count}
use Rattle.vortex_array_data.specs.Column.{Column}
use Rattle.vortex_array_data.specs.Content.{IsColumn}
use Rattle.vortex_array_data.specs.declared.error.ArrayError.{ArrayError}
use Rattle.vortex_array_data.specs.Answers.{Answers, Refuses, array_error_of}
use Rattle.vortex_leaves.specs.Answers.{Refuses as LeafRefuses}
use Rattle.vortex_leaves.specs.declared.error.LeafError.{LeafError}
use Rattle.vortex_leaves.specs.declared.error.LeafError.TheVariants as leaf

pub refused : {Y Z : Type 0} (e : ArrayError) (found : Option Y) (other : Option Z) → (found ≡ None → other ≡ None)
    → Refuses e found → Refuses e other
refused e found other k (inl h) = inl h
refused e found other k (inr h) = inr (h.0, k h.1)

pub leaf_refused : {Y Z : Type 0} (e : LeafError) (found : Option Y) (other : Option Z) → (found ≡ None → other ≡ None)
    → LeafRefuses e found → Refuses (array_error_of e) other
leaf_refused leaf.Malformed found other k h = inr (refl, k h)
leaf_refused leaf.OutOfMemory found other k h = inl refl

-- an error that is passed on
pub passes_on : {X Y : Type 0} (view : X → Y) (r : Result X ArrayError) (e : ArrayError) (found : Option Y)
    → IsErrAnd r (λ y. y ≡ e) → Refuses e found → Answers view r found
passes_on view (Ok x) e found h k = absurd h
passes_on view (Err y) e found h k = subst (λ (z : ArrayError). Refuses z found) (sym h) k

-- what is read has the type and the count
pub column_read : (r : Result Column ArrayError) (f : ℕ → Option Encoding) (x : Node) (t : Term) (n : ℕ)
    → Answers (λ (a : Column). a.rows) r (rows_of f x t n) → IfOk r (λ (a : Column). a.dtype ≡ t) → IfOk r
    (IsColumn t n)
column_read (Ok a) f x t n h d = (d, rows_count f x t n a.rows h)
column_read (Err e) f x t n h d = tt
