-- Nodes that may have no children, truth values in bits, and constants.
use Rattle.std.proofs.Common.{rules, ◌≡◌, ◌≤◌, ◌*◌, ◌∙◌, ℕ, List, [], ◌∷◌, Bool, true, false, Option, Some, None, map, length, inr, refl, sym, ap, subst, arith}
use Rattle.std.specs.Prelude.{if◌then◌else◌, nat_le, is_some}
use Rattle.std.specs.Option.{IsSome}
use Rattle.std.proofs.lemmas.List.{length-map}
use Rattle.vortex_prelude.specs.Chain.{◌>>=◌}
use Rattle.vortex_terms.specs.Term.{Term}
use Rattle.vortex_terms.specs.Row.{Row, truth_row}
use Rattle.vortex_scalar_value.specs.Value.{ValueTerm}
use Rattle.vortex_scalar_value.specs.Reading.{value_in}
use Rattle.vortex_value_rows.specs.RowOf.{fitting_row}
use Rattle.vortex_mask.specs.Bits.{truths_in}
use Rattle.vortex_body.specs.Node.{Node, Nodes, nodes_from}
use Rattle.vortex_leaves.specs.Constant.{fitting_value}
use Rattle.vortex_node_rows.specs.Buffers.{one_buffer}
use Rattle.vortex_node_rows.specs.Leaves.{truths_of}
use Rattle.vortex_node_rows.specs.RowsOf.{has_none, null_rows}
use Rattle.vortex_node_rows.proofs.Options.{bind_some, guarded}
use Rattle.vortex_node_rows.proofs.Truths.{truths_count}
use Rattle.vortex_array_data.specs.Answers.{Refuses}
use Rattle.vortex_array_data.specs.declared.error.ArrayError.TheVariants as error

has_some : (ns : List Node) (cs : Nodes) → nodes_from ns ≡ cs → 1 ≤ length ns → has_none cs ≡ false
has_some [] cs e h = absurd (omega (arith, h))
has_some (n ∷ ns) cs e h = ap has_none (sym e)

no_nulls : (n : ℕ) (bs : List (List ℕ)) → null_rows n bs false ≡ None
unfolding null_rows
no_nulls n [] = refl
no_nulls n (b ∷ bs) = refl

buffered : (n : ℕ) (bs : List (List ℕ)) (b : Bool) → 1 ≤ length bs → null_rows n bs b ≡ None
unfolding null_rows
buffered n [] b h = absurd (omega (arith, h))
buffered n (c ∷ bs) b h = refl

pub buffers_refused : (n : ℕ) (bs : List (List ℕ)) (b : Bool) → 1 ≤ length bs
    → Refuses error.Malformed (null_rows n bs b)
buffers_refused n bs b h = inr (refl, buffered n bs b h)

pub nulls_refused : (n : ℕ) (bs : List (List ℕ)) (ns : List Node) (cs : Nodes) → nodes_from ns ≡ cs → 1 ≤ length ns
    → Refuses error.Malformed (null_rows n bs (has_none cs))
nulls_refused n bs ns cs e h = inr (refl, ap (null_rows n bs) (has_some ns cs e h) ∙ no_nulls n bs)

pub children_refused : (found : Option (List Row)) (ns : List Node) (cs : Nodes) → nodes_from ns ≡ cs → 1 ≤ length ns
    → Refuses error.Malformed (if has_none cs then found else None)
children_refused found ns cs e h = inr (refl, ap (λ (b : Bool). if b then found else None) (has_some ns cs e h))

is_there : {A : Type 0} (o : Option A) → is_some o ≡ true → IsSome o
is_there (Some x) e = search rules
is_there None e = absurd (cc)

-- a value that is found fits
pub fitted : (t : Term) (bs : List (List ℕ)) (v : ValueTerm) → fitting_value t bs ≡ Some v → IsSome (fitting_row t v)
unfolding fitting_value
fitted t bs v e =
    let b = bind_some (one_buffer bs) (λ b. value_in 128 b >>= λ v. if is_some
    (fitting_row t v) then Some v else None) v e in
    let w = bind_some (value_in 128 b.0) (λ v. if is_some (fitting_row t v) then Some v else None) v b.2 in
    let g = guarded (is_some (fitting_row t w.0)) w.0 v w.2 in
    subst (λ (u : ValueTerm). IsSome (fitting_row t u)) g.1 (is_there (fitting_row t w.0) g.0)

bits_found : (n : ℕ) (b : List ℕ) (m : List Bool) → (nat_le n (8 * length b) ≡ true) × (truths_in n b ≡ m)
    → truths_of n (b ∷ []) ≡ Some (map truth_row m)
unfolding truths_of one_buffer
bits_found n b m g =
    ap (λ (c : Bool). if c then Some (map truth_row (truths_in n b)) else None) g.0
    ∙ ap (λ (l : List Bool). Some (map truth_row l)) g.1

-- as many truth values as are asked for
pub bits_count : (n : ℕ) (b : List ℕ) (m : List Bool)
    → (if nat_le n (8 * length b) then Some (truths_in n b) else None) ≡ Some m → length m ≡ n
bits_count n b m e = sym (length-map m truth_row) ∙ truths_count n (b ∷ []) (map truth_row m) (bits_found n b m
    (guarded (nat_le n (8 * length b)) (truths_in n b) m e))
