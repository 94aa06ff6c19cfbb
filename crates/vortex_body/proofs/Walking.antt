-- How a walk goes on.
use Rattle.std.proofs.Common.{◌≡◌, ℕ, zero, suc, ◌+◌, ◌-◌, ◌<◌, ◌≤◌, List, [], ◌∷◌, length, Option, Some, None, refl, ap, ◌∙◌, arith}
use Rattle.std.specs.Prelude.{option_and_then}
use Rattle.std.specs.Option.{option_map}
use Rattle.vortex_prelude.specs.Absent.{or_zero, or_else}
use Rattle.vortex_prelude.specs.Elements.{elements}
use Rattle.vortex_flat.specs.Targets.{VectorShape, number_field, bytes_field, vector_field, or_empty}
use Rattle.vortex_body.specs.Body.{named_buffers}
use Rattle.vortex_body.specs.Node.{Node, Nodes, child, node}
use Rattle.vortex_body.specs.Reading.{Found, Reader, Own, left_of, after_node, own_at, child_at, children_at, one_node_at, node_at}
use Rattle.vortex_body.specs.inner.Walked.{targets_at, walked_at}
use Rattle.vortex_body.specs.declared.schema.TheConstants.{NODE_ENCODING, NODE_METADATA, NODE_CHILDREN, NODE_BUFFERS}
use Rattle.vortex_body.proofs.Standing.{one_level}

-- ---- elements

pub elements_more : {A : Type 0} (f : ℕ → Option A) (i n : ℕ) (x : A) → i < n → f i ≡ Some x → elements f i (n - i) ≡ option_map (λ xs. x ∷ xs) (elements f (i + 1) (n - (i + 1)))
elements_more f i n x lt e =
    let more : n - i ≡ suc (n - (i + 1)) = omega arith in
    ap (elements f i) more ∙ ap (option_and_then (λ x. option_map (λ xs. x ∷ xs) (elements f (i + 1) (n - (i + 1))))) e

pub elements_fail : {A : Type 0} (f : ℕ → Option A) (i n : ℕ) → i < n → f i ≡ None → elements f i (n - i) ≡ None
elements_fail f i n lt e =
    let more : n - i ≡ suc (n - (i + 1)) = omega arith in
    ap (elements f i) more ∙ ap (option_and_then (λ x. option_map (λ xs. x ∷ xs) (elements f (i + 1) (n - (i + 1))))) e

pub elements_end : {A : Type 0} (f : ℕ → Option A) (i n : ℕ) → n ≤ i → elements f i (n - i) ≡ Some []
elements_end f i n le = ap (elements f i) (let none : n - i ≡ 0 = omega arith in none)

-- ---- a node without what it has beside its children

-- what is left after children
after_children : (own : Own) (o : Option (Found Nodes)) → left_of (option_and_then (λ (cs : Found Nodes). Some (record { found = node own.encoding own.metadata cs.found own.buffers; left = cs.left })) o) ≡ left_of o
after_children own None = refl
after_children own (Some cs) = refl

pub walked : (b : List ℕ) (buffers : List (List ℕ)) (read : Reader) (left p : ℕ) → left_of (one_node_at b buffers read left p) ≡ walked_at b buffers read left p
unfolding one_node_at walked_at own_at targets_at
walked b buffers read left p =
    by (after_node left) (or_zero (number_field b p NODE_ENCODING 2)) (or_else [] (bytes_field b p NODE_METADATA)) (or_empty 4 (vector_field b p NODE_BUFFERS 4)) (λ v. named_buffers b buffers v) (or_empty 4 (vector_field b p NODE_CHILDREN 4)) (λ rest v. children_at b read v v.count 0 rest)
  where
    by : (r e : Option ℕ) (m : Option (List ℕ)) (ps : Option VectorShape) (named : VectorShape → Option (List (List ℕ))) (ts : Option VectorShape) (cs : ℕ → VectorShape → Option (Found Nodes))
        → left_of (option_and_then (λ rest. option_and_then (λ (own : Own). option_and_then (λ (v : VectorShape). option_and_then (λ (cs : Found Nodes). Some (record { found = node own.encoding own.metadata cs.found own.buffers; left = cs.left })) (cs rest v)) ts)
        (option_and_then (λ encoding. option_and_then (λ metadata. option_and_then (λ places. option_and_then (λ bs. Some (record { encoding = encoding; metadata = metadata; buffers = bs })) (named places)) ps) m) e)) r)
        ≡ option_and_then (λ rest. option_and_then (λ v. left_of (cs rest v)) (option_and_then (λ encoding. option_and_then (λ metadata. option_and_then (λ places. option_and_then (λ count. ts) (option_map length (named places))) ps) m) e)) r
    by None e m ps named ts cs = refl
    by (Some r) None m ps named ts cs = refl
    by (Some r) (Some e) None ps named ts cs = refl
    by (Some r) (Some e) (Some m) None named ts cs = refl
    by (Some r) (Some e) (Some m) (Some v) named ts cs = last r e m (named v) ts (cs r)
      where
        last : (r e : ℕ) (m : List ℕ) (bs : Option (List (List ℕ))) (ts : Option VectorShape) (cs : VectorShape → Option (Found Nodes))
            → left_of (option_and_then (λ (own : Own). option_and_then (λ (v : VectorShape). option_and_then (λ (cs : Found Nodes). Some (record { found = node own.encoding own.metadata cs.found own.buffers; left = cs.left })) (cs v)) ts) (option_and_then (λ bs. Some (record { encoding = e; metadata = m; buffers = bs })) bs))
            ≡ option_and_then (λ v. left_of (cs v)) (option_and_then (λ count. ts) (option_map length bs))
        last r e m None ts cs = refl
        last r e m (Some bs) None cs = refl
        last r e m (Some bs) (Some v) cs = after_children (record { encoding = e; metadata = m; buffers = bs }) (cs v)

-- ---- levels

pub no_level : (b : List ℕ) (buffers : List (List ℕ)) (levels left p : ℕ) → levels ≡ 0 → node_at b buffers levels left p ≡ None
unfolding node_at
no_level b buffers zero left p e = refl
no_level b buffers (suc levels) left p e = absurd (omega arith)

pub one_walked : (b : List ℕ) (buffers : List (List ℕ)) (levels left p : ℕ) → 1 ≤ levels → left_of (node_at b buffers levels left p) ≡ walked_at b buffers (node_at b buffers (levels - 1)) left p
one_walked b buffers levels left p h = ap left_of (one_level b buffers levels left p h) ∙ walked b buffers (node_at b buffers (levels - 1)) left p

-- ---- children

-- what is left after a first child and the others
abbrev after_first : List ℕ → Reader → VectorShape → ℕ → ℕ → Option (Found Node) → Option ℕ
after_first b read v count i first = left_of (option_and_then (λ (f : Found Node). option_and_then (λ (fs : Found Nodes). Some (record { found = child f.found fs.found; left = fs.left })) (children_at b read v count (i + 1) f.left)) first)

same_left : (n : Node) (o : Option (Found Nodes)) → left_of (option_and_then (λ (fs : Found Nodes). Some (record { found = child n fs.found; left = fs.left })) o) ≡ left_of o
same_left n None = refl
same_left n (Some fs) = refl

after_none : (b : List ℕ) (read : Reader) (v : VectorShape) (count i : ℕ) (first : Option (Found Node)) → left_of first ≡ None → after_first b read v count i first ≡ None
after_none b read v count i None e = refl
after_none b read v count i (Some f) e = absurd cc

after_some : (b : List ℕ) (read : Reader) (v : VectorShape) (count i : ℕ) (first : Option (Found Node)) (next : ℕ) → left_of first ≡ Some next → after_first b read v count i first ≡ left_of (children_at b read v count (i + 1) next)
after_some b read v count i None next e = absurd cc
after_some b read v count i (Some f) next e =
    let same : f.left ≡ next = cc in
    same_left f.found (children_at b read v count (i + 1) f.left) ∙ ap (λ l. left_of (children_at b read v count (i + 1) l)) same

from_first : (b : List ℕ) (read : Reader) (v : VectorShape) (count i left : ℕ) → i < count → left_of (children_at b read v (count - i) i left) ≡ after_first b read v (count - (i + 1)) i (child_at b read v i left)
unfolding children_at
from_first b read v count i left lt =
    let more : count - i ≡ suc (count - (i + 1)) = omega arith in
    ap (λ n. left_of (children_at b read v n i left)) more

pub no_child : (b : List ℕ) (read : Reader) (v : VectorShape) (count i left : ℕ) → i < count → left_of (child_at b read v i left) ≡ None → left_of (children_at b read v (count - i) i left) ≡ None
no_child b read v count i left lt e = from_first b read v count i left lt ∙ after_none b read v (count - (i + 1)) i (child_at b read v i left) e

pub one_child : (b : List ℕ) (read : Reader) (v : VectorShape) (count i left next : ℕ) → i < count → left_of (child_at b read v i left) ≡ Some next → left_of (children_at b read v (count - i) i left) ≡ left_of (children_at b read v (count - (i + 1)) (i + 1) next)
one_child b read v count i left next lt e = from_first b read v count i left lt ∙ after_some b read v (count - (i + 1)) i (child_at b read v i left) next e

pub no_more : (b : List ℕ) (read : Reader) (v : VectorShape) (count i left : ℕ) → count ≤ i → left_of (children_at b read v (count - i) i left) ≡ Some left
unfolding children_at
no_more b read v count i left le =
    let none : count - i ≡ 0 = omega arith in
    ap (λ n. left_of (children_at b read v n i left)) none
