-- What stands at a place within the budgets, the reader finds; so at most one node stands there.
use Rattle.std.proofs.Common.{◌≡◌, ℕ, zero, suc, ◌+◌, ◌-◌, ◌≤◌, List, [], Option, Some, refl, sym, ap, subst, ◌∙◌, arith}
use Rattle.std.proofs.lemmas.Bool.{le-leb}
use Rattle.vortex_prelude.specs.Absent.{or_zero, or_else}
use Rattle.vortex_flat.specs.Targets.{VectorShape, number_field, bytes_field, vector_field, or_empty, table_element}
use Rattle.vortex_body.specs.Body.{IsNodeAt, AreNodesAt, named_buffers}
use Rattle.vortex_body.specs.Node.{Node, node, Nodes, no_nodes, child, child_count, node_levels, nodes_levels, node_count, nodes_count}
use Rattle.vortex_body.specs.Reading.{Found, Reader, Own, after_node, own_at, child_at, children_at, one_node_at, node_at}
use Rattle.vortex_body.specs.declared.schema.TheConstants.{NODE_ENCODING, NODE_METADATA, NODE_CHILDREN, NODE_BUFFERS}

-- the node is found, and so much is left
abbrev pub found_node : Node → ℕ → Option (Found Node)
found_node n left = Some (record { found = n; left = left - node_count n })

-- the children are found, and so much is left
abbrev pub found_nodes : Nodes → ℕ → Option (Found Nodes)
found_nodes ns left = Some (record { found = ns; left = left - nodes_count ns })

-- this was found, and so much is left
abbrev and_left : {A : Type 0} → A → ℕ → Option (Found A)
and_left x left = Some (record { found = x; left = left })

node_there : (left : ℕ) → 1 ≤ left → after_node left ≡ Some (left - 1)
node_there left h = rw (le-leb _ _ h) refl

own_there : (b : List ℕ) (buffers : List (List ℕ)) (p e : ℕ) (m : List ℕ) (v : VectorShape) (bs : List (List ℕ)) → or_zero (number_field b p NODE_ENCODING 2) ≡ Some e → or_else [] (bytes_field b p NODE_METADATA) ≡ Some m → or_empty 4 (vector_field b p NODE_BUFFERS 4) ≡ Some v → named_buffers b buffers v ≡ Some bs
    → own_at b buffers p ≡ Some (record { encoding = e; metadata = m; buffers = bs })
unfolding own_at
own_there b buffers p e m v bs h i j k = rw (h, i, j, k) refl

one_there : (b : List ℕ) (buffers : List (List ℕ)) (read : Reader) (left p : ℕ) (own : Own) (v : VectorShape) (cs : Nodes) → 1 ≤ left → own_at b buffers p ≡ Some own → or_empty 4 (vector_field b p NODE_CHILDREN 4) ≡ Some v → children_at b read v v.count 0 (left - 1) ≡ found_nodes cs (left - 1)
    → one_node_at b buffers read left p ≡ found_node (node own.encoding own.metadata cs own.buffers) left
unfolding one_node_at
one_there b buffers read left p own v cs some o t c = rw (node_there left some, o, t, c) (ap (and_left (node own.encoding own.metadata cs own.buffers)) (let same : left - 1 - nodes_count cs ≡ left - suc (nodes_count cs) = omega arith in same))

no_child_there : (b : List ℕ) (read : Reader) (v : VectorShape) (i left : ℕ) → children_at b read v 0 i left ≡ found_nodes no_nodes left
unfolding children_at
no_child_there b read v i left = ap (and_left no_nodes) (let same : left ≡ left - 0 = omega arith in same)

more_there : (b : List ℕ) (read : Reader) (v : VectorShape) (i left p : ℕ) (n : Node) (ns : Nodes) → table_element b v i ≡ Some p → read left p ≡ found_node n left → children_at b read v (child_count ns) (i + 1) (left - node_count n) ≡ found_nodes ns (left - node_count n)
    → children_at b read v (suc (child_count ns)) i left ≡ found_nodes (child n ns) left
unfolding children_at child_at
more_there b read v i left p n ns t e h = rw (t, e, h) (ap (and_left (child n ns)) (let same : left - node_count n - nodes_count ns ≡ left - (node_count n + nodes_count ns) = omega arith in same))

pub one_level : (b : List ℕ) (buffers : List (List ℕ)) (n left p : ℕ) → 1 ≤ n → node_at b buffers n left p ≡ one_node_at b buffers (node_at b buffers (n - 1)) left p
unfolding node_at
one_level b buffers zero left p h = absurd (omega arith)
one_level b buffers (suc n) left p h = ap (λ m. one_node_at b buffers (node_at b buffers m) left p) (let same : n ≡ suc n - 1 = omega arith in same)

mutual
  pub node_stands : (t : Node) (b : List ℕ) (buffers : List (List ℕ)) (n left p : ℕ) → IsNodeAt b buffers p t → node_levels t ≤ n → node_count t ≤ left → node_at b buffers n left p ≡ found_node t left
  node_stands (node e m cs bs) b buffers n left p s lv nd =
      let own : Own = record { encoding = e; metadata = m; buffers = bs } in
      let some : 1 ≤ left = omega (arith, nd) in
      let more : 1 ≤ n = omega (arith, lv) in
      let children : children_at b (node_at b buffers (n - 1)) s.1 s.1.count 0 (left - 1) ≡ found_nodes cs (left - 1) =
      ap (λ count. children_at b (node_at b buffers (n - 1)) s.1 count 0 (left - 1)) s.7 ∙ nodes_stand cs b buffers (n - 1) (left - 1) s.1 0 s.8 (omega (arith, lv)) (omega (arith, nd)) in
      one_level b buffers n left p more ∙ one_there b buffers (node_at b buffers (n - 1)) left p own s.1 cs some (own_there b buffers p e m s.0 bs s.2 s.3 s.4 s.5) s.6 children

  nodes_stand : (ts : Nodes) (b : List ℕ) (buffers : List (List ℕ)) (n left : ℕ) (v : VectorShape) (i : ℕ) → AreNodesAt b buffers v i ts → nodes_levels ts ≤ n → nodes_count ts ≤ left → children_at b (node_at b buffers n) v (child_count ts) i left ≡ found_nodes ts left
  nodes_stand no_nodes b buffers n left v i s lv nd = no_child_there b (node_at b buffers n) v i left
  nodes_stand (child t ts) b buffers n left v i s lv nd =
      more_there b (node_at b buffers n) v i left s.0.0 t ts s.0.1 (node_stands t b buffers n left s.0.0 s.0.2 (omega (arith, lv)) (omega (arith, nd)))
      (nodes_stand ts b buffers n (left - node_count t) v (i + 1) (subst (λ j. AreNodesAt b buffers v j ts) (let next : suc i ≡ i + 1 = omega arith in next) s.1) (omega (arith, lv)) (omega (arith, nd)))

same_found : (m n : Node) (l k : ℕ) → and_left m l ≡ and_left n k → m ≡ n
same_found m n l k e = ap (λ (f : Found Node). f.found) (some_same (record { found = m; left = l }) (record { found = n; left = k }) e)
  where
    some_same : (x y : Found Node) → Some x ≡ Some y → x ≡ y
    some_same x y e = cc

pub one_node_stands : (m n : Node) (b : List ℕ) (buffers : List (List ℕ)) (p : ℕ) → IsNodeAt b buffers p m → IsNodeAt b buffers p n → m ≡ n
one_node_stands m n b buffers p h k =
    let levels = node_levels m + node_levels n in
    let left = node_count m + node_count n in
    let one = node_stands m b buffers levels left p h (omega arith) (omega arith) in
    let other = node_stands n b buffers levels left p k (omega arith) (omega arith) in
    same_found m n (left - node_count m) (left - node_count n) (sym one ∙ other)
