-- What the reader finds stands there, is within the budgets, and leaves the rest of them.
use Rattle.std.proofs.Common.{◌≡◌, ℕ, zero, suc, ◌+◌, ◌-◌, ◌≤◌, Bool, true, false, cond, leb, List, [], Some, None, refl, sym, ap, subst, arith}
use Rattle.std.specs.Prelude.{option_and_then}
use Rattle.std.proofs.lemmas.Bool.{leb-true}
use Rattle.vortex_prelude.specs.Absent.{or_zero, or_else}
use Rattle.vortex_flat.specs.Targets.{VectorShape, number_field, bytes_field, vector_field, or_empty, table_element}
use Rattle.vortex_flat.proofs.TableLemmas.{bind_some}
use Rattle.vortex_body.specs.Body.{IsNodeAt, AreNodesAt, named_buffers}
use Rattle.vortex_body.specs.Node.{Node, node, Nodes, no_nodes, child, child_count, node_levels, nodes_levels, node_count, nodes_count}
use Rattle.vortex_body.specs.Reading.{Found, Reader, Own, after_node, own_at, child_at, children_at, one_node_at, node_at}
use Rattle.vortex_body.specs.declared.schema.TheConstants.{NODE_ENCODING, NODE_METADATA, NODE_CHILDREN, NODE_BUFFERS}

-- what was found at p, of so many levels at most
pub record IsFound (b : List ℕ) (buffers : List (List ℕ)) (n left p : ℕ) (f : Found Node) : Type 0 where
  pub stands : IsNodeAt b buffers p f.found
  pub few_levels : node_levels f.found ≤ n
  pub taken : f.left + node_count f.found ≡ left

-- the reader finds only what stands there
abbrev pub Finds : List ℕ → List (List ℕ) → ℕ → Reader → Type 0
Finds b buffers n read = (left p : ℕ) (f : Found Node) → read left p ≡ Some f → IsFound b buffers n left p f

some_same : {A : Type 0} (x y : A) → Some x ≡ Some y → x ≡ y
some_same x y e = cc

guarded : (c : Bool) (x y : ℕ) → cond c (Some x) None ≡ Some y → (c ≡ true) × (x ≡ y)
guarded true x y e = (refl, cc)
guarded false x y e = absurd cc

one_node : (left rest : ℕ) → after_node left ≡ Some rest → rest + 1 ≡ left
one_node left rest e =
    let g = guarded (leb 1 left) (left - 1) rest e in
    let some : 1 ≤ left = leb-true _ _ g.0 in
    omega (arith, g.1)

-- what a node has beside its children, and its places
pub record ByOwn (b : List ℕ) (buffers : List (List ℕ)) (p : ℕ) (own : Own) : Type 0 where
  pub places : VectorShape
  pub encoding_is : or_zero (number_field b p NODE_ENCODING 2) ≡ Some own.encoding
  pub metadata_is : or_else [] (bytes_field b p NODE_METADATA) ≡ Some own.metadata
  pub places_are : or_empty 4 (vector_field b p NODE_BUFFERS 4) ≡ Some places
  pub named_are : named_buffers b buffers places ≡ Some own.buffers

pub by_own : (b : List ℕ) (buffers : List (List ℕ)) (p : ℕ) (own : Own) → own_at b buffers p ≡ Some own → ByOwn b buffers p own
unfolding own_at
by_own b buffers p own e =
    let m = bind_some (or_zero (number_field b p NODE_ENCODING 2)) (λ m. option_and_then (λ metadata. option_and_then (λ v. option_and_then (λ named. Some (record { encoding = m; metadata = metadata; buffers = named })) (named_buffers b buffers v)) (or_empty 4 (vector_field b p NODE_BUFFERS 4))) (or_else [] (bytes_field b p NODE_METADATA))) own e in
    let metadata = bind_some (or_else [] (bytes_field b p NODE_METADATA)) (λ metadata. option_and_then (λ v. option_and_then (λ named. Some (record { encoding = m.0; metadata = metadata; buffers = named })) (named_buffers b buffers v)) (or_empty 4 (vector_field b p NODE_BUFFERS 4))) own m.2 in
    let v = bind_some (or_empty 4 (vector_field b p NODE_BUFFERS 4)) (λ v. option_and_then (λ named. Some (record { encoding = m.0; metadata = metadata.0; buffers = named })) (named_buffers b buffers v)) own metadata.2 in
    let named = bind_some (named_buffers b buffers v.0) (λ named. Some (record { encoding = m.0; metadata = metadata.0; buffers = named })) own v.2 in
    subst (ByOwn b buffers p) (some_same (record { encoding = m.0; metadata = metadata.0; buffers = named.0 }) own named.2)
    (record { places = v.0; encoding_is = m.1; metadata_is = metadata.1; places_are = v.1; named_are = named.1 })

-- children that were found from the i-th on
pub record AreFound (b : List ℕ) (buffers : List (List ℕ)) (n : ℕ) (v : VectorShape) (count i left : ℕ) (f : Found Nodes) : Type 0 where
  pub stand : AreNodesAt b buffers v i f.found
  pub count_is : child_count f.found ≡ count
  pub few_levels : nodes_levels f.found ≤ n
  pub taken : f.left + nodes_count f.found ≡ left

one_more : (b : List ℕ) (buffers : List (List ℕ)) (n : ℕ) (v : VectorShape) (count i left p : ℕ) (first : Found Node) (others : Found Nodes) → table_element b v i ≡ Some p → IsFound b buffers n left p first → AreFound b buffers n v count (i + 1) first.left others
    → AreFound b buffers n v (suc count) i left (record { found = child first.found others.found; left = others.left })
one_more b buffers n v count i left p first others place one more = record {
  stand = ((p, place, one.stands), subst (λ j. AreNodesAt b buffers v j others.found) (let next : i + 1 ≡ suc i = omega arith in next) more.stand);
  count_is = ap suc more.count_is;
  few_levels = omega (arith, one.few_levels, more.few_levels);
  taken = omega (arith, one.taken, more.taken);
}

children_found : (b : List ℕ) (buffers : List (List ℕ)) (n : ℕ) (read : Reader) (v : VectorShape) (count i left : ℕ) (f : Found Nodes) → Finds b buffers n read → children_at b read v count i left ≡ Some f → AreFound b buffers n v count i left f
unfolding children_at child_at
children_found b buffers n read v zero i left f finds e =
    subst (AreFound b buffers n v zero i left) (some_same (record { found = no_nodes; left = left }) f e) (record { stand = tt; count_is = refl; few_levels = omega arith; taken = omega arith })
children_found b buffers n read v (suc count) i left f finds e =
    let first = bind_some (child_at b read v i left) (λ first. option_and_then (λ (others : Found Nodes). Some (record { found = child first.found others.found; left = others.left })) (children_at b read v count (i + 1) first.left)) f e in
    let others = bind_some (children_at b read v count (i + 1) first.0.left) (λ (others : Found Nodes). Some (record { found = child first.0.found others.found; left = others.left })) f first.2 in
    let place = bind_some (table_element b v i) (read left) first.0 first.1 in
    subst (AreFound b buffers n v (suc count) i left) (some_same (record { found = child first.0.found others.0.found; left = others.0.left }) f others.2)
    (one_more b buffers n v count i left place.0 first.0 others.0 place.1 (finds left place.0 first.0 place.2) (children_found b buffers n read v count (i + 1) first.0.left others.0 finds others.1))

one_found : (b : List ℕ) (buffers : List (List ℕ)) (n : ℕ) (read : Reader) (left p : ℕ) (f : Found Node) → Finds b buffers n read → one_node_at b buffers read left p ≡ Some f → IsFound b buffers (suc n) left p f
unfolding one_node_at
one_found b buffers n read left p f finds e =
    let rest = bind_some (after_node left) (λ rest. option_and_then (λ (own : Own). option_and_then (λ (v : VectorShape). option_and_then (λ (cs : Found Nodes). Some (record { found = node own.encoding own.metadata cs.found own.buffers; left = cs.left })) (children_at b read v v.count 0 rest)) (or_empty 4 (vector_field b p NODE_CHILDREN 4))) (own_at b buffers p)) f e in
    let own = bind_some (own_at b buffers p) (λ (own : Own). option_and_then (λ (v : VectorShape). option_and_then (λ (cs : Found Nodes). Some (record { found = node own.encoding own.metadata cs.found own.buffers; left = cs.left })) (children_at b read v v.count 0 rest.0)) (or_empty 4 (vector_field b p NODE_CHILDREN 4))) f rest.2 in
    let v = bind_some (or_empty 4 (vector_field b p NODE_CHILDREN 4)) (λ (v : VectorShape). option_and_then (λ (cs : Found Nodes). Some (record { found = node own.0.encoding own.0.metadata cs.found own.0.buffers; left = cs.left })) (children_at b read v v.count 0 rest.0)) f own.2 in
    let cs = bind_some (children_at b read v.0 v.0.count 0 rest.0) (λ (cs : Found Nodes). Some (record { found = node own.0.encoding own.0.metadata cs.found own.0.buffers; left = cs.left })) f v.2 in
    let by = by_own b buffers p own.0 own.1 in
    let found = children_found b buffers n read v.0 v.0.count 0 rest.0 cs.0 finds cs.1 in
    subst (IsFound b buffers (suc n) left p) (some_same (record { found = node own.0.encoding own.0.metadata cs.0.found own.0.buffers; left = cs.0.left }) f cs.2) (record {
      stands = (by.places, v.0, by.encoding_is, by.metadata_is, by.places_are, by.named_are, v.1, sym found.count_is, found.stand);
      few_levels = omega (arith, found.few_levels);
      taken = omega (arith, found.taken, one_node left rest.0 rest.1);
    })

pub node_found : (b : List ℕ) (buffers : List (List ℕ)) (n : ℕ) → Finds b buffers n (node_at b buffers n)
unfolding node_at
node_found b buffers zero left p f e = absurd cc
node_found b buffers (suc n) left p f e = one_found b buffers n (node_at b buffers n) left p f (node_found b buffers n) e
