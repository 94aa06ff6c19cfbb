-- How a tree is made.
use Rattle.std.proofs.Common.{◌≡◌, ℕ, suc, ◌+◌, ◌-◌, ◌<◌, ◌≤◌, true, List, [], ◌∷◌, ◌++◌, length, Option, Some, None, refl, sym, ap, subst, ◌∙◌, arith}
use Rattle.std.specs.Prelude.{option_and_then, is_some, unwrap_or, Result, Ok, Err, IsErrAnd}
use Rattle.std.specs.Option.{option_map}
use Rattle.vortex_prelude.specs.Absent.{or_zero, or_else}
use Rattle.vortex_flat.specs.Targets.{VectorShape, VectorView, vector_view, number_field, bytes_field, vector_field, or_empty}
use Rattle.vortex_body.specs.Answers.{Answers, Refuses}
use Rattle.vortex_body.specs.declared.error.BodyError.{BodyError}
use Rattle.vortex_body.specs.declared.error.BodyError.TheVariants.{Malformed, OutOfMemory}
use Rattle.vortex_body.specs.Body.{named_buffers}
use Rattle.vortex_body.specs.Node.{Node, Nodes, child, node, nodes_from, most_levels, most_nodes}
use Rattle.vortex_body.specs.Reading.{Found, Reader, Own, left_of, after_node, own_at, child_at, children_at, one_node_at, node_at, bounded_node_at}
use Rattle.vortex_body.specs.inner.Runs.{BodyView}
use Rattle.vortex_body.specs.inner.Walked.{targets_at, made_at}
use Rattle.vortex_body.specs.declared.schema.TheConstants.{NODE_ENCODING, NODE_METADATA, NODE_CHILDREN, NODE_BUFFERS}
use Rattle.vortex_body.proofs.Standing.{one_level}

-- where all of a node but its children stands, so does what it has beside them
pub own_stands : (b : List ℕ) (buffers : List (List ℕ)) (p : ℕ) (v : VectorShape) → targets_at b buffers p ≡ Some v → is_some (own_at b buffers p) ≡ true
unfolding own_at targets_at
own_stands b buffers p v h =
    by (or_zero (number_field b p NODE_ENCODING 2)) (or_else [] (bytes_field b p NODE_METADATA)) (or_empty 4 (vector_field b p NODE_BUFFERS 4)) (λ v. named_buffers b buffers v) (or_empty 4 (vector_field b p NODE_CHILDREN 4)) h
  where
    by : (e : Option ℕ) (m : Option (List ℕ)) (ps : Option VectorShape) (named : VectorShape → Option (List (List ℕ))) (ts : Option VectorShape)
        → option_and_then (λ encoding. option_and_then (λ metadata. option_and_then (λ places. option_and_then (λ count. ts) (option_map length (named places))) ps) m) e ≡ Some v
        → is_some {T = Own} (option_and_then (λ encoding. option_and_then (λ metadata. option_and_then (λ places. option_and_then (λ bs. Some (record { encoding = encoding; metadata = metadata; buffers = bs })) (named places)) ps) m) e) ≡ true
    by None m ps named ts h = absurd cc
    by (Some e) None ps named ts h = absurd cc
    by (Some e) (Some m) None named ts h = absurd cc
    by (Some e) (Some m) (Some w) named ts h = last e m (named w) ts h
      where
        last : (e : ℕ) (m : List ℕ) (bs : Option (List (List ℕ))) (ts : Option VectorShape) → option_and_then (λ count. ts) (option_map length bs) ≡ Some v → is_some {T = Own} (option_and_then (λ bs. Some (record { encoding = e; metadata = m; buffers = bs })) bs) ≡ true
        last e m None ts h = absurd cc
        last e m (Some bs) ts h = refl

-- what follows a node's own parts, when only the offsets are told
own_and_targets : {A : Type 0} (own : Option Own) (d : Own) (ts targets : Option VectorShape) (k : Own → VectorShape → Option A) → ((v : VectorShape) → targets ≡ Some v → is_some own ≡ true) → targets ≡ option_and_then (λ o. ts) own
    → option_and_then (λ o. option_and_then (λ v. k o v) ts) own ≡ option_and_then (λ v. k (unwrap_or own d) v) targets
own_and_targets None d ts targets k some e = ap (option_and_then (λ v. k d v)) (sym e)
own_and_targets (Some o) d ts targets k some e = ap (option_and_then (λ v. k o v)) (sym e)

targets_are : (b : List ℕ) (buffers : List (List ℕ)) (p : ℕ) → targets_at b buffers p ≡ option_and_then (λ o. or_empty 4 (vector_field b p NODE_CHILDREN 4)) (own_at b buffers p)
unfolding own_at targets_at
targets_are b buffers p =
    by (or_zero (number_field b p NODE_ENCODING 2)) (or_else [] (bytes_field b p NODE_METADATA)) (or_empty 4 (vector_field b p NODE_BUFFERS 4)) (λ v. named_buffers b buffers v) (or_empty 4 (vector_field b p NODE_CHILDREN 4))
  where
    by : (e : Option ℕ) (m : Option (List ℕ)) (ps : Option VectorShape) (named : VectorShape → Option (List (List ℕ))) (ts : Option VectorShape)
        → option_and_then (λ encoding. option_and_then (λ metadata. option_and_then (λ places. option_and_then (λ count. ts) (option_map length (named places))) ps) m) e
        ≡ option_and_then (λ (o : Own). ts) (option_and_then (λ encoding. option_and_then (λ metadata. option_and_then (λ places. option_and_then (λ bs. Some (record { encoding = encoding; metadata = metadata; buffers = bs })) (named places)) ps) m) e)
    by None m ps named ts = refl
    by (Some e) None ps named ts = refl
    by (Some e) (Some m) None named ts = refl
    by (Some e) (Some m) (Some v) named ts = last e m (named v) ts
      where
        last : (e : ℕ) (m : List ℕ) (bs : Option (List (List ℕ))) (ts : Option VectorShape) → option_and_then (λ count. ts) (option_map length bs) ≡ option_and_then (λ (o : Own). ts) (option_and_then (λ bs. Some (record { encoding = e; metadata = m; buffers = bs })) bs)
        last e m None ts = refl
        last e m (Some bs) ts = refl

made : (b : List ℕ) (buffers : List (List ℕ)) (read : Reader) (left p : ℕ) → one_node_at b buffers read left p ≡ made_at b buffers read left p
unfolding one_node_at made_at
made b buffers read left p =
    ap (λ f. option_and_then f (after_node left)) (λ i rest. own_and_targets (own_at b buffers p) (record { encoding = 0; metadata = []; buffers = [] }) (or_empty 4 (vector_field b p NODE_CHILDREN 4)) (targets_at b buffers p)
    (λ (own : Own) (v : VectorShape). option_and_then (λ (cs : Found Nodes). Some (record { found = node own.encoding own.metadata cs.found own.buffers; left = cs.left })) (children_at b read v v.count 0 rest)) (own_stands b buffers p) (targets_are b buffers p) i)

pub one_made : (b : List ℕ) (buffers : List (List ℕ)) (levels left p : ℕ) → 1 ≤ levels → node_at b buffers levels left p ≡ made_at b buffers (node_at b buffers (levels - 1)) left p
one_made b buffers levels left p h = one_level b buffers levels left p h ∙ made b buffers (node_at b buffers (levels - 1)) left p

-- ---- children

-- these before others
abbrev pub before : List Node → Nodes → Nodes
before [] ns = ns
before (m ∷ ms) ns = child m (before ms ns)

-- what was found, behind these
abbrev pub behind : List Node → Option (Found Nodes) → Option (Found Nodes)
behind ms o = option_map (λ (f : Found Nodes). record { found = before ms f.found; left = f.left }) o

before_one : (ms : List Node) (n : Node) (ns : Nodes) → before (ms ++ (n ∷ [])) ns ≡ before ms (child n ns)
before_one [] n ns = refl
before_one (m ∷ ms) n ns = ap (child m) (before_one ms n ns)

before_none : (ms : List Node) → before ms (nodes_from []) ≡ nodes_from ms
before_none [] = refl
before_none (m ∷ ms) = ap (child m) (before_none ms)

behind_more : (ms : List Node) (n : Node) (o : Option (Found Nodes)) → behind ms (option_and_then (λ (fs : Found Nodes). Some (record { found = child n fs.found; left = fs.left })) o) ≡ behind (ms ++ (n ∷ [])) o
behind_more ms n None = refl
behind_more ms n (Some fs) = λ i. Some (record { found = sym (before_one ms n fs.found) i; left = fs.left })

first_and : (b : List ℕ) (read : Reader) (v : VectorShape) (count i left : ℕ) → i < count → children_at b read v (count - i) i left ≡ option_and_then (λ (f : Found Node). option_and_then (λ (fs : Found Nodes). Some (record { found = child f.found fs.found; left = fs.left })) (children_at b read v (count - (i + 1)) (i + 1) f.left)) (child_at b read v i left)
unfolding children_at
first_and b read v count i left lt =
    let more : count - i ≡ suc (count - (i + 1)) = omega arith in
    ap (λ n. children_at b read v n i left) more

pub child_fails : (b : List ℕ) (read : Reader) (v : VectorShape) (count i left : ℕ) (ms : List Node) (total : Option (Found Nodes)) → i < count → child_at b read v i left ≡ None → behind ms (children_at b read v (count - i) i left) ≡ total → total ≡ None
child_fails b read v count i left ms total lt e h = sym h ∙ ap (behind ms) (first_and b read v count i left lt ∙ ap (option_and_then _) e)

pub child_made : (b : List ℕ) (read : Reader) (v : VectorShape) (count i left : ℕ) (ms : List Node) (n : Node) (rest : ℕ) (total : Option (Found Nodes)) → i < count → child_at b read v i left ≡ Some (record { found = n; left = rest }) → behind ms (children_at b read v (count - i) i left) ≡ total
    → behind (ms ++ (n ∷ [])) (children_at b read v (count - (i + 1)) (i + 1) rest) ≡ total
child_made b read v count i left ms n rest total lt e h =
    sym (behind_more ms n (children_at b read v (count - (i + 1)) (i + 1) rest)) ∙ sym (ap (behind ms) (first_and b read v count i left lt ∙ ap (option_and_then _) e)) ∙ h

pub children_made : (b : List ℕ) (read : Reader) (v : VectorShape) (count i left : ℕ) (ms : List Node) (total : Option (Found Nodes)) → count ≤ i → behind ms (children_at b read v (count - i) i left) ≡ total → total ≡ Some (record { found = nodes_from ms; left = left })
unfolding children_at
children_made b read v count i left ms total le h =
    let none : count - i ≡ 0 = omega arith in
    sym h ∙ ap (λ n. behind ms (children_at b read v n i left)) none ∙ (λ j. Some (record { found = before_none ms j; left = left }))

-- ---- refusals

pub passes_on : {X Y : Type 0} (view : X → Y) (r : Result X BodyError) (e : BodyError) (found : Option Y) → IsErrAnd r (λ y. y ≡ e) → Refuses e found → Answers view r found
passes_on view (Ok x) e found h n = absurd h
passes_on view (Err y) e found h n = subst (λ z. Refuses z found) (sym h) n

pub child_refused : (b : List ℕ) (read : Reader) (v : VectorShape) (count i left : ℕ) (ms : List Node) (e : BodyError) (total : Option (Found Nodes)) → i < count → Refuses e (child_at b read v i left) → behind ms (children_at b read v (count - i) i left) ≡ total → Refuses e total
child_refused b read v count i left ms Malformed total lt e h = child_fails b read v count i left ms total lt e h
child_refused b read v count i left ms OutOfMemory total lt e h = tt

-- ---- a whole tree

targets_there : (b : List ℕ) (o : Option VectorShape) (w : VectorView) → option_map (vector_view b) o ≡ Some w → (v : VectorShape) × (o ≡ Some v)
targets_there b None w e = absurd cc
targets_there b (Some v) w e = (v, refl)

pub own_moved : (b c : List ℕ) (buffers others : List (List ℕ)) (p q : ℕ) (w : VectorView) → option_map (vector_view b) (targets_at b buffers p) ≡ Some w → b ≡ c → buffers ≡ others → p ≡ q → is_some (own_at c others q) ≡ true
own_moved b c buffers others p q w e same_buffer same_buffers same_place =
    let v = targets_there b (targets_at b buffers p) w e in
    (λ i. is_some (own_at (sym same_buffer i) (sym same_buffers i) (sym same_place i))) ∙ own_stands b buffers p v.0 v.1

pub not_walked : (b c : List ℕ) (buffers others : List (List ℕ)) (p : ℕ) → b ≡ c → buffers ≡ others → left_of (node_at b buffers most_levels most_nodes p) ≡ None → bounded_node_at c others p ≡ None
unfolding bounded_node_at
not_walked b c buffers others p same_buffer same_buffers e =
    (λ i. option_map (λ (f : Found Node). f.found) (node_at (sym same_buffer i) (sym same_buffers i) most_levels most_nodes p)) ∙ by (node_at b buffers most_levels most_nodes p) e
  where
    by : (o : Option (Found Node)) → left_of o ≡ None → option_map (λ (f : Found Node). f.found) o ≡ None
    by None e = refl
    by (Some f) e = absurd cc

pub whole_made : (b : List ℕ) (buffers : List (List ℕ)) (p : ℕ) (v : BodyView) (f : Found Node) → ◌≡◌ {A = Option BodyView} (Some (record { flat = b; buffers = buffers })) (Some v) → node_at v.flat v.buffers most_levels most_nodes p ≡ Some f → bounded_node_at b buffers p ≡ Some f.found
unfolding bounded_node_at
whole_made b buffers p v f same e =
    ap (λ (w : BodyView). option_map (λ (f : Found Node). f.found) (node_at w.flat w.buffers most_levels most_nodes p)) (by same) ∙ ap (option_map (λ (f : Found Node). f.found)) e
  where
    by : ◌≡◌ {A = Option BodyView} (Some (record { flat = b; buffers = buffers })) (Some v) → ◌≡◌ {A = BodyView} (record { flat = b; buffers = buffers }) v
    by same = cc

pub whole_refused : (b : List ℕ) (buffers others : List (List ℕ)) (p : ℕ) (e : BodyError) → buffers ≡ others → Refuses e (node_at b buffers most_levels most_nodes p) → Refuses e (bounded_node_at b others p)
unfolding bounded_node_at
whole_refused b buffers others p Malformed same e = (λ i. option_map (λ (f : Found Node). f.found) (node_at b (sym same i) most_levels most_nodes p)) ∙ ap (option_map (λ (f : Found Node). f.found)) e
whole_refused b buffers others p OutOfMemory same e = tt
