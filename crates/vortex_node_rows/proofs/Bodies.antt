-- The node of a body of bytes is one of bytes.
use Rattle.std.proofs.Common.{◌≡◌, ◌<◌, ℕ, zero, suc, ◌+◌, ◌-◌, List, [], ◌∷◌, Bool, true, false, Option, Some, None, IfSome, length, take, drop, refl, subst}
use Rattle.std.specs.Prelude.{slice_range, slice_get, option_and_then, nat_le, if◌then◌else◌, ◌==◌, ◌&&◌}
use Rattle.std.specs.List.{AllByRecursion}
use Rattle.std.specs.Option.{option_map}
use Rattle.std.proofs.lemmas.List.Elements.{All-take, All-drop, All-nil}
use Rattle.vortex_prelude.specs.Absent.{or_else}
use Rattle.vortex_prelude.specs.Elements.{elements}
use Rattle.vortex_flat.specs.Numbers.{number}
use Rattle.vortex_flat.specs.Targets.{VectorShape, element, bytes_field, vector_field, or_empty}
use Rattle.vortex_schema.proofs.Legal.{bytes_field-IsBytes}
use Rattle.vortex_terms.specs.Types.{IsBytes}
use Rattle.vortex_body.specs.Body.{BodyParts, BufferDescriptor, body_parts, descriptors_in, buffers_in, buffers_of, named_buffer, named_buffers, IsBody, IsNodeAt, AreNodesAt}
use Rattle.vortex_body.specs.Node.{Node, node, Nodes, no_nodes, child}
use Rattle.vortex_body.specs.Reading.{node_of}
use Rattle.vortex_body.specs.declared.schema.TheConstants.{ROOT_DESCRIPTORS, NODE_METADATA}
use Rattle.vortex_body.proofs.Bodies.{found_exactly}
use Rattle.vortex_node_rows.specs.ByteNode.{IsByteNode, AreByteNodes}
use Rattle.vortex_node_rows.proofs.Options.{some_same, none_some, bind_some, guarded}

take_bytes : (n : ℕ) (bs : List ℕ) → IsBytes bs → IsBytes (take n bs)
take_bytes n bs h = All-take (λ b. b < 256) n bs h

drop_bytes : (n : ℕ) (bs : List ℕ) → IsBytes bs → IsBytes (drop n bs)
drop_bytes n bs h = All-drop (λ b. b < 256) n bs h

-- ---- the parts of a body

abbrev parts_at : List ℕ → ℕ → ℕ → BodyParts
parts_at body start end = record { region = slice_range body 0 start; flat = slice_range body start end }

record AreParts (parts : BodyParts) : Type 0 where
  region : IsBytes parts.region
  flat : IsBytes parts.flat

parts_bytes : (body : List ℕ) (parts : BodyParts) → IsBytes body → body_parts body ≡ Some parts → AreParts parts
unfolding body_parts
parts_bytes body parts h e =
    let len = bind_some (number body (length body - 4) 4)
    (λ len. if nat_le (len + 4) (length body)
    then Some (parts_at body (length body - 4 - len) (length body - 4 - len + len)) else None) parts e in
    let start : ℕ = length body - 4 - len.0 in
    let g = guarded (nat_le (len.0 + 4) (length body)) (parts_at body start (start + len.0)) parts len.2 in
    subst AreParts g.1 (record {
      region = take_bytes (start - 0) (drop 0 body) (drop_bytes 0 body h);
      flat = take_bytes (start + len.0 - start) (drop start body) (drop_bytes start body h);
    })

one_more : (b : List ℕ) (found : Option (List (List ℕ))) (bs : List (List ℕ)) → IsBytes b
    → ((cs : List (List ℕ)) → found ≡ Some cs → AllByRecursion IsBytes cs)
    → option_map (λ cs. b ∷ cs) found ≡ Some bs → AllByRecursion IsBytes bs
one_more b None bs h k e = absurd (none_some bs e)
one_more b (Some cs) bs h k e = subst (AllByRecursion IsBytes) (some_same (b ∷ cs) bs e) (h, k cs refl)

if_both : (c : Bool) (found : Option (List (List ℕ))) (bs : List (List ℕ)) → (if c then found else None) ≡ Some bs
    → found ≡ Some bs
if_both true found bs e = e
if_both false found bs e = absurd (none_some bs e)

region_bytes : (region : List ℕ) (ds : List BufferDescriptor) (bs : List (List ℕ)) → IsBytes region
    → buffers_in region ds ≡ Some bs → AllByRecursion IsBytes bs
unfolding buffers_in
region_bytes region [] bs h e = subst (AllByRecursion IsBytes) (some_same [] bs e) tt
region_bytes region (d ∷ ds) bs h e =
    one_more (take d.length (drop d.padding region)) (buffers_in (drop (d.padding + d.length) region) ds) bs
    (take_bytes d.length (drop d.padding region) (drop_bytes d.padding region h))
    (λ cs. region_bytes (drop (d.padding + d.length) region) ds cs (drop_bytes (d.padding + d.length) region h))
    (if_both (d.compression == 0 && nat_le (d.padding + d.length) (length region)) _ bs e)

buffers_bytes : (parts : BodyParts) (p : ℕ) (bs : List (List ℕ)) → IsBytes parts.region → buffers_of parts p ≡ Some bs
    → AllByRecursion IsBytes bs
unfolding buffers_of
buffers_bytes parts p bs h e =
    let v = bind_some (or_empty 8 (vector_field parts.flat p ROOT_DESCRIPTORS 8))
    (λ v. option_and_then (buffers_in parts.region) (descriptors_in parts.flat v)) bs e in
    let ds = bind_some (descriptors_in parts.flat v.0) (buffers_in parts.region) bs v.2 in
    region_bytes parts.region ds.0 bs h ds.2

-- ---- a node

get_bytes : (bs : List (List ℕ)) (i : ℕ) (b : List ℕ) → AllByRecursion IsBytes bs → slice_get bs i ≡ Some b → IsBytes b
get_bytes [] i b h e = absurd (none_some b e)
get_bytes (c ∷ bs) zero b h e = subst IsBytes (some_same c b e) h.0
get_bytes (c ∷ bs) (suc i) b h e = get_bytes bs i b h.1 e

elements_bytes : (f : ℕ → Option (List ℕ)) (i n : ℕ) (bs : List (List ℕ))
    → ((j : ℕ) (b : List ℕ) → f j ≡ Some b → IsBytes b) → elements f i n ≡ Some bs → AllByRecursion IsBytes bs
elements_bytes f i zero bs h e = subst (AllByRecursion IsBytes) (some_same [] bs e) tt
elements_bytes f i (suc n) bs h e =
    let b = bind_some (f i) (λ b. option_map (λ cs. b ∷ cs) (elements f (i + 1) n)) bs e in
    one_more b.0 (elements f (i + 1) n) bs (h i b.0 b.1) (λ cs. elements_bytes f (i + 1) n cs h) b.2

named_bytes : (b : List ℕ) (buffers bs : List (List ℕ)) (v : VectorShape) → AllByRecursion IsBytes buffers
    → named_buffers b buffers v ≡ Some bs → AllByRecursion IsBytes bs
named_bytes b buffers bs v h e = elements_bytes (named_buffer b buffers v) 0 v.count bs each e
  where
    each : (j : ℕ) (c : List ℕ) → named_buffer b buffers v j ≡ Some c → IsBytes c
    each j c k =
        let place = bind_some (number b (element v j) 4) (slice_get buffers) c k in
        get_bytes buffers place.0 c h place.2

metadata_bytes : (o : Option (Option (List ℕ))) (m : List ℕ) → ((x : Option (List ℕ)) → o ≡ Some x → IfSome x IsBytes)
    → or_else [] o ≡ Some m → IsBytes m
metadata_bytes None m h e = absurd (none_some m e)
metadata_bytes (Some None) m h e = subst IsBytes (some_same [] m e) (All-nil (λ b. b < 256))
metadata_bytes (Some (Some x)) m h e = subst IsBytes (some_same x m e) (h (Some x) refl)

mutual
  node_bytes : (x : Node) (b : List ℕ) (buffers : List (List ℕ)) (p : ℕ) → IsBytes b → AllByRecursion IsBytes buffers
      → IsNodeAt b buffers p x → IsByteNode x
  node_bytes (node e m cs bs) b buffers p h k s = (
    metadata_bytes (bytes_field b p NODE_METADATA) m (λ x. bytes_field-IsBytes b p NODE_METADATA x h) s.3,
    named_bytes b buffers bs s.0 k s.5,
    nodes_bytes cs b buffers s.1 0 h k s.8,
  )

  nodes_bytes : (xs : Nodes) (b : List ℕ) (buffers : List (List ℕ)) (v : VectorShape) (i : ℕ) → IsBytes b
      → AllByRecursion IsBytes buffers → AreNodesAt b buffers v i xs → AreByteNodes xs
  nodes_bytes no_nodes b buffers v i h k s = tt
  nodes_bytes (child x xs) b buffers v i h k s =
      (node_bytes x b buffers s.0.0 h k s.0.2, nodes_bytes xs b buffers v (suc i) h k s.1)

pub body_bytes : (body : List ℕ) (x : Node) → IsBytes body → node_of body ≡ Some x → IsByteNode x
body_bytes body x h e =
    let is : IsBody body x = (found_exactly body x).0 e in
    let parts = parts_bytes body is.parts h is.parts_are in
    node_bytes x is.parts.flat is.buffers is.place parts.flat
    (buffers_bytes is.parts is.root is.buffers parts.region is.buffers_are) is.stands
