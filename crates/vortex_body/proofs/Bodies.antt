-- The node that is found in a body is the one that the body stands for.
use Rattle.std.proofs.Common.{◌≡◌, ℕ, ◌-◌, List, Option, Some, None, refl, ap, subst, ◌∙◌, arith}
use Rattle.std.specs.Prelude.{option_and_then, ◌↔◌}
use Rattle.std.specs.Option.{option_map, option_flatten}
use Rattle.vortex_flat.specs.Targets.{root_place, table_field}
use Rattle.vortex_flat.proofs.TableLemmas.{bind_some}
use Rattle.vortex_body.specs.Body.{BodyParts, IsBody, body_parts, buffers_of}
use Rattle.vortex_body.specs.Node.{Node, node_count, most_levels, most_nodes}
use Rattle.vortex_body.specs.Reading.{Found, bounded_node_at, node_at, node_in, node_of}
use Rattle.vortex_body.specs.declared.schema.TheConstants.{ROOT_NODE}
use Rattle.vortex_body.proofs.Found.{node_found}
use Rattle.vortex_body.proofs.Standing.{node_stands}

mapped : (o : Option (Found Node)) (n : Node) → option_map (λ f. f.found) o ≡ Some n → (f : Found Node) × (o ≡ Some f) × (f.found ≡ n)
mapped (Some f) n e = (f, refl, cc)
mapped None n e = absurd cc

flattened : (o : Option (Option ℕ)) (x : ℕ) → option_flatten o ≡ Some x → o ≡ Some (Some x)
flattened None x e = absurd cc
flattened (Some None) x e = absurd cc
flattened (Some (Some y)) x e = ap Some e

in_parts : (body : List ℕ) (parts : BodyParts) (n : Node) → body_parts body ≡ Some parts → node_in parts ≡ Some n → IsBody body n
unfolding node_in bounded_node_at
in_parts body parts n is e =
    let root = bind_some (root_place parts.flat) (λ root. option_and_then (λ buffers. option_and_then (λ place. option_map (λ f. f.found) (node_at parts.flat buffers most_levels most_nodes place)) (option_flatten (table_field parts.flat root ROOT_NODE))) (buffers_of parts root)) n e in
    let buffers = bind_some (buffers_of parts root.0) (λ buffers. option_and_then (λ place. option_map (λ f. f.found) (node_at parts.flat buffers most_levels most_nodes place)) (option_flatten (table_field parts.flat root.0 ROOT_NODE))) n root.2 in
    let place = bind_some (option_flatten (table_field parts.flat root.0 ROOT_NODE)) (λ place. option_map (λ f. f.found) (node_at parts.flat buffers.0 most_levels most_nodes place)) n buffers.2 in
    let f = mapped (node_at parts.flat buffers.0 most_levels most_nodes place.0) n place.2 in
    let found = node_found parts.flat buffers.0 most_levels most_nodes place.0 f.0 f.1 in
    subst (IsBody body) f.2 (record {
      parts = parts;
      root = root.0;
      place = place.0;
      buffers = buffers.0;
      parts_are = is;
      root_is = root.1;
      buffers_are = buffers.1;
      place_is = flattened (table_field parts.flat root.0 ROOT_NODE) place.0 place.1;
      stands = found.stands;
      limits = record { few_levels = found.few_levels; few_nodes = omega (arith, found.taken) };
    })

pub found_is : (body : List ℕ) (n : Node) → node_of body ≡ Some n → IsBody body n
unfolding node_of
found_is body n e =
    let parts = bind_some (body_parts body) node_in n e in
    in_parts body parts.0 n parts.1 parts.2

there : (parts : BodyParts) (root place : ℕ) (buffers : List (List ℕ)) (n : Node) (left : ℕ) → root_place parts.flat ≡ Some root → buffers_of parts root ≡ Some buffers → table_field parts.flat root ROOT_NODE ≡ Some (Some place) → node_at parts.flat buffers most_levels most_nodes place ≡ Some (record { found = n; left = left })
    → node_in parts ≡ Some n
unfolding node_in bounded_node_at
there parts root place buffers n left r bs p e = rw (r, bs, p, e) refl

pub is_found : (body : List ℕ) (n : Node) → IsBody body n → node_of body ≡ Some n
unfolding node_of
is_found body n s =
    ap (option_and_then node_in) s.parts_are
    ∙ there s.parts s.root s.place s.buffers n (most_nodes - node_count n) s.root_is s.buffers_are s.place_is (node_stands n s.parts.flat s.buffers most_levels most_nodes s.place s.stands s.limits.few_levels s.limits.few_nodes)

pub found_exactly : (body : List ℕ) (n : Node) → (node_of body ≡ Some n) ↔ IsBody body n
found_exactly body n = (found_is body n, is_found body n)

none_or_some : (o : Option Node) (n : Node) → o ≡ None → o ≡ Some n → ⊥
none_or_some None n e h = cc
none_or_some (Some m) n e h = cc

none_of : (o : Option Node) → ((n : Node) → o ≡ Some n → ⊥) → o ≡ None
none_of None h = refl
none_of (Some n) h = absurd (h n refl)

pub none_exactly : (body : List ℕ) → (node_of body ≡ None) ↔ ((n : Node) → IsBody body n → ⊥)
none_exactly body = (λ e n s. none_or_some (node_of body) n e (is_found body n s), λ h. none_of (node_of body) (λ n e. h n (found_is body n e)))

same_some : (o : Option Node) (m n : Node) → o ≡ Some m → o ≡ Some n → m ≡ n
same_some None m n e h = absurd cc
same_some (Some k) m n e h = cc

pub one_body : (body : List ℕ) (m n : Node) → IsBody body m → IsBody body n → m ≡ n
one_body body m n h k = same_some (node_of body) m n (is_found body m h) (is_found body n k)
