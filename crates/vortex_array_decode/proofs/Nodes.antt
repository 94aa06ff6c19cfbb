-- A node by its parts.
use Rattle.std.proofs.Common.{◌≡◌, ◌≤◌, ◌<◌, ◌∙◌, ℕ, suc, List, Bool, true, false, Option, Some, None, [], ◌∷◌, ◌+◌, ◌*◌, ◌-◌, length, get_or, take, drop, inr, refl, sym, ap, subst, arith}
use Rattle.std.proofs.Math.Seq.{take-length}
use Rattle.std.specs.Prelude.{if◌then◌else◌, nat_le}
use Rattle.std.specs.List.{AllByRecursion}
use Rattle.std.proofs.lemmas.Bool.{le-leb, lt-leb}
use Rattle.vortex_terms.specs.Term.{Term}
use Rattle.vortex_terms.specs.Row.{Row}
use Rattle.vortex_terms.specs.Fits.{Fits}
use Rattle.vortex_body.specs.Node.{Node, node, Nodes, no_nodes, child, nodes_from, node_encoding, node_metadata, node_buffers, node_children, node_count, nodes_count}
use Rattle.vortex_node_rows.specs.declared.encoding.Encoding.{Encoding}
use Rattle.vortex_node_rows.specs.ByteNode.{IsByteNode, AreByteNodes}
use Rattle.vortex_node_rows.specs.RowsOf.{most_rows, rows_of, encoded_rows}
use Rattle.vortex_node_rows.proofs.RowsCounted.{rows_count}
use Rattle.vortex_node_rows.proofs.RowsFit.{rows_fitting}
use Rattle.vortex_array_data.specs.declared.error.ArrayError.{ArrayError}
use Rattle.vortex_array_data.specs.declared.error.ArrayError.TheVariants as error
use Rattle.vortex_array_data.specs.declared.held.Held.{Held}
use Rattle.vortex_array_data.specs.Answers.{Refuses}
use Rattle.vortex_array_data.specs.Content.{held_rows}
use Rattle.vortex_array_decode.specs.Decoded.{children_of, rows_in}

-- a node has one node more in it than its children
pub counted : (x : Node) → node_count x ≡ suc (nodes_count (node_children x))
counted (node e m cs bs) = refl

-- the children of a node of bytes are such nodes
pub children_bytes : (x : Node) → IsByteNode x → AreByteNodes (node_children x)
children_bytes (node e m cs bs) h = h.2

-- the rows of a node by its parts
pub by_parts : (f : ℕ → Option Encoding) (x : Node) (t : Term) (n : ℕ)
    → rows_of f x t n ≡ (if nat_le n most_rows then encoded_rows (f (node_encoding x)) t n (node_metadata x)
    (node_buffers x) (children_of f (node_children x)) else None)
unfolding rows_of
by_parts f (node e m cs bs) t n = refl

chosen : {A : Type 0} (b : Bool) (x y : A) → b ≡ true → (if b then x else y) ≡ x
chosen b x y h = rw h refl

left : {A : Type 0} (b : Bool) (x y : A) → b ≡ false → (if b then x else y) ≡ y
left b x y h = rw h refl

-- those of a node in a known encoding
pub in_encoding : (f : ℕ → Option Encoding) (x : Node) (t : Term) (n : ℕ) (e : Encoding)
    → f (node_encoding x) ≡ Some e → n ≤ most_rows → rows_of f x t n ≡ rows_in f e x t n
in_encoding f x t n e h few =
    by_parts f x t n ∙ chosen _ _ _ (le-leb n most_rows few)
    ∙ ap (λ (o : Option Encoding). encoded_rows o t n (node_metadata x) (node_buffers x) (children_of f
    (node_children x))) h

-- there are none in an unknown one
pub in_none : (f : ℕ → Option Encoding) (x : Node) (t : Term) (n : ℕ)
    → f (node_encoding x) ≡ None → rows_of f x t n ≡ None
unfolding encoded_rows
in_none f x t n h =
    by_parts f x t n
    ∙ ap (λ (o : Option Encoding). if nat_le n most_rows then encoded_rows o t n (node_metadata x) (node_buffers x)
    (children_of f (node_children x)) else None) h
    ∙ either (nat_le n most_rows)
  where
    either : (b : Bool) → ◌≡◌ {A = Option (List Row)} (if b then None else None) None
    either true = refl
    either false = refl

-- and no more than so many
pub too_many : (f : ℕ → Option Encoding) (x : Node) (t : Term) (n : ℕ) → most_rows < n → rows_of f x t n ≡ None
too_many f x t n many = by_parts f x t n ∙ left _ _ _ (lt-leb n most_rows many)

pub many_refused : (f : ℕ → Option Encoding) (x : Node) (t : Term) (n : ℕ) → most_rows < n
    → Refuses error.Malformed (rows_of f x t n)
many_refused f x t n many = inr (refl, too_many f x t n many)

pub unknown_refused : (f : ℕ → Option Encoding) (x : Node) (t : Term) (n : ℕ) → f (node_encoding x) ≡ None
    → Refuses error.Malformed (rows_of f x t n)
unknown_refused f x t n h = inr (refl, in_none f x t n h)

-- what is refused of the parts is refused of the node
pub known_refused : (f : ℕ → Option Encoding) (x : Node) (t : Term) (n : ℕ) (e : Encoding) (err : ArrayError)
    → f (node_encoding x) ≡ Some e → n ≤ most_rows → Refuses err (rows_in f e x t n) → Refuses err (rows_of f x t n)
known_refused f x t n e err h few k = subst (Refuses err) (sym (in_encoding f x t n e h few)) k

-- rows that are held are those of the node, as many as are asked for, and fit; u is a copy of the type
pub held_stands : (f : ℕ → Option Encoding) (x : Node) (t u : Term) (n : ℕ) (e : Encoding) (h : Held) (rs : List Row)
    → u ≡ t → f (node_encoding x) ≡ Some e → n ≤ most_rows → rows_in f e x t n ≡ Some (held_rows t n h)
    → rs ≡ held_rows u n h → rows_of f x t n ≡ Some rs
held_stands f x t u n e h rs same known few found is =
    in_encoding f x t n e known few ∙ found ∙ ap (λ (v : Term). Some (held_rows v n h)) (sym same) ∙ ap Some (sym is)

pub held_count : (f : ℕ → Option Encoding) (x : Node) (t u : Term) (n : ℕ) (e : Encoding) (h : Held)
    → u ≡ t → f (node_encoding x) ≡ Some e → n ≤ most_rows → rows_in f e x t n ≡ Some (held_rows t n h)
    → n ≡ length (held_rows u n h)
held_count f x t u n e h same known few found =
    sym (rows_count f x t n (held_rows u n h) (held_stands f x t u n e h (held_rows u n h) same known few found refl))

pub held_fit : (f : ℕ → Option Encoding) (x : Node) (t u : Term) (n : ℕ) (e : Encoding) (h : Held)
    → u ≡ t → f (node_encoding x) ≡ Some e → n ≤ most_rows → rows_in f e x t n ≡ Some (held_rows t n h)
    → IsByteNode x → AllByRecursion (Fits u) (held_rows u n h)
held_fit f x t u n e h same known few found bytes =
    subst (λ (v : Term). AllByRecursion (Fits v) (held_rows u n h)) (sym same)
    (rows_fitting f x t n (held_rows u n h) bytes (held_stands f x t u n e h
    (held_rows u n h) same known few found refl))

-- children that are read are of bytes
pub read_children : (x : Node) (cs : Nodes) → cs ≡ node_children x → IsByteNode x → AreByteNodes cs
read_children x cs is h = subst AreByteNodes (sym is) (children_bytes x h)

-- they are lighter than the node
pub lighter : (x : Node) (cs : Nodes) → cs ≡ node_children x → 6 * nodes_count cs + 8 < 6 * node_count x + 3
lighter x cs is = omega (arith, counted x, ap nodes_count is)

whole : (ns : List Node) (k : ℕ) → k ≡ length ns → take k ns ≡ ns
whole ns k e = ap (λ (j : ℕ). take j ns) e ∙ take-length ns

-- nodes in a slice: the first, and the others
pub first_rest : (ns : List Node) (x : Node) → 1 ≤ length ns → x ≡ get_or ns 0 x
    → nodes_from ns ≡ child x (nodes_from (take (length ns - 1) (drop 1 ns)))
first_rest [] x h e = absurd (omega (arith, h))
first_rest (n ∷ ns) x h e =
    ap (λ (m : Node). child m (nodes_from ns)) (sym e)
    ∙ ap (λ (l : List Node). child x (nodes_from l)) (sym (whole ns (suc (length ns) - 1) (omega arith)))

pub none_left : (ns : List Node) → length ns < 1 → nodes_from ns ≡ no_nodes
none_left [] h = refl
none_left (n ∷ ns) h = absurd (omega (arith, h))

pub others_bytes : (ns : List Node) (x : Node) → 1 ≤ length ns → x ≡ get_or ns 0 x → AreByteNodes (nodes_from ns)
    → AreByteNodes (nodes_from (take (length ns - 1) (drop 1 ns)))
others_bytes ns x h e b = (subst AreByteNodes (first_rest ns x h e) b).1

pub others_fewer : (ns : List Node) (x : Node) → 1 ≤ length ns → x ≡ get_or ns 0 x
    → nodes_count (nodes_from (take (length ns - 1) (drop 1 ns))) ≤ nodes_count (nodes_from ns)
others_fewer ns x h e = omega (arith, ap nodes_count (first_rest ns x h e))
