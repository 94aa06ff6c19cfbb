-- Worked nodes: literal nodes, whose rows are known.
--     worked                          the rows of a node, whose encoding is a place among all of them
--     bools, numbers, decimals, texts, lists, fixed      nodes of bytes
--     wholes, counted_list            rows of numbers
--     byte                            the type of numbers of one byte
use Rattle.std.specs.Prelude.{ℕ, pos, Bool, List, [], ◌∷◌, Option, map, slice_get}
use Rattle.vortex_terms.specs.Term.{Term, primitive, unsigned_8}
use Rattle.vortex_terms.specs.Row.{Row, whole_row, list_row, rows_from}
use Rattle.vortex_body.specs.Node.{Node, node, Nodes, no_nodes, child}
use Rattle.vortex_node_rows.specs.Encodings.{all_encodings}
use Rattle.vortex_node_rows.specs.RowsOf.{rows_of}

abbrev pub worked : Node → Term → ℕ → Option (List Row)
worked x t n = rows_of (slice_get all_encodings) x t n

-- truth values, and what is left of the children is a mask
abbrev pub bools : List ℕ → Nodes → Node
bools bytes mask = node 1 [] mask (bytes ∷ [])

abbrev pub numbers : List ℕ → Nodes → Node
numbers bytes mask = node 2 [] mask (bytes ∷ [])

abbrev pub decimals : List ℕ → List ℕ → Node
decimals metadata bytes = node 3 metadata no_nodes (bytes ∷ [])

-- offsets below 256, of four bytes each
abbrev pub offsets : List ℕ → List ℕ
offsets [] = []
offsets (o ∷ os) = o ∷ 0 ∷ 0 ∷ 0 ∷ offsets os

abbrev pub texts : List ℕ → List ℕ → Nodes → Node
texts os bytes mask = node 4 [] mask (offsets os ∷ bytes ∷ [])

-- lists of so many bytes
abbrev pub lists : ℕ → List ℕ → List ℕ → Node
lists count os bytes = node 5 (8 ∷ count ∷ []) (child (numbers bytes no_nodes) no_nodes) (offsets os ∷ [])

abbrev pub fixed : List ℕ → Node
fixed bytes = node 6 [] (child (numbers bytes no_nodes) no_nodes) []

abbrev pub constant : List ℕ → Node
constant message = node 9 [] no_nodes (message ∷ [])

-- a mask is one more child
abbrev pub mask : List ℕ → Nodes
mask bytes = child (bools bytes no_nodes) no_nodes

abbrev pub wholes : List ℕ → List Row
wholes ns = map (λ n. whole_row (pos n)) ns

abbrev pub counted_list : List ℕ → Row
counted_list ns = list_row (rows_from (wholes ns))

abbrev pub byte : Bool → Term
byte nullable = primitive unsigned_8 nullable

-- a node of numbers alone, as the one child
abbrev pub one_child : List ℕ → Nodes
one_child bytes = child (numbers bytes no_nodes) no_nodes
