-- The bytes that are listed are those that vortex_flat lays out for these trees.
use Rattle.std.specs.Prelude.{◌≡◌, ℕ, ◌*◌, ◌/◌, ◌%◌, ◌^◌, List, [], ◌∷◌, ◌++◌, take, drop, Some, refl}
use Rattle.std.specs.Int.{w32, to_le_bytes, bytes_low_first}
use Rattle.std.proofs.Common.{ap, arith}
use Rattle.vortex_flat.specs.Tree.{one, two, four, eight, Tree, table, offsets, bytes, text, numbers, records, SlotTrees, no_slots, number_slot, target_slot, no_trees, tree}
use Rattle.vortex_flat.specs.Layout.{layout_of}
use Rattle.vortex_stream.specs.declared.schema.TheConstants.{VERSION, ARRAY, DTYPE}
use Rattle.vortex_select.specs.Column.{primitive_name}
use Rattle.vortex_select.specs.declared.schema.TheConstants.{PRIMITIVE, PTYPE_I64, NEVER_NULL}
use Rattle.vortex_select.specs.Layout.{type_message, array_header, flat_to_length}

-- the header of a message: the version, a kind, the table of the kind, and the size of the body
abbrev pub header_tree : ℕ → SlotTrees → ℕ → Tree
header_tree kind slots size =
    table (number_slot one VERSION (number_slot one kind
    (target_slot (table slots) (number_slot eight size no_slots))))

-- how many rows, and the one name of an encoding
abbrev pub array_slots : ℕ → SlotTrees
array_slots rows =
    number_slot four rows (target_slot (offsets (tree (text primitive_name) no_trees)) no_slots)

-- a column of 64 signed bits, never null
abbrev pub type_tree : Tree
type_tree =
    table (number_slot one PRIMITIVE (target_slot
    (table (number_slot one PTYPE_I64 (number_slot one NEVER_NULL no_slots))) no_slots))

-- one node: encoding 0, no metadata, no children, buffer 0
abbrev pub node_tree : Tree
node_tree =
    table (number_slot two 0 (target_slot (bytes [])
    (target_slot (offsets no_trees) (target_slot (numbers (0 ∷ [])) no_slots))))

-- the node, and the descriptor of one buffer of that length: no padding, exponent 0, compression 0
abbrev pub array_tree : ℕ → Tree
array_tree len = table (target_slot node_tree (target_slot (records (len * 2 ^ 32 ∷ [])) no_slots))

-- the header of the message of the type
pub type_header_laid_out :
    layout_of (header_tree DTYPE no_slots 48) ≡ Some (take 64 (drop 4 type_message))
unfolding layout_of
type_header_laid_out = refl

-- the body of the message of the type
pub type_body_laid_out : layout_of type_tree ≡ Some (drop 68 type_message)
unfolding layout_of
type_body_laid_out = refl

-- the header of the message of an array
pub array_header_laid_out : (rows size : ℕ)
    → layout_of (header_tree ARRAY (array_slots rows) size) ≡ Some (drop 4 (array_header rows size))
unfolding layout_of
array_header_laid_out rows size = refl

-- a number four bytes further up
shifted : (n : ℕ) → bytes_low_first 0 8 (n * 2 ^ 32) ≡ 0 ∷ 0 ∷ 0 ∷ 0 ∷ bytes_low_first 0 4 n
shifted n =
    let b0 : n * 2 ^ 32 % 256 ≡ 0 = omega arith in
    let b1 : n * 2 ^ 32 / 256 ^ 1 % 256 ≡ 0 = omega arith in
    let b2 : n * 2 ^ 32 / 256 ^ 2 % 256 ≡ 0 = omega arith in
    let b3 : n * 2 ^ 32 / 256 ^ 3 % 256 ≡ 0 = omega arith in
    let b4 : n * 2 ^ 32 / 256 ^ 4 % 256 ≡ n % 256 = omega arith in
    let b5 : n * 2 ^ 32 / 256 ^ 5 % 256 ≡ n / 256 ^ 1 % 256 = omega arith in
    let b6 : n * 2 ^ 32 / 256 ^ 6 % 256 ≡ n / 256 ^ 2 % 256 = omega arith in
    let b7 : n * 2 ^ 32 / 256 ^ 7 % 256 ≡ n / 256 ^ 3 % 256 = omega arith in
    rw (b0, b1, b2, b3, b4, b5, b6, b7) refl

-- the flat buffer of a primitive array, up to its own length
pub array_body_laid_out : (len : ℕ)
    → layout_of (array_tree len)
    ≡ Some (flat_to_length ++ (to_le_bytes w32 len ++ 0 ∷ 0 ∷ 0 ∷ 0 ∷ []))
unfolding layout_of
array_body_laid_out len =
    ap (λ (l : List ℕ). Some (take 100 flat_to_length ++ (l ++ 0 ∷ 0 ∷ 0 ∷ 0 ∷ []))) (shifted len)
