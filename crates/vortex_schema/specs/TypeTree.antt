-- What is laid out for a type: its tables, vectors and texts, by the schema.
use Rattle.std.specs.Prelude.{ℕ, Bool, List, Option, Some, None, if◌then◌else◌}
use Rattle.vortex_flat.specs.Tree.{one, four, Tree, table, offsets, bytes, text, SlotTrees, no_slots, absent, number_slot, signed_slot, target_slot, Trees, no_trees, tree}
use Rattle.vortex_terms.specs.Term.{Term, null, boolean, primitive, decimal, utf8, binary, structure, list, extension, fixed_size_list, Fields, no_fields, field}
use Rattle.vortex_terms.specs.TermCode.{kind_number}
use Rattle.vortex_terms.specs.Types.{type_number}

-- a DType of the kind of t, whose table has these slots
abbrev pub dtype_tree : Term → SlotTrees → Tree
dtype_tree t slots = table (number_slot one (type_number t) (target_slot (table slots) no_slots))

-- a flag, as the last slot of a table
abbrev pub flag_slot : Bool → SlotTrees
flag_slot n = number_slot one (if n then 1 else 0) no_slots

-- the metadata of an extension, which takes no place where it is absent
abbrev pub metadata_slot : Option (List ℕ) → SlotTrees
metadata_slot None = absent no_slots
metadata_slot (Some m) = target_slot (bytes m) no_slots

-- the names of fields
abbrev pub name_trees : Fields → Trees
name_trees no_fields = no_trees
name_trees (field x t fs) = tree (text x) (name_trees fs)

abbrev mutual
  pub tree_of_type : Term → Tree
  tree_of_type null = dtype_tree null no_slots
  tree_of_type (boolean n) = dtype_tree (boolean n) (flag_slot n)
  tree_of_type (primitive k n) = dtype_tree (primitive k n) (number_slot one (kind_number k) (flag_slot n))
  tree_of_type (decimal s z n) = dtype_tree (decimal s z n) (number_slot one s (signed_slot z (flag_slot n)))
  tree_of_type (utf8 n) = dtype_tree (utf8 n) (flag_slot n)
  tree_of_type (binary n) = dtype_tree (binary n) (flag_slot n)
  tree_of_type (structure fs n) = dtype_tree (structure fs n)
      (target_slot (offsets (name_trees fs)) (target_slot (offsets (type_trees fs)) (flag_slot n)))
  tree_of_type (list t n) = dtype_tree (list t n) (target_slot (tree_of_type t) (flag_slot n))
  tree_of_type (extension id t m) = dtype_tree (extension id t m)
      (target_slot (text id) (target_slot (tree_of_type t) (metadata_slot m)))
  tree_of_type (fixed_size_list t k n) = dtype_tree (fixed_size_list t k n)
      (target_slot (tree_of_type t) (number_slot four k (flag_slot n)))

  -- the types of fields
  pub type_trees : Fields → Trees
  type_trees no_fields = no_trees
  type_trees (field x t fs) = tree (tree_of_type t) (type_trees fs)
