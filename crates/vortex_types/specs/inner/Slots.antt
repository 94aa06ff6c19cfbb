-- The slots of the table of a kind, as tree_of_type has them.
use Rattle.std.specs.Prelude.{Bool}
use Rattle.vortex_flat.specs.Tree.{one, four, text, offsets, SlotTrees, no_slots, number_slot}
use Rattle.vortex_flat.specs.Tree.{signed_slot, target_slot}
use Rattle.vortex_terms.specs.Term.{Term, null, boolean, primitive, decimal, utf8, binary}
use Rattle.vortex_terms.specs.Term.{structure, list, extension, fixed_size_list, Fields}
use Rattle.vortex_terms.specs.TermCode.{kind_number}
use Rattle.vortex_schema.specs.TypeTree.{flag_slot, metadata_slot, name_trees, type_trees}
use Rattle.vortex_schema.specs.TypeTree.{tree_of_type}

-- the slots of a struct
abbrev pub struct_slots : Fields → Bool → SlotTrees
struct_slots fs n =
    target_slot (offsets (name_trees fs)) (target_slot (offsets (type_trees fs)) (flag_slot n))

-- the slots of the table of the kind of a type
abbrev pub body_slots : Term → SlotTrees
body_slots null = no_slots
body_slots (boolean n) = flag_slot n
body_slots (primitive k n) = number_slot one (kind_number k) (flag_slot n)
body_slots (decimal s z n) = number_slot one s (signed_slot z (flag_slot n))
body_slots (utf8 n) = flag_slot n
body_slots (binary n) = flag_slot n
body_slots (structure fs n) = struct_slots fs n
body_slots (list t n) = target_slot (tree_of_type t) (flag_slot n)
body_slots (extension id t m) =
    target_slot (text id) (target_slot (tree_of_type t) (metadata_slot m))
body_slots (fixed_size_list t k n) = target_slot (tree_of_type t) (number_slot four k (flag_slot n))
