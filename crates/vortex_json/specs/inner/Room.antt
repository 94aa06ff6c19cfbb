-- What a type leaves of the levels, the types and the bytes of text that there is room for.
use Rattle.std.specs.Prelude.{◌≡◌, ℕ, ◌+◌, ◌≤◌, Option, Some, None}
use Rattle.vortex_terms.specs.Term.{Term, Fields}
use Rattle.vortex_terms.specs.Types.{levels, nodes, text_length, fields_levels, fields_nodes}
use Rattle.vortex_terms.specs.Types.{fields_text_length}
use Rattle.vortex_json.specs.declared.room.Room.{Room}

-- after so many levels, types and bytes of text the rest is left; nothing is exactly where there is
-- no room for them
abbrev pub Leaves : ℕ → ℕ → ℕ → ℕ → Room → Option Room → Type 0
Leaves depth deep many long room (Some rest) =
    (deep ≤ depth) × (room.nodes ≡ many + rest.nodes) × (room.text ≡ long + rest.text)
Leaves depth deep many long room None = deep ≤ depth → many ≤ room.nodes → long ≤ room.text → ⊥

-- what a type leaves
abbrev pub TypeLeaves : ℕ → Term → Room → Option Room → Type 0
TypeLeaves depth t room rest = Leaves depth (levels t) (nodes t) (text_length t) room rest

-- what the fields of a struct leave
abbrev pub FieldsLeave : ℕ → Fields → Room → Option Room → Type 0
FieldsLeave depth fs room rest =
    Leaves depth (fields_levels fs) (fields_nodes fs) (fields_text_length fs) room rest
