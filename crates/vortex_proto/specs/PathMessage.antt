-- Which path of names a message is (this project's own schema): 1 repeated, a message with a oneof whose only member
-- is 1 name, a text.
use Rattle.std.specs.Prelude.{ℕ, List, [], ◌∷◌, Option, Some, None, if◌then◌else◌}
use Rattle.std.specs.Str.{is_utf8}
use Rattle.vortex_prelude.specs.Chain.{◌>>=◌}
use Rattle.vortex_wire.specs.Message.{only_field}
use Rattle.vortex_wire.specs.Inside.{bytes_in, bytes_fields}
use Rattle.vortex_proto.specs.declared.schema.TheConstants.{PATH_FIELDS, FIELD_NAME}

-- the name in a message of a field, which must be there, and once
unfoldable pub name_in : List ℕ → Option (List ℕ)
name_in b = do
  member ← only_field FIELD_NAME FIELD_NAME b
  found ← member
  name ← bytes_in found.content
  if is_utf8 name then Some name else None

-- the name in each of these messages
unfoldable pub names_in : List (List ℕ) → Option (List (List ℕ))
names_in [] = Some []
names_in (b ∷ others) = do
  first ← name_in b
  rest ← names_in others
  Some (first ∷ rest)

-- the names of a path
unfoldable pub path_in : List ℕ → Option (List (List ℕ))
path_in b = bytes_fields PATH_FIELDS b >>= names_in
