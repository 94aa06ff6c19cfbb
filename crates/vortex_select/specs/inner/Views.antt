-- What contracts see of the readers' structs.
use Rattle.std.specs.Prelude.{ℕ, List}
use Rattle.std.specs.Borrow.{Bor}
use Rattle.vortex_stream.specs.Header.{MessageTable}
use Rattle.vortex_select.specs.Column.{BodyParts, PrimitiveNode}
use Rattle.vortex_select.specs.inner.Decoding.{PrimitiveHeader}
use Rattle.vortex_select.specs.declared.primitive.FoundHeader.{FoundHeader}
use Rattle.vortex_select.specs.declared.primitive.FoundNode.{FoundNode}
use Rattle.vortex_select.specs.declared.decoding.FoundMessage.{FoundMessage}

-- two slices as lists
abbrev pub pair_view : Bor (List ℕ) × Bor (List ℕ) → List ℕ × List ℕ
pair_view p = (p.0.now, p.1.now)

-- the buffer of a header, and what its table says
abbrev pub message_view : FoundMessage → List ℕ × MessageTable
message_view m =
    (m.inner.buffer, record { kind = m.kind; inner = m.inner.place; body_size = m.body_size })

-- the two parts of a body
abbrev pub parts_view : Bor (List ℕ) × Bor (List ℕ) → BodyParts
parts_view p = record { region = p.0.now; flat = p.1.now }

-- what a header of primitive arrays says
abbrev pub primitive_header_view : FoundHeader → PrimitiveHeader
primitive_header_view h = record { rows = h.rows; names = h.names; body_size = h.body_size }

-- the places that a node tells
abbrev pub primitive_node_view : FoundNode → PrimitiveNode
primitive_node_view n = record { encoding = n.encoding; buffer = n.buffer }
