-- A type whose parts are left where they stand in the buffer.
use Rattle.std.specs.Prelude.{ℕ, ◌-◌, List, Option}
use Rattle.std.specs.Option.{option_map}
use Rattle.vortex_flat.specs.Targets.{VectorShape}
use Rattle.vortex_terms.specs.Term.{Term, Fields}
use Rattle.vortex_terms.specs.Types.{nodes, text_length, most_nodes, most_text}
use Rattle.vortex_schema.specs.declared.budget.Budget.{Budget}
use Rattle.vortex_schema.specs.Reading.{Found, Reader, bounded_type_at, fields_at}

-- what is left after a type
abbrev pub after_type : Term → Budget → Budget
after_type t left = record { nodes = left.nodes - nodes t; text = left.text - text_length t }

-- a reader of the types that stand there
abbrev pub in_place : List ℕ → Reader
in_place b left p = option_map (λ t. record { found = t; left = after_type t left }) (bounded_type_at b p)

-- what is left after the node of a whole type
abbrev pub inside : Budget
inside = record { nodes = most_nodes - 1; text = most_text }

-- what was found
abbrev pub found_in : {A : Type 0} → Option (Found A) → Option A
found_in f = option_map (λ x. x.found) f

-- the fields whose names and types two vectors lead to
unfoldable pub fields_in : List ℕ → VectorShape → VectorShape → Option Fields
fields_in b names types = found_in (fields_at b (in_place b) names types names.count 0 inside)
