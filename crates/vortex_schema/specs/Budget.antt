-- How many types and bytes of text may still be met.
use Rattle.std.specs.Prelude.{ℕ, ◌-◌, Option, Some, None, nat_le, if◌then◌else◌}
use Rattle.vortex_schema.specs.declared.budget.Budget.{Budget}

-- what is left after one more type
abbrev pub after_node : Budget → Option Budget
after_node left = if nat_le 1 left.nodes then Some (record left { nodes = left.nodes - 1 }) else None

-- what is left after so many more bytes of text
abbrev pub after_text : ℕ → Budget → Option Budget
after_text n left = if nat_le n left.text then Some (record left { text = left.text - n }) else None
