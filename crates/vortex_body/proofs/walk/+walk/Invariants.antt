use Rattle.std.proofs.Common.{◌≡◌, ◌+◌, ◌-◌, ◌*◌}
use Rattle.vortex_body.specs.Reading.{children_at, left_of, node_at}
use Rattle.vortex_body.proofs.walk.+walk.Given as goal

abbrev pub decreases-walk : goal.decreases-walk
decreases-walk l = 4 * l.levels

abbrev pub decreases-walk_node : goal.decreases-walk_node
decreases-walk_node l = 4 * l.levels + 3

abbrev pub decreases-walk_children : goal.decreases-walk_children
decreases-walk_children l = 4 * l.levels + 2

abbrev pub decreases-walk_child : goal.decreases-walk_child
decreases-walk_child l = 4 * l.levels + 1

-- what is left of the budget leaves what the whole left
abbrev pub invariant-walk_children-loop-i : goal.invariant-walk_children-loop-i
invariant-walk_children-loop-i l =
    left_of (children_at l.targets.buffer (node_at l.targets.buffer l.body.buffers l.levels) l.targets.shape (l.targets.shape.count - l.i) l.i l.left)
    ≡ left_of (children_at l.targets.buffer (node_at l.targets.buffer l.body.buffers l.levels) l.targets.shape l.targets.shape.count 0 l.initial.left)
