use Rattle.std.proofs.Common.{◌≡◌, ◌+◌, ◌-◌, ◌*◌}
use Rattle.vortex_body.specs.Reading.{children_at, node_at}
use Rattle.vortex_body.proofs.Making.{behind}
use Rattle.vortex_body.proofs.tree.+tree.Given as goal

abbrev pub decreases-make : goal.decreases-make
decreases-make l = 4 * l.levels

abbrev pub decreases-make_node : goal.decreases-make_node
decreases-make_node l = 4 * l.levels + 3

abbrev pub decreases-make_children : goal.decreases-make_children
decreases-make_children l = 4 * l.levels + 2

abbrev pub decreases-make_child : goal.decreases-make_child
decreases-make_child l = 4 * l.levels + 1

-- the children so far, and those that are left, are all
abbrev pub invariant-make_children-loop-i : goal.invariant-make_children-loop-i
invariant-make_children-loop-i l =
    behind l.children.items (children_at l.body.flat (node_at l.body.flat l.body.buffers l.levels) l.targets.shape (l.targets.shape.count - l.i) l.i l.left)
    ≡ children_at l.body.flat (node_at l.body.flat l.body.buffers l.levels) l.targets.shape l.targets.shape.count 0 l.initial.left
