use Rattle.std.proofs.Common.{rules, ◌≤◌, length, subst}
use Rattle.std.specs.Option.{IsSome}
use Rattle.vortex_terms.specs.Term.{Term}
use Rattle.vortex_types.specs.TypeRefs.{ref_term}
use Rattle.vortex_body.specs.Node.{node_buffers, node_children}
use Rattle.vortex_value_rows.specs.RowOf.{fitting_row}
use Rattle.vortex_array_decode.proofs.Childless.{children_refused, fitted}
use Rattle.vortex_array_decode.proofs.decode.constants.Goals as goal

pub returns-then-not-is_empty-clause-rows : goal.returns-then-not-is_empty-clause-rows
returns-then-not-is_empty-clause-rows c =
    let some : 1 ≤ length c.children.result.now = search rules in
    children_refused _ c.children.result.now (node_children c.args.parts.now) c.children.ensures some

pub returns-clause-shape : goal.returns-clause-shape
returns-clause-shape c =
    subst (λ (t : Term). IsSome (fitting_row t c.in_ok-value.value)) c.type_ref.ensures
    (fitted (ref_term c.type_ref.result) (node_buffers c.args.parts.now) c.in_ok-value.value c.in_ok-value.ensures)
