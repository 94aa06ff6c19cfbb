use Rattle.std.specs.Prelude.{refl}
use Rattle.vortex_flat.specs.Numbers.{number}
use Rattle.vortex_flat.specs.Table.{table_at, field_in}
use Rattle.vortex_flat.specs.Targets.{vector_at}
use Rattle.vortex_body.specs.Body.{body_parts, buffers_in, buffers_of}
use Rattle.vortex_body.specs.Reading.{own_at, child_at, children_at, one_node_at, node_at, bounded_node_at, node_in, node_of}
use Rattle.vortex_body.proofs.laws.bodies_are_worked.Goals as goal

pub returns-clause-bare : goal.returns-clause-bare
unfolding node_of node_in bounded_node_at node_at one_node_at own_at child_at children_at body_parts buffers_of buffers_in vector_at field_in table_at number
returns-clause-bare c = refl

pub returns-clause-shared : goal.returns-clause-shared
unfolding node_of node_in bounded_node_at node_at one_node_at own_at child_at children_at body_parts buffers_of buffers_in vector_at field_in table_at number
returns-clause-shared c = refl

pub returns-clause-compressed : goal.returns-clause-compressed
unfolding node_of node_in bounded_node_at node_at one_node_at own_at child_at children_at body_parts buffers_of buffers_in vector_at field_in table_at number
returns-clause-compressed c = refl

pub returns-clause-limits : goal.returns-clause-limits
returns-clause-limits c = (refl, refl)

pub returns-clause-measures : goal.returns-clause-measures
returns-clause-measures c = (refl, refl)

pub returns-clause-accessors : goal.returns-clause-accessors
returns-clause-accessors c = λ e m cs bs. (refl, refl, refl, refl)

pub returns-clause-descriptor : goal.returns-clause-descriptor
returns-clause-descriptor c = refl
