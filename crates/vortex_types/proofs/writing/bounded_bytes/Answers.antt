use Rattle.vortex_types.specs.TypeRefs.{ref_term}
use Rattle.vortex_flat.specs.Item.{tree_of}
use Rattle.vortex_types.proofs.Written.{table_laid, has_layout}
use Rattle.vortex_types.proofs.writing.bounded_bytes.Goals as goal

pub laid_out-requires-clause-table : goal.laid_out-requires-clause-table
laid_out-requires-clause-table c = table_laid (ref_term c.args.of) (tree_of c.in_ok-item.item) c.in_ok-item.ensures.tree

pub laid_out-requires-clause-layout : goal.laid_out-requires-clause-layout
laid_out-requires-clause-layout c = has_layout (ref_term c.args.of) (tree_of c.in_ok-item.item) c.in_ok-item.ensures.tree c.requires
