use Rattle.std.proofs.Common.{drop}
use Rattle.vortex_flat.specs.Item.{tree_of}
use Rattle.vortex_select.specs.Layout.{type_message}
use Rattle.vortex_select.specs.inner.LayoutLaws.{type_tree, type_body_laid_out}
use Rattle.vortex_select.proofs.Laying.{has_layout, laid_out_as}
use Rattle.vortex_select.proofs.message_parts.type_body.Goals as goal

pub lay_out-requires-clause-fits : goal.lay_out-requires-clause-fits
lay_out-requires-clause-fits c = has_layout (tree_of c.in_ok-item.item) type_tree (drop 68 type_message) c.in_ok-item.ensures type_body_laid_out

pub returns : goal.returns
returns c = laid_out_as c.lay_out.result (tree_of c.in_ok-item.item) type_tree (drop 68 type_message) c.in_ok-item.ensures type_body_laid_out c.lay_out.ensures
