use Rattle.vortex_flat.specs.Item.{tree_of}
use Rattle.vortex_select.specs.Layout.{body_end}
use Rattle.vortex_select.specs.inner.LayoutLaws.{array_tree, array_body_laid_out}
use Rattle.std.proofs.Common.{take}
use Rattle.vortex_select.proofs.Laying.{has_layout, laid_out_as}
use Rattle.vortex_select.proofs.message_parts.primitive_flat.Goals as goal

pub lay_out-requires-clause-fits : goal.lay_out-requires-clause-fits
lay_out-requires-clause-fits c =
    has_layout (tree_of c.in_ok-item.item) (array_tree c.args.len) (take 112 (body_end c.args.len)) c.in_ok-item.ensures (array_body_laid_out c.args.len)

pub returns : goal.returns
returns c =
    laid_out_as c.lay_out.result (tree_of c.in_ok-item.item) (array_tree c.args.len) (take 112 (body_end c.args.len)) c.in_ok-item.ensures (array_body_laid_out c.args.len) c.lay_out.ensures
