use Rattle.std.proofs.Common.{◌≡◌, drop, ap, ◌∙◌}
use Rattle.vortex_flat.specs.Item.{tree_of}
use Rattle.vortex_select.specs.Layout.{array_header}
use Rattle.vortex_select.specs.inner.LayoutLaws.{header_tree, array_slots, array_header_laid_out}
use Rattle.vortex_select.proofs.Laying.{has_layout, laid_out_as}
use Rattle.vortex_select.proofs.message_parts.primitive_header.Goals as goal

pub lay_out-requires-clause-fits : goal.lay_out-requires-clause-fits
lay_out-requires-clause-fits c =
    let n = c.args.rows in
    let size = c.args.size in
    let tree : tree_of c.in_ok-item.item ≡ header_tree 1 (array_slots n) size = c.in_ok-item.ensures ∙ ap (λ slots. header_tree 1 slots size) c.in_ok-array_content.ensures in
    has_layout (tree_of c.in_ok-item.item) (header_tree 1 (array_slots n) size) (drop 4 (array_header n size)) tree (array_header_laid_out n size)

pub returns : goal.returns
returns c =
    let n = c.args.rows in
    let size = c.args.size in
    let tree : tree_of c.in_ok-item.item ≡ header_tree 1 (array_slots n) size = c.in_ok-item.ensures ∙ ap (λ slots. header_tree 1 slots size) c.in_ok-array_content.ensures in
    laid_out_as c.lay_out.result (tree_of c.in_ok-item.item) (header_tree 1 (array_slots n) size) (drop 4 (array_header n size)) tree (array_header_laid_out n size) c.lay_out.ensures
