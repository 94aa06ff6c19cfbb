use Rattle.std.proofs.Common.{◌≡◌, take, drop, ap, ◌∙◌}
use Rattle.vortex_flat.specs.Item.{tree_of, slots_from}
use Rattle.vortex_flat.specs.Tree.{no_slots}
use Rattle.vortex_select.specs.Layout.{type_message}
use Rattle.vortex_select.specs.inner.LayoutLaws.{header_tree, type_header_laid_out}
use Rattle.vortex_select.proofs.Laying.{has_layout, laid_out_as}
use Rattle.vortex_select.proofs.message_parts.type_header.Goals as goal

pub lay_out-requires-clause-fits : goal.lay_out-requires-clause-fits
lay_out-requires-clause-fits c =
    let none : c.new-2.result ≡ no_slots = c.new-2.ensures ∙ ap slots_from c.new.ensures.items in
    let tree : tree_of c.in_ok-item.item ≡ header_tree 3 no_slots 48 = c.in_ok-item.ensures ∙ ap (λ slots. header_tree 3 slots c.args.size) none ∙ ap (header_tree 3 no_slots) c.requires in
    has_layout (tree_of c.in_ok-item.item) (header_tree 3 no_slots 48) (take 64 (drop 4 type_message)) tree type_header_laid_out

pub returns : goal.returns
returns c =
    let none : c.new-2.result ≡ no_slots = c.new-2.ensures ∙ ap slots_from c.new.ensures.items in
    let tree : tree_of c.in_ok-item.item ≡ header_tree 3 no_slots 48 = c.in_ok-item.ensures ∙ ap (λ slots. header_tree 3 slots c.args.size) none ∙ ap (header_tree 3 no_slots) c.requires in
    laid_out_as c.lay_out.result (tree_of c.in_ok-item.item) (header_tree 3 no_slots 48) (take 64 (drop 4 type_message)) tree type_header_laid_out c.lay_out.ensures
