use Rattle.std.proofs.Common.{◌∙◌}
use Rattle.vortex_bounds.proofs.TextLemmas.{cut_is, range_is}
use Rattle.vortex_bounds.proofs.texts.lower_text.Goals as goal

pub returns : goal.returns
returns c =
    let f = c.floor_char_boundary.ensures in
    c.range.ensures.value ∙ range_is c.args.text.now c.floor_char_boundary.result ∙ cut_is c.args.text.now c.args.max_length c.floor_char_boundary.result c.utf8.text f.bound f.boundary f.nearest
