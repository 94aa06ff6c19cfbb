use Rattle.std.proofs.Common.{ap, sym, ◌∙◌}
use Rattle.std.specs.Prelude.{Some}
use Rattle.vortex_body.proofs.Runs.{all_named}
use Rattle.vortex_body.proofs.tables.named_count.Goals as goal

pub returns : goal.returns
returns c =
    all_named c.args.node.now.buffer c.args.body.now.flat c.args.body.now.buffers c.args.places.now.shape c.first_of-first.result c.len.result c.names_all.result c.requires.body c.first_of-first.ensures c.len.ensures c.requires.width c.names_all.ensures c.if-not-names_all.false
    ∙ ap Some (c.len.ensures ∙ sym c.len-2.ensures)
