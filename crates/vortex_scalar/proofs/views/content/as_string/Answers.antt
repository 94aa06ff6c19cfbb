use Rattle.vortex_scalar.proofs.TextLemmas.{text_taken}
use Rattle.vortex_scalar.proofs.views.content.as_string.Goals as goal

pub unreachable-requires : goal.unreachable-requires
unreachable-requires c = text_taken c.args.bytes c.in-Err.field-0 c.try_new.result c.requires c.try_new.ensures c.in-Err.is
