use Rattle.std.proofs.Common.{pos, ap, ◌∙◌}
use Rattle.std.specs.Option.{option_copied}
use Rattle.std.specs.Prelude.{not}
use Rattle.vortex_scalar_text.proofs.Reading.{read_unless}
use Rattle.vortex_scalar_text.proofs.temporal.is_read.Goals as goal

pub returns-in-Err : goal.returns-in-Err
returns-in-Err c =
    ap not c.is_of_metadata.ensures
    ∙ read_unless c.args.id.now (option_copied c.args.metadata) (pos 0) c.in-Err.error c.in-Err.ensures
