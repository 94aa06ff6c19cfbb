use Rattle.vortex_terms_check.specs.Plain.{fields_of, rows_of}
use Rattle.vortex_terms_check.proofs.Steps.{no_first_field}
use Rattle.vortex_terms_check.proofs.paths.+value_at.Goals as goal

pub returns-in-None : goal.returns-in-None
returns-in-None t c =
    rw (c.in-Struct.is, c.in-Items.is)
    (no_first_field (λ x. x.items) (fields_of c.in-Struct.fields) c.in-Struct.field-1 (rows_of c.in-Items.rs) c.args.path.now c.name-item.result c.in-len1-up.len_at_least c.name-item.is c.in-None.ensures)
