use Rattle.std.proofs.Common.{◌∙◌, ap, length}
use Rattle.vortex_terms.specs.FieldLaws.{length-names_of}
use Rattle.vortex_types.proofs.struct_fields.StructFields.nfields.Goals as goal

pub returns : goal.returns
returns c = c.len.ensures ∙ ap (λ xs. length xs) c.names.ensures ∙ length-names_of c.args.self.now
