use Rattle.std.proofs.Common.{sym, ap, ◌∙◌}
use Rattle.vortex_terms.specs.FieldLaws.{place_of-position}
use Rattle.vortex_types.specs.NameIndex.{first_place}
use Rattle.vortex_types.proofs.struct_fields.StructFields.find.Goals as goal

pub returns : goal.returns
returns c =
    c.first_place_of.ensures ∙ ap (λ ns. first_place ns c.args.name.now) (c.as_slice.ensures ∙ c.names.ensures)
    ∙ sym (place_of-position c.args.self.now c.args.name.now)
