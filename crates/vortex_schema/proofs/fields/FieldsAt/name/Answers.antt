use Rattle.std.proofs.Common.{Some, ap, ◌∙◌, arith}
use Rattle.std.specs.Prelude.{is_some}
use Rattle.vortex_flat.specs.Targets.{text_element}
use Rattle.vortex_schema.proofs.InPlace.{count_of, fields_there_at}
use Rattle.vortex_schema.proofs.Options.{some_same}
use Rattle.vortex_schema.proofs.fields.FieldsAt.name.Goals as goal

pub text_of-requires-clause-index : goal.text_of-requires-clause-index
text_of-requires-clause-index c =
    let s = c.args.self.now in
    omega (arith, c.requires, count_of s.bytes.now s.names.shape s.dtypes.shape s.stand)

pub text_of-requires-clause-there : goal.text_of-requires-clause-there
text_of-requires-clause-there c =
    let s = c.args.self.now in
    let field = fields_there_at s.bytes.now s.names.shape s.dtypes.shape c.args.i s.stand c.requires in
    ap is_some (ap (λ b. text_element b s.names.shape c.args.i) s.names_buffer ∙ field.name_is)

pub returns : goal.returns
returns c =
    let s = c.args.self.now in
    let field = fields_there_at s.bytes.now s.names.shape s.dtypes.shape c.args.i s.stand c.requires in
    let there = ap (λ b. text_element b s.names.shape c.args.i) s.names_buffer ∙ field.name_is in
    field.name_at ∙ ap Some (some_same (text_element s.names.buffer s.names.shape c.args.i) field.name c.text_of.result.now there c.text_of.ensures)
