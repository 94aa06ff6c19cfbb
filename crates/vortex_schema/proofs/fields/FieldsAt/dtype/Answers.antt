use Rattle.std.proofs.Common.{sym, ap, ◌∙◌, arith}
use Rattle.std.specs.Prelude.{is_some}
use Rattle.vortex_flat.specs.Targets.{table_element}
use Rattle.vortex_schema.specs.Reading.{bounded_type_at}
use Rattle.vortex_schema.proofs.InPlace.{count_of, fields_there_at}
use Rattle.vortex_schema.proofs.Options.{some_same}
use Rattle.vortex_schema.proofs.fields.FieldsAt.dtype.Goals as goal

pub table_of-requires-clause-index : goal.table_of-requires-clause-index
table_of-requires-clause-index c =
    let s = c.args.self.now in
    omega (arith, c.requires, s.counts, count_of s.bytes.now s.names.shape s.dtypes.shape s.stand)

pub table_of-requires-clause-there : goal.table_of-requires-clause-there
table_of-requires-clause-there c =
    let s = c.args.self.now in
    let field = fields_there_at s.bytes.now s.names.shape s.dtypes.shape c.args.i s.stand c.requires in
    ap is_some (ap (λ b. table_element b s.dtypes.shape c.args.i) s.dtypes_buffer ∙ field.place_is)

pub known-requires : goal.known-requires
known-requires c =
    let s = c.args.self.now in
    let field = fields_there_at s.bytes.now s.names.shape s.dtypes.shape c.args.i s.stand c.requires in
    let there = ap (λ b. table_element b s.dtypes.shape c.args.i) s.dtypes_buffer ∙ field.place_is in
    let place = c.place.ensures ∙ some_same (table_element s.dtypes.buffer s.dtypes.shape c.args.i) c.table_of.result.place field.place c.table_of.ensures.place there in
    ap is_some (ap (bounded_type_at s.bytes.now) place ∙ field.dtype_is)

pub returns : goal.returns
returns c =
    let s = c.args.self.now in
    let field = fields_there_at s.bytes.now s.names.shape s.dtypes.shape c.args.i s.stand c.requires in
    let there = ap (λ b. table_element b s.dtypes.shape c.args.i) s.dtypes_buffer ∙ field.place_is in
    let place = c.place.ensures ∙ some_same (table_element s.dtypes.buffer s.dtypes.shape c.args.i) c.table_of.result.place field.place c.table_of.ensures.place there in
    field.dtype_at ∙ sym field.dtype_is ∙ ap (bounded_type_at s.bytes.now) (sym place) ∙ c.known.ensures
