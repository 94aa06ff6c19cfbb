use Rattle.std.proofs.Common.{◌≡◌, ◌≢◌, ◌∙◌, [], length, sym, ap, arith}
use Rattle.std.proofs.lemmas.List.{nil_from_length}
use Rattle.std.proofs.lemmas.Bool.{eqb-true, eqb-false}
use Rattle.vortex_wire.specs.Field.{left_of, fields_of}
use Rattle.vortex_wire.proofs.FieldLaws.{nothing_left, no_fields_in_nothing, fields_next, field_shorter, no_fields}
use Rattle.vortex_wire.proofs.field.Fields.next_field.Goals as goal

pub returns-then-is_empty-clause-left : goal.returns-then-is_empty-clause-left
returns-then-is_empty-clause-left c =
    let nothing : c.args.self.now ≡ [] = sym c.self.view_is ∙ nil_from_length c.self.inside.left.now (eqb-true _ 0 (sym c.is_empty.ensures ∙ c.if-is_empty.true))
    in nothing ∙ sym (ap left_of nothing ∙ nothing_left)

pub returns-then-is_empty-clause-fields : goal.returns-then-is_empty-clause-fields
returns-then-is_empty-clause-fields c =
    let nothing : c.args.self.now ≡ [] = sym c.self.view_is ∙ nil_from_length c.self.inside.left.now (eqb-true _ 0 (sym c.is_empty.ensures ∙ c.if-is_empty.true))
    in ap fields_of nothing ∙ no_fields_in_nothing

pub returns-in-Some-clause-fields : goal.returns-in-Some-clause-fields
returns-in-Some-clause-fields c = rw (← c.self.view_is) (fields_next c.self.inside.left.now _ c.in-Some.rest.now (sym c.in-Some.ensures))

pub returns-in-Some-clause-shorter : goal.returns-in-Some-clause-shorter
returns-in-Some-clause-shorter c = rw (← c.self.view_is) (field_shorter c.self.inside.left.now _ (sym c.in-Some.ensures))

pub returns-in-None-clause-fields : goal.returns-in-None-clause-fields
returns-in-None-clause-fields c =
    let some : length c.self.inside.left.now ≢ 0 = eqb-false _ 0 (sym c.is_empty.ensures ∙ c.if-is_empty.false) in
    rw (← c.self.view_is) (no_fields c.self.inside.left.now (omega arith) (sym c.in-None.ensures))
