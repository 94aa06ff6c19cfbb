use Rattle.std.proofs.Common.{◌+◌, List, sym, subst, ap, ◌∙◌, arith}
use Rattle.serde_json.specs.declared.value.Value.{Value}
use Rattle.vortex_dtype.specs.Paths.{part_of}
use Rattle.vortex_names.specs.declared.selector.Field.{Field}
use Rattle.vortex_json.specs.Written.{part_json}
use Rattle.vortex_json.proofs.Listed.{Written, written_on, written_all, each_seen}
use Rattle.vortex_json.proofs.paths.part_values.Goals as goal

pub loop-field-preserved : goal.loop-field-preserved
loop-field-preserved c =
    let write = λ (field : Field). part_json (part_of field) in
    let fields = c.args.fields.now in
    subst (Written write fields (c.loop-field.field-index + 1)) (sym {A = List Value} c.in_ok-push.ensures.items)
    (written_on write fields c.loop-field.values.items c.in_ok-part_value.field-0 c.loop-field.field-index c.field-item.result (omega arith) (c.in_ok-part_value.ensures ∙ ap write c.field-item.is) c.loop-field.invariant)

pub returns : goal.returns
returns c =
    let write = λ (field : Field). part_json (part_of field) in
    written_all write c.args.fields.now c.loop-field.values.items c.loop-field.field-index (omega arith) c.loop-field.invariant
    ∙ each_seen part_of part_json c.args.fields.now
