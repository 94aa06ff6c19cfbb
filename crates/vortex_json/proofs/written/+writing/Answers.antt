use Rattle.std.proofs.Common.{◌+◌, List, sym, subst, ap, ◌∙◌, arith}
use Rattle.serde_json.specs.declared.value.Value.{Value}
use Rattle.vortex_terms.specs.Weight.{field-lighter}
use Rattle.vortex_types.specs.TypeRefs.{fields_term, ref_term}
use Rattle.vortex_json.specs.Written.{owned_json, types_json}
use Rattle.vortex_json.proofs.Listed.{Lay, types_on, types_all}
use Rattle.vortex_json.proofs.written.+writing.Goals as goal

pub type_values-type_value-requires : goal.type_values-type_value-requires
type_values-type_value-requires t c =
    let lighter = field-lighter (fields_term c.args.fields) c.loop-i.i (ref_term c.field_type.result) c.field_type.ensures in
    (omega (arith, lighter), tt)

pub type_values-loop-i-preserved : goal.type_values-loop-i-preserved
type_values-loop-i-preserved t c =
    let fs = fields_term c.args.fields in
    subst (Lay types_json fs (c.loop-i.i + 1)) (sym {A = List Value} c.in_ok-push.ensures.items)
    (types_on fs c.loop-i.dtypes.items c.in_ok-owned_value.field-0 (ref_term c.field_type.result) c.loop-i.i c.field_type.ensures (c.in_ok-owned_value.ensures ∙ ap owned_json c.in_ok-dtype.ensures) c.loop-i.invariant)

pub type_values-returns : goal.type_values-returns
type_values-returns t c = types_all (fields_term c.args.fields) c.loop-i.dtypes.items c.loop-i.i (omega (arith, c.len-i-end.ensures)) c.loop-i.invariant
