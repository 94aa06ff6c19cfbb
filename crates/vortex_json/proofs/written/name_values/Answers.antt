use Rattle.std.proofs.Common.{◌+◌, List, sym, subst, arith}
use Rattle.serde_json.specs.declared.value.Value.{Value}
use Rattle.vortex_types.specs.TypeRefs.{fields_term}
use Rattle.vortex_json.proofs.Listed.{Lay, names_json, names_on, names_all}
use Rattle.vortex_json.proofs.written.name_values.Goals as goal

pub loop-i-preserved : goal.loop-i-preserved
loop-i-preserved c =
    let fs = fields_term c.args.fields in
    subst (Lay names_json fs (c.loop-i.i + 1)) (sym {A = List Value} c.in_ok-push.ensures.items)
    (names_on fs c.loop-i.names.items c.in_ok-try_from_str.field-0 c.field_name.result.now c.loop-i.i c.field_name.ensures c.in_ok-try_from_str.ensures c.loop-i.invariant)

pub returns : goal.returns
returns c = names_all (fields_term c.args.fields) c.loop-i.names.items c.loop-i.i (omega (arith, c.len-i-end.ensures)) c.loop-i.invariant
