use Rattle.std.proofs.Common.{◌+◌, sym, subst, ap, arith}
use Rattle.vortex_flat.specs.Tree.{text}
use Rattle.vortex_schema.specs.TypeTree.{name_trees}
use Rattle.vortex_types.specs.TypeRefs.{fields_term}
use Rattle.vortex_types.proofs.Written.{Lay, names_on, names_all}
use Rattle.vortex_types.proofs.writing.name_items.Goals as goal

pub loop-i-preserved : goal.loop-i-preserved
loop-i-preserved c =
    let fs = fields_term c.args.fields in
    subst (Lay name_trees fs (c.loop-i.i + 1)) (sym c.in_ok-push.ensures.items)
    (names_on fs c.loop-i.names.items _ c.field_name.result.now c.loop-i.i c.field_name.ensures (ap text c.in_ok-name.ensures.ok) c.loop-i.invariant)

pub returns-clause-names : goal.returns-clause-names
returns-clause-names c = names_all (fields_term c.args.fields) c.loop-i.names.items c.loop-i.i (omega (arith, c.len-i-end.ensures)) c.loop-i.invariant
