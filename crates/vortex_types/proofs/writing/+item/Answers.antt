use Rattle.std.proofs.Common.{◌+◌, sym, subst, arith}
use Rattle.vortex_terms.specs.Weight.{field-lighter}
use Rattle.vortex_schema.specs.TypeTree.{type_trees}
use Rattle.vortex_types.specs.TypeRefs.{fields_term, ref_term}
use Rattle.vortex_types.proofs.Written.{Lay, types_on, types_all}
use Rattle.vortex_types.proofs.writing.+item.Goals as goal

pub type_items-type_item-requires : goal.type_items-type_item-requires
type_items-type_item-requires t c =
    let lighter = field-lighter (fields_term c.args.fields) c.loop-i.i (ref_term c.field_type.result) c.field_type.ensures in
    (omega (arith, lighter), tt)

pub type_items-loop-i-preserved : goal.type_items-loop-i-preserved
type_items-loop-i-preserved t c =
    let fs = fields_term c.args.fields in
    subst (Lay type_trees fs (c.loop-i.i + 1)) (sym c.in_ok-push.ensures.items)
    (types_on fs c.loop-i.dtypes.items c.in_ok-type_item.field-0 (ref_term c.field_type.result) c.loop-i.i c.field_type.ensures c.in_ok-type_item.ensures.tree c.loop-i.invariant)

pub type_items-returns-clause-types : goal.type_items-returns-clause-types
type_items-returns-clause-types t c = types_all (fields_term c.args.fields) c.loop-i.dtypes.items c.loop-i.i (omega (arith, c.len-i-end.ensures)) c.loop-i.invariant
