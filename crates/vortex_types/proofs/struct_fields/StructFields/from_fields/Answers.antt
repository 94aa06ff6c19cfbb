use Rattle.std.specs.List.{All}
use Rattle.vortex_terms.specs.Types.{Legal}
use Rattle.vortex_types.proofs.Kept.{legal-from}
use Rattle.vortex_types.proofs.struct_fields.StructFields.from_fields.Goals as goal

pub invariant_of-result : goal.invariant_of-result
invariant_of-result c =
    let types : All Legal c.args.dtypes.items = rw c.deref.ensures.value at c.fields_law.ensures in
    rw (c.in_ok-names.ensures.ok, c.in_ok-dtypes.ensures.ok)
    (c.requires, legal-from c.args.names c.args.dtypes.items c.requires c.law.ensures types)
