use Rattle.vortex_schema.specs.Views.{fields_of}
use Rattle.vortex_dtype.proofs.Selected.{Types}
use Rattle.vortex_dtype.proofs.viewed_fields.named_types.Given as goal

abbrev pub invariant-loop-name : goal.invariant-loop-name
invariant-loop-name l = Types (fields_of l.fields) l.names l.name-index l.dtypes.items
