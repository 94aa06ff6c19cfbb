use Rattle.vortex_schema.specs.Views.{fields_of}
use Rattle.vortex_dtype.proofs.Selected.{Searched}
use Rattle.vortex_dtype.proofs.viewed_fields.place_of.Given as goal

abbrev pub invariant-loop-i : goal.invariant-loop-i
invariant-loop-i l = Searched (fields_of l.fields) l.name l.i
