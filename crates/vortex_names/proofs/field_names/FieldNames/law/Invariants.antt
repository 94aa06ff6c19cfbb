use Rattle.std.proofs.Common.{IsUtf8}
use Rattle.std.specs.List.{AllWithin}
use Rattle.vortex_names.proofs.field_names.FieldNames.law.Given as goal

abbrev pub invariant-loop-name : goal.invariant-loop-name
invariant-loop-name l = AllWithin IsUtf8 l.names 0 l.name-index
