use Rattle.std.proofs.Common.{◌≡◌, map, drop}
use Rattle.std.specs.Prelude.{nat_eq}
use Rattle.std.specs.Cmp.Lexicographic.{pointwise}
use Rattle.vortex_names.proofs.field_names.FieldNames.eq_texts.Given as goal

abbrev pub invariant-loop-i : goal.invariant-loop-i
invariant-loop-i l = pointwise (pointwise nat_eq) (drop l.i l.names) (drop l.i (map (λ t. t.now) l.texts)) ≡ pointwise (pointwise nat_eq) l.names (map (λ t. t.now) l.texts)
