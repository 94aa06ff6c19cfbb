use Rattle.std.proofs.Common.{Ok, ap, ◌∙◌}
use Rattle.vortex_terms.specs.Types.{nullable}
use Rattle.vortex_names.specs.Nullable.{nullability_of}
use Rattle.vortex_types.specs.Accessors.{whole_kind_of}
use Rattle.vortex_scalar.specs.ScalarTerm.{ScalarTerm}
use Rattle.vortex_scalar.proofs.Recasting.{number_recast}
use Rattle.vortex_scalar.proofs.scalar.Scalar.reinterpret_cast.Goals as goal

pub returns-in-Some : goal.returns-in-Some
returns-in-Some c =
    ap (λ (s : ScalarTerm). Ok s) (number_recast c.args.ptype c.in-Some.value c.reinterpret_cast.result c.args.self.now c.of_value.result c.nullability-nullability.result
    c.of_value.ensures c.reinterpret_cast.ensures (c.nullability-nullability.ensures ∙ ap (λ t. nullability_of (nullable t)) c.dtype.ensures)
    (c.in-Some.ensures.row ∙ ap (λ (s : ScalarTerm). s.row) c.as_primitive.ensures)
    (c.in-Some.ensures.kind ∙ ap (λ (s : ScalarTerm). whole_kind_of s.dtype) c.as_primitive.ensures))
