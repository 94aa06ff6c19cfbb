use Rattle.std.proofs.Common.{refl, ◌∙◌}
use Rattle.vortex_dtype.specs.Paths.{path_eq}
use Rattle.vortex_dtype.proofs.Steps.{equal_steps}
use Rattle.vortex_dtype.proofs.paths.FieldPathPartialEq.eq.Goals as goal

pub returns : goal.returns
returns c =
    c.eq.ensures
    ∙ equal_steps _ (λ x y. refl) (λ x. refl) (λ y. refl) refl c.parts.result.now c.parts-2.result.now
    ∙ (λ i. path_eq (c.parts.ensures i) (c.parts-2.ensures i))
