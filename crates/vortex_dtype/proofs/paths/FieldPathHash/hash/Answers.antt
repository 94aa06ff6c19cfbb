use Rattle.std.proofs.Common.{refl, ap, ◌∙◌}
use Rattle.std.specs.List.{fold}
use Rattle.vortex_names.specs.contracts.selector.FieldHash.TheImpl as field
use Rattle.vortex_dtype.specs.Paths.{path_writes}
use Rattle.vortex_dtype.proofs.Steps.{fed_steps}
use Rattle.vortex_dtype.proofs.paths.FieldPathHash.hash.Goals as goal

pub returns : goal.returns
returns g c =
    let fed = fed_steps field.ghosts.hash_input (λ x. refl) refl c.parts.result.now in
    c.hash.ensures ∙ ap (fold g.H.Hasher.write c.args.state.now) (fed ∙ ap path_writes c.parts.ensures)
