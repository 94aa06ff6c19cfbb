use Rattle.std.proofs.Common.{◌≡◌, true, Some, rules, sym, ap, ◌∙◌}
use Rattle.vortex_buffer.specs.Buffer.{Buffer}
use Rattle.vortex_flat.specs.Layout.{layout_of}
use Rattle.vortex_terms.specs.Term.{Term}
use Rattle.vortex_terms.specs.Types.{is_within}
use Rattle.vortex_schema.specs.TypeTree.{tree_of_type}
use Rattle.vortex_types.specs.DTypes.{term_of}
use Rattle.vortex_types.proofs.Written.{is_bounded, laid_stands}
use Rattle.vortex_types.proofs.dtype.DType.write_flatbuffer_bytes.Goals as goal

pub returns-in-Ok-clause-read : goal.returns-in-Ok-clause-read
returns-in-Ok-clause-read c =
    let within : is_within (term_of c.args.self.now) ≡ true = search rules in
    laid_stands (term_of c.args.self.now) c.in-Ok.buffer.bytes (is_bounded (term_of c.args.self.now) c.law.ensures within)
    (ap (λ (t : Term). layout_of (tree_of_type t)) (sym c.type_ref-of.ensures) ∙ c.in_ok-bytes.ensures.laid ∙ ap (λ (b : Buffer). Some b.bytes) (sym c.in-Ok.ensures))
