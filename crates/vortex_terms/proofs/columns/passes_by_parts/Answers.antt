use Rattle.vortex_terms.specs.PartLaws.{passes-parts}
use Rattle.vortex_terms.proofs.columns.passes_by_parts.Goals as goal

pub returns : goal.returns
returns c = passes-parts
