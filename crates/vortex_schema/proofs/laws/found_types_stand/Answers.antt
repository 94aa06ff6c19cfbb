use Rattle.std.proofs.Common.{arith}
use Rattle.vortex_schema.proofs.Found.{type_found}
use Rattle.vortex_schema.proofs.Standing.{same_budget}
use Rattle.vortex_schema.specs.inner.InPlace.{after_type}
use Rattle.vortex_schema.proofs.laws.found_types_stand.Goals as goal

pub returns-clause-stands : goal.returns-clause-stands
returns-clause-stands c = λ b n left p f bytes e. (type_found b n bytes left p f e).stands

pub returns-clause-legal : goal.returns-clause-legal
returns-clause-legal c = λ b n left p f bytes e. (type_found b n bytes left p f e).legal

pub returns-clause-within : goal.returns-clause-within
returns-clause-within c = λ b n left p f bytes e. let found = type_found b n bytes left p f e in (found.few_levels, omega (arith, found.nodes_taken), omega (arith, found.text_taken))

pub returns-clause-rest : goal.returns-clause-rest
returns-clause-rest c = λ b n left p f bytes e. let found = type_found b n bytes left p f e in same_budget f.left (after_type f.found left) (omega (arith, found.nodes_taken)) (omega (arith, found.text_taken))
