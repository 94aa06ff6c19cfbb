use Rattle.vortex_codes.specs.Keys.{same_key}
use Rattle.vortex_codes.proofs.KeyLemmas.{same_key-Decides}
use Rattle.vortex_codes.proofs.PlaceLemmas.{distinct_map}
use Rattle.vortex_codes.proofs.TableLemmas.{found_apart}
use Rattle.vortex_codes.proofs.table.CodeTable.law.Goals as goal

pub returns : goal.returns
returns g c = rw (← c.self.view_is) (distinct_map same_key same_key-Decides _ _ (found_apart _ _ _ _ _ c.self.inside.ordered c.self.invariant))
