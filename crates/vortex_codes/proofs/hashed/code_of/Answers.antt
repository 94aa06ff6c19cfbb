use Rattle.std.proofs.Common.{refl, arith}
use Rattle.vortex_codes.specs.Keys.{same_key}
use Rattle.vortex_codes.proofs.KeyLemmas.{same_key-Decides}
use Rattle.vortex_codes.proofs.PlaceLemmas.{placed_key, unplaced_key}
use Rattle.vortex_codes.proofs.TableLemmas.{absent_key, found_key}
use Rattle.vortex_codes.proofs.hashed.code_of.Goals as goal

pub walk-at-requires-clause-known : goal.walk-at-requires-clause-known
walk-at-requires-clause-known g c = λ q k e. let below = c.requires.table.index.codes q k e in c.requires.table.parted.parted k (omega arith)

pub returns-then-count-eq0 : goal.returns-then-count-eq0
returns-then-count-eq0 g c = unplaced_key same_key same_key-Decides _ _ _ (λ k l e. absurd (let p = c.requires.table.index.placed k l in omega (arith, p.within)))

pub returns-then-at-count : goal.returns-then-at-count
returns-then-at-count g c = unplaced_key same_key same_key-Decides _ _ _ (absent_key same_key same_key-Decides _ _ _ _ c.requires.table.index _ _ _ _ c.requires.hash c.start-start.ensures.value c.walk-at.ensures.walked (λ l. absurd (omega arith)))

pub returns-then-slot-eq0 : goal.returns-then-slot-eq0
returns-then-slot-eq0 g c = unplaced_key same_key same_key-Decides _ _ _ (absent_key same_key same_key-Decides _ _ _ _ c.requires.table.index _ _ _ _ c.requires.hash c.start-start.ensures.value c.walk-at.ensures.walked (λ l. c.if-slot-eq0.true))

pub returns-else-slot-eq0 : goal.returns-else-slot-eq0
returns-else-slot-eq0 g c = let f = found_key same_key same_key-Decides _ _ _ _ c.requires.table.index _ _ _ refl c.if-slot-eq0.false (c.walk-at.ensures.stops (omega arith)) in placed_key same_key same_key-Decides _ _ _ _ c.requires.table.apart f.0 f.1
