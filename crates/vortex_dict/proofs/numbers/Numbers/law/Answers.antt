use Rattle.std.proofs.Common.{None}
use Rattle.std.specs.Option.{option_eq}
use Rattle.vortex_codes.proofs.PlaceLemmas.{distinct_keys}
use Rattle.vortex_dict.proofs.ValueLemmas.{option_eq-Decides}
use Rattle.vortex_dict.proofs.numbers.Numbers.law.Goals as goal

pub returns-clause-distinct : goal.returns-clause-distinct
returns-clause-distinct g c = rw (← c.self.view_is) (distinct_keys (option_eq _) (option_eq-Decides _ g.met.T.NativeValue.eq_law) _ None c.self.invariant.apart)

pub returns-clause-small : goal.returns-clause-small
returns-clause-small g c = rw (← c.self.view_is) c.self.invariant.small
