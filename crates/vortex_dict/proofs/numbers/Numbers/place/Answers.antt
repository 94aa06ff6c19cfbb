use Rattle.std.proofs.Common.{◌∙◌, None, Some}
use Rattle.vortex_dict.proofs.numbers.Numbers.place.Goals as goal

pub returns-in-None : goal.returns-in-None
returns-in-None g c = rw (c.in-None.is, ← c.self.view_is) (c.self.invariant.found None)

pub returns-in-Some : goal.returns-in-Some
returns-in-Some g c = rw (c.in-Some.is, ← c.self.view_is) (c.find.ensures ∙ c.self.invariant.found (Some c.in-Some.value))
