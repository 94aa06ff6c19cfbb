use Rattle.std.proofs.Common.{ap}
use Rattle.std.specs.Option.{option_map}
use Rattle.vortex_codes.proofs.OrderLemmas.{inserted}
use Rattle.vortex_codes.proofs.ordered.insert.Goals as goal

pub returns-clause-inserted : goal.returns-clause-inserted
returns-clause-inserted c = inserted c.args.codes.now c.insert.new.self c.in_ok-owned.owned c.args.code (option_map (λ k. k.now) c.args.key) _ c.in_ok-_old.ensures.entries (ap (option_map (λ k. k.now)) c.in-Some.is) (c.in_ok-owned.ensures.items_if_clones_equal (λ x y e. e))
