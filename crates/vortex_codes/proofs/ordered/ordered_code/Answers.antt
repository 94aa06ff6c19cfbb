use Rattle.std.proofs.Common.{arith, ◌∙◌, ap}
use Rattle.std.specs.Option.{option_map}
use Rattle.vortex_codes.proofs.OrderLemmas.{tree_found, tree_null, tree_no_null}
use Rattle.vortex_codes.proofs.ordered.ordered_code.Goals as goal

pub returns-in-Some : goal.returns-in-Some
returns-in-Some c = c.copied.ensures ∙ c.get.ensures.value ∙ tree_found _ _ _ _ c.requires _ _ (ap (option_map (λ k. k.now)) c.in-Some.is)

pub returns-then-null-offsets : goal.returns-then-null-offsets
returns-then-null-offsets c = tree_null _ _ _ _ c.requires _ (ap (option_map (λ k. k.now)) c.in-None.is) c.if-null-offsets.true

pub returns-else-null-offsets : goal.returns-else-null-offsets
returns-else-null-offsets c = tree_no_null _ _ _ _ c.requires _ (ap (option_map (λ k. k.now)) c.in-None.is) (λ l. omega (arith, l, c.if-null-offsets.false))
