use Rattle.std.proofs.Common.{IsTrue, subst}
use Rattle.std.specs.Prelude.{IfOk}
use Rattle.std.specs.List.{AllByRecursion}
use Rattle.vortex_number.specs.Format.{Format, fits}
use Rattle.vortex_leaves.proofs.numbers.Numbers.from_values.Goals as goal

pub returns-clause-fit : goal.returns-clause-fit
returns-clause-fit g c =
    subst (λ (f : Format). IfOk c.numbers.result
    (λ _. AllByRecursion (λ x. IsTrue (fits f (g.T.WholeNumber.number x))) c.args.values.now))
    g.met.T.NativePType.format_law c.numbers.ensures.fit
