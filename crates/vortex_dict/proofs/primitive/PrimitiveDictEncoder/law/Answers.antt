use Rattle.std.proofs.Common.{◌*◌, map, ap, arith}
use Rattle.std.proofs.lemmas.List.{length-map}
use Rattle.vortex_number.specs.PType.{byte_width_of}
use Rattle.vortex_dict.proofs.NumberLemmas.{sum_widths}
use Rattle.std.specs.Option.{option_eq}
use Rattle.vortex_dict.specs.KeyRows.{number_or_null}
use Rattle.vortex_dict.proofs.ValueLemmas.{own_distinct, numbers_apart, option_eq-Decides}
use Rattle.vortex_dict.proofs.primitive.PrimitiveDictEncoder.law.Goals as goal

pub returns-clause-distinct : goal.returns-clause-distinct
returns-clause-distinct g c = rw (← c.self.view_is) (own_distinct (option_eq g.T.PartialEq.eq) (option_eq-Decides _ g.met.T.NativeValue.eq_law) (number_or_null g.T.WholeNumber.number) (numbers_apart _ g.T.WholeNumber.of_number g.met.T.WholeNumber.value_law) c.self.inside.lookup c.law.ensures.distinct)

pub returns-clause-small : goal.returns-clause-small
returns-clause-small g c =
    let w = byte_width_of g.T.NativePType.PTYPE in
    let sum = sum_widths w (map (number_or_null g.T.WholeNumber.number) c.self.inside.lookup) in
    let count = ap (λ n. w * n) (length-map c.self.inside.lookup (number_or_null g.T.WholeNumber.number)) in
    rw (← c.self.view_is) (omega (arith, sum, count, c.law.ensures.small))
