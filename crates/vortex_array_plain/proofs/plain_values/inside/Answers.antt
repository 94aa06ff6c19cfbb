use Rattle.std.proofs.Common.{rules, ◌≡◌, ◌∙◌, sym, ap}
use Rattle.vortex_scalar_value.specs.Value.{list_value, values_from}
use Rattle.vortex_array_plain.specs.PlainValues.{values_in}
use Rattle.vortex_array_plain.proofs.ValueFits.{list_again}
use Rattle.vortex_array_plain.proofs.plain_values.inside.Goals as goal

pub returns-in-List : goal.returns-in-List
returns-in-List c =
    let is : list_value (values_from c.in-List.values.now) ≡ c.args.value.now = search rules in
    sym (list_again c.in-List.values.now) ∙ ap values_in is
