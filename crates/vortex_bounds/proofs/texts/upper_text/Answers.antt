use Rattle.std.proofs.Common.{rules, ◌≡◌, option_map, subst}
use Rattle.std.specs.Prelude.{IfOk}
use Rattle.std.specs.String.{string_bytes}
use Rattle.vortex_bounds.proofs.TextLemmas.{upper_raised}
use Rattle.vortex_bounds.proofs.texts.upper_text.Goals as goal

pub returns : goal.returns
returns c =
    let raised = upper_raised c.args.text.now c.lower_text.result.now c.args.max_length c.utf8.text (search rules) c.lower_text.ensures in
    subst (λ x. IfOk c.raise.result (λ bound. option_map string_bytes bound ≡ x)) raised c.raise.ensures
