use Rattle.std.proofs.Common.{rules}
use Rattle.std.proofs.Output.{has_written_styled_append, has_written_styled_of_eq}
use Rattle.vortex_names.proofs.selector.FieldDisplay.fmt.Goals as goal

-- the sign, and then the name
pub returns-in_ok-write_str-in-Name-clause-styled :
    goal.returns-in_ok-write_str-in-Name-clause-styled
returns-in_ok-write_str-in-Name-clause-styled g c = λ flush ok.
    let sign = c.write_str.ensures.styled flush (search rules) in
    has_written_styled_of_eq _ _ _ _ _ (search rules)
    (has_written_styled_append _ _ _ _ _ _ sign (c.write_str-in-Name.ensures.styled sign.flush ok))
