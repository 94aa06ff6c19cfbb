use Rattle.std.proofs.Common.{rules, sym, ap, ◌∙◌, Some}
use Rattle.vortex_bounds.proofs.RaisedLemmas.{raised_at, raised_none, put_together}
use Rattle.vortex_bounds.proofs.bytes.raise.Goals as goal

pub returns-in_default : goal.returns-in_default
returns-in_default c = sym (raised_none c.args.bytes.now (search rules))

pub returns : goal.returns
returns c =
    let bytes = c.args.bytes.now in
    let place = c.in-Some.place in
    let found = raised_at bytes place (search rules) (search rules) (search rules) in
    let made = put_together bytes _ _ _ place _ (search rules) (search rules) c.in_ok-raised.ensures.items c.in_ok-push.ensures.items c.in_ok-resize.ensures.items in
    ap Some made ∙ sym found
