use Rattle.std.proofs.Common.{rules, ◌≡◌, sym, ap, ◌∙◌, ◌++◌, Some, arith, length}
use Rattle.std.specs.Option.{option_map}
use Rattle.std.specs.Str.{encode_utf8_all}
use Rattle.std.specs.Char.{encode_utf8}
use Rattle.vortex_bounds.proofs.TextLemmas.{none_behind_start, none_behind_more, none_raised, next_none, found}
use Rattle.vortex_bounds.specs.Texts.{can_be_raised}
use Rattle.vortex_bounds.proofs.texts.raise.Goals as goal

pub loop-place-init : goal.loop-place-init
loop-place-init c =
    ((search rules), tt, (search rules), none_behind_start _ _ (search rules))

pub returns-in-Some-next_char : goal.returns-in-Some-next_char
returns-in-Some-next_char c =
    let steps = c.in-Some.ensures.steps in
    let kept = c.loop-place.invariant in
    let at : c.in-Some.place ≡ length c.next.new.self.iter.rest.now = omega (arith, steps.1.1, kept.2) in
    let made = found c.args.text.now _ _ c.in-Some.place c.in-Some.character c.in-Some-next_char.next c.utf8.text (search rules) steps.1.0 at c.in-Some-next_char.ensures kept.3 in
    ap Some (c.in_ok-push.ensures.bytes ∙ ap (λ l. l ++ encode_utf8 c.in-Some-next_char.next) (c.in_ok-raised.ensures.ok ∙ c.range.ensures.value)) ∙ sym made

pub loop-place-preserved : goal.loop-place-preserved
loop-place-preserved c =
    let steps = c.in-Some.ensures.steps in
    let kept = c.loop-place.invariant in
    ((search rules), tt, steps.0 ∙ kept.2, none_behind_more c.args.text.now _ _ c.in-Some.character (search rules) steps.1.0 (next_none (can_be_raised c.in-Some.character) _ c.in_default.ensures) kept.3)

pub returns : goal.returns
returns c = sym (ap (option_map encode_utf8_all) (none_raised c.args.text.now _ c.in-None.ensures.steps.1.0 c.loop-place.invariant.3))
