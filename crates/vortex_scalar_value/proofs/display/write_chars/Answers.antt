use Rattle.std.proofs.Common.{◌≡◌, ◌∷◌, rules, drop, sym, ◌∙◌}
use Rattle.std.specs.Str.{chars}
use Rattle.std.specs.Str.Iter.{chars_rest}
use Rattle.std.proofs.Output.{has_written_append, has_written_of_eq}
use Rattle.std.proofs.lemmas.Str.{IsUtf8-past_char, chars_past_char}
use Rattle.vortex_scalar_value.proofs.ValueTexts.{shown_step, rest_step}
use Rattle.vortex_scalar_value.proofs.display.write_chars.Goals as goal

pub loop-i-preserved : goal.loop-i-preserved
loop-i-preserved g c =
    let old = chars_rest c.loop-i.rest in
    let new = chars_rest c.next.new.self in
    let cs = chars c.args.text.now in
    let step = c.in-Some.ensures.steps.0 in
    let is : drop c.loop-i.i cs ≡ c.in-Some.c ∷ chars new = sym c.loop-i.invariant.left ∙ chars_past_char old new c.in-Some.c c.loop-i.invariant.utf8 step in
    record {
      utf8 = IsUtf8-past_char old new c.in-Some.c c.loop-i.invariant.utf8 step;
      left = rest_step cs c.loop-i.i c.in-Some.c (chars new) is;
      written = λ plain.
          let before = c.loop-i.invariant.written plain in
          let one = c.write_char.ensures before.plain (search rules) in
          has_written_of_eq _ _ _ _ _ (shown_step cs c.args.from c.loop-i.i c.in-Some.c (chars new) is) (has_written_append _ _ _ _ _ _ before one);
    }
