use Rattle.std.proofs.Common.{◌≡◌, take, drop}
use Rattle.std.specs.Fmt.{HasWritten, IsPlainFormatter}
use Rattle.std.specs.Str.{chars, encode_utf8_all, IsUtf8}
use Rattle.std.specs.Str.Iter.{chars_rest}
use Rattle.vortex_scalar_value.proofs.display.write_chars.Given as goal

abbrev pub invariant-loop-i : goal.invariant-loop-i
invariant-loop-i g l =
    record {
      utf8 : IsUtf8 (chars_rest l.rest);
      left : chars (chars_rest l.rest) ≡ drop l.i (chars l.text);
      written : IsPlainFormatter l.initial.f → HasWritten g.W.Write.write_str_gives l.initial.f (encode_utf8_all (drop l.from (take l.i (chars l.text)))) l.f;
    }
