use Rattle.std.proofs.Common.{◌≡◌, true}
use Rattle.std.proofs.lemmas.Str.{IsUtf8-from_is_utf8}
use Rattle.std.specs.Str.{is_utf8}
use Rattle.vortex_buffer.proofs.text.BufferString.try_new.Goals as goal

pub invariant_of-result : goal.invariant_of-result
invariant_of-result c =
    let passes : is_utf8 c.args.buffer.bytes ≡ true = cc in
    IsUtf8-from_is_utf8 _ passes
