use Rattle.std.proofs.Common.{◌≡◌, length}
use Rattle.std.specs.Option.{option_copied}
use Rattle.vortex_wire.specs.Inside.{singular_text, texts}
use Rattle.vortex_wire.proofs.BytesFound.{text_after}
use Rattle.vortex_wire.proofs.inside.singular_text.Given as goal

abbrev pub invariant-loop-text : goal.invariant-loop-text
invariant-loop-text l = text_after (option_copied l.last) (texts l.number l.fields) ≡ singular_text l.number l.b

abbrev pub decreases-loop-text : goal.decreases-loop-text
decreases-loop-text l = length l.fields
