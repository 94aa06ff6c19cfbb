use Rattle.std.proofs.Common.{◌≡◌, length}
use Rattle.vortex_wire.specs.Inside.{texts}
use Rattle.vortex_wire.proofs.BytesFound.{after}
use Rattle.vortex_wire.proofs.inside.texts.Given as goal

abbrev pub invariant-loop-found : goal.invariant-loop-found
invariant-loop-found l = after l.found.items (texts l.number l.fields) ≡ texts l.number l.b

abbrev pub decreases-loop-found : goal.decreases-loop-found
decreases-loop-found l = length l.fields
