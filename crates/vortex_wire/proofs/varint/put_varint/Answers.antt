use Rattle.std.proofs.Common.{refl, arith}
use Rattle.std.proofs.lemmas.Grind.{common_steps}
use Rattle.vortex_wire.proofs.Writing.{writes_from_start, writes_more, writes_last, varint_again, varint_shortest}
use Rattle.vortex_wire.proofs.varint.put_varint.Goals as goal

pub loop-left-init : goal.loop-left-init
loop-left-init c = writes_from_start c.args.v _ (omega arith) refl

pub loop-left-preserved : goal.loop-left-preserved
loop-left-preserved c = writes_more c.args.v c.loop-left.buffer c.loop-left.len c.loop-left.left _ c.loop-left.invariant c.loop-left-test.true refl

pub returns-in_err-extend_from_slice-clause-again :
    goal.returns-in_err-extend_from_slice-clause-again
returns-in_err-extend_from_slice-clause-again c = λ rest. varint_again c.args.v rest (omega arith)

pub returns-in_err-extend_from_slice-clause-shortest :
    goal.returns-in_err-extend_from_slice-clause-shortest
returns-in_err-extend_from_slice-clause-shortest c = varint_shortest c.args.v

pub returns-clause-appended : goal.returns-clause-appended
returns-clause-appended c =
    let written = writes_last c.args.v c.loop-left.buffer c.loop-left.len c.loop-left.left c.loop-left.invariant (omega (arith, c.loop-left-test.false)) in
    rw (← written) (grind (arith, common_steps))

pub returns-clause-again : goal.returns-clause-again
returns-clause-again c = λ rest. varint_again c.args.v rest (omega arith)

pub returns-clause-shortest : goal.returns-clause-shortest
returns-clause-shortest c = varint_shortest c.args.v
