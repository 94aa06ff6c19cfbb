use Rattle.std.proofs.Common.{arith}
use Rattle.vortex_wire.proofs.FieldLaws.{varint_field_again}
use Rattle.vortex_wire.proofs.message.put_varint_field.Goals as goal

pub returns-then-is_err-clause-again : goal.returns-then-is_err-clause-again
returns-then-is_err-clause-again c = λ rest. varint_field_again c.args.number c.args.v rest c.requires.some c.requires.most (omega arith)

pub returns-else-is_err-clause-again : goal.returns-else-is_err-clause-again
returns-else-is_err-clause-again c = λ rest. varint_field_again c.args.number c.args.v rest c.requires.some c.requires.most (omega arith)
