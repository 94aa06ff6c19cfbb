use Rattle.std.proofs.Common.{arith}
use Rattle.vortex_wire.proofs.FieldLaws.{bytes_field_again}
use Rattle.vortex_wire.proofs.field.put_bytes.Goals as goal

pub returns-then-is_err-clause-again : goal.returns-then-is_err-clause-again
returns-then-is_err-clause-again c = λ rest. bytes_field_again c.args.number c.args.bytes.now rest c.requires.some c.requires.most (omega arith)

pub returns-else-is_err-clause-again : goal.returns-else-is_err-clause-again
returns-else-is_err-clause-again c = λ rest. bytes_field_again c.args.number c.args.bytes.now rest c.requires.some c.requires.most (omega arith)
