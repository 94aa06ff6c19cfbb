use Rattle.std.proofs.Common.{arith}
use Rattle.vortex_flat.proofs.TableLemmas.{table_no_back, table_no_vtable}
use Rattle.vortex_body.proofs.Leading.{no_table, vtable_is}
use Rattle.vortex_body.proofs.first.vtable_of.Goals as goal

pub returns-in_default : goal.returns-in_default
returns-in_default c t e = no_table c.args.flat.now c.args.place 0 t (table_no_back c.args.flat.now c.args.place c.in_default.ensures.1) e

pub returns-in-Some : goal.returns-in-Some
returns-in-Some c t e = vtable_is c.args.flat.now c.args.place c.in-Ok.back c.in-Some.vtable t c.in-Ok.ensures c.in-Some.ensures e

pub returns-in-None : goal.returns-in-None
returns-in-None c t e = no_table c.args.flat.now c.args.place 0 t (table_no_vtable c.args.flat.now c.args.place c.in-Ok.back c.in-Ok.ensures c.in-None.ensures (omega arith)) e
