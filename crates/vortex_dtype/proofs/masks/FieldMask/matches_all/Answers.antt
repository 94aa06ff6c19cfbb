use Rattle.std.proofs.Common.{rules, false}
use Rattle.vortex_dtype.proofs.Masked.{all_selected}
use Rattle.vortex_dtype.proofs.masks.FieldMask.matches_all.Goals as goal

pub returns-in-Prefix-clause-each : goal.returns-in-Prefix-clause-each
returns-in-Prefix-clause-each c = all_selected c.args.self.now c.is_root.result (search rules)

pub returns-in-Exact-clause-each : goal.returns-in-Exact-clause-each
returns-in-Exact-clause-each c = all_selected c.args.self.now false (search rules)
