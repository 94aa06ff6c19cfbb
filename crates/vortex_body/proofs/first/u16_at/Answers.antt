use Rattle.std.proofs.Common.{sym, ◌∙◌, ap}
use Rattle.std.specs.Prelude.{Some}
use Rattle.vortex_body.proofs.Leading.{two_bytes}
use Rattle.vortex_body.proofs.first.u16_at.Goals as goal

pub returns : goal.returns
returns c = ap Some c.from_le_bytes.ensures ∙ sym (two_bytes c.args.flat.now c.args.place c.requires)
