use Rattle.std.proofs.Common.{◌≡◌, ◌+◌, ◌*◌, arith}
use Rattle.vortex_mask.specs.Bits.{truths_in}
use Rattle.vortex_mask.proofs.Pushes.{view_finished}
use Rattle.vortex_mask.proofs.builder.MaskBuilder.finish.Goals as goal

pub returns : goal.returns
returns c =
    let e : truths_in (8 * c.len-2.result + c.self.inside.filled) c.push.new.self.items ≡ c.args.self = view_finished c.self.inside.bytes.items c.push.new.self.items c.self.inside.filled c.self.inside.part c.len-2.result c.args.self c.self.view_is c.self.invariant.0 (omega arith) c.in_ok-push.ensures.items in
    rw (← e) c.from_vec.ensures
