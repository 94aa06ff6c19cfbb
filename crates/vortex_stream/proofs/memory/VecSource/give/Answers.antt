use Rattle.std.proofs.Common.{◌≡◌, take, drop, ◌∙◌, ap, arith}
use Rattle.std.proofs.lemmas.List.{take_at}
use Rattle.std.proofs.lemmas.Grind.{common_steps}
use Rattle.vortex_stream.proofs.memory.VecSource.give.Goals as goal

pub returns-clause-bytes : goal.returns-clause-bytes
returns-clause-bytes c =
    let s = c.self.inside in
    let copied : c.copy_from_slice.new.self ≡ take c.min-count.result (drop s.place s.bytes.items) = grind (arith, common_steps) in
    take_at c.copy_from_slice.new.self _ c.min-count.result (grind (arith, common_steps)) ∙ copied ∙ ap (λ v. take c.min-count.result v.rest) c.self.view_is
