use Rattle.vortex_body.proofs.Runs.{began, went_on}
use Rattle.vortex_body.proofs.places.runs_of.Goals as goal

pub loop-init : goal.loop-init
loop-init c = began c.args.flat.now c.args.buffers.now c.in_ok-runs.runs.items c.in_ok-runs.ensures.items

pub loop-preserved : goal.loop-preserved
loop-preserved c = went_on c.args.flat.now c.args.buffers.now c.loop.runs.items c.deref.result.now c.push.new.self.items c.next_run-run.result c.loop.counter c.deref.ensures.value c.in_ok-push.ensures.items c.loop.invariant c.next_run-run.ensures
