use Rattle.std.proofs.Common.{sym, subst, ◌-◌, length, arith}
use Rattle.vortex_body.specs.inner.Runs.{IsRun}
use Rattle.vortex_body.proofs.Runs.{four_runs, next_is, no_buffer, no_word}
use Rattle.vortex_body.proofs.places.next_run.Goals as goal

pub returns-in_default : goal.returns-in_default
returns-in_default c = no_word c.args.flat.now c.args.buffers.now (length c.args.flat.now - length c.args.runs.now) c.in_default.ensures.1

pub returns-then-buffers-place : goal.returns-then-buffers-place
returns-then-buffers-place c = no_buffer c.args.flat.now c.args.buffers.now (length c.args.flat.now - length c.args.runs.now) c.in-Ok.place c.in-Ok.ensures c.if-buffers-place.true

pub overflow_sub-runs : goal.overflow_sub-runs
overflow_sub-runs c = four_runs c.args.flat.now c.args.runs.now c.in-Ok.place c.requires.some c.in-Ok.ensures

pub bounds-runs-runs : goal.bounds-runs-runs
bounds-runs-runs c = omega (arith, four_runs c.args.flat.now c.args.runs.now c.in-Ok.place c.requires.some c.in-Ok.ensures)

pub returns : goal.returns
returns c = subst (IsRun c.args.flat.now c.args.buffers.now (length c.args.flat.now - length c.args.runs.now)) (sym c.saturating_add.ensures) (next_is c.args.flat.now c.args.buffers.now c.args.runs.now c.in-Ok.place c.requires.some c.requires.runs c.in-Ok.ensures c.if-buffers-place.false)
