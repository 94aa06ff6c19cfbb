use Rattle.std.proofs.Common.{◌≡◌, ◌++◌, List, ℕ, take, Result, Ok, Err, sym, subst, arith, rules}
use Rattle.std.specs.Prelude.{IfErr, IsErr}
use Rattle.std.specs.Result.{IsErrAnd}
use Rattle.vortex_stream.proofs.ReadingLemmas.{Gave, gave_none, gave_more, gave_end, gave_fault, gave_some}
use Rattle.vortex_select.specs.inner.Stops.{StopsReading}
use Rattle.vortex_select.specs.declared.error.SelectError.{SelectError}
use Rattle.vortex_select.specs.declared.error.SelectError.TheVariants.{OutOfMemory}
use Rattle.vortex_select.proofs.reading.read_to_end.Goals as goal

-- what holds of lack of memory holds of the error that it becomes
by_memory : {A : Type 0} (result : Result A SelectError) (P : SelectError → Type 0) → IsErr result → IsErrAnd result (λ e. e ≡ OutOfMemory) → P OutOfMemory → IfErr result P
by_memory (Ok x) P failed memory h = tt
by_memory (Err e) P failed memory h = subst P (sym memory) h

pub loop-init : goal.loop-init
loop-init g c =
    let counts = g.S.Source.counts c.args.source.now in
    let rest = g.S.Source.rest c.args.source.now in
    subst (λ (l : List ℕ). Gave counts counts rest rest l 0) (sym c.new-all.ensures.items) (gave_none counts rest)

pub returns-in-Ok-eq0-clause-end : goal.returns-in-Ok-eq0-clause-end
returns-in-Ok-eq0-clause-end g c =
    let counts = g.S.Source.counts in
    let rest = g.S.Source.rest in
    gave_end _ (counts c.args.source.now) (counts c.loop.source) (counts c.read.new.self) (rest c.args.source.now) (rest c.loop.source) (rest c.read.new.self) c.loop.all.items c.read.new.piece c.loop.counter c.in-Ok-eq0.field-0
    c.loop.invariant (omega arith) c.in-Ok-eq0.field-0-test (omega arith) c.in-Ok-eq0.ensures.counted c.in-Ok-eq0.ensures.bytes

pub returns-in_err-extend_from_slice-in-Ok-clause-stopped : goal.returns-in_err-extend_from_slice-in-Ok-clause-stopped
returns-in_err-extend_from_slice-in-Ok-clause-stopped g c =
    let counts = g.S.Source.counts in
    let rest = g.S.Source.rest in
    let more = gave_more (counts c.args.source.now) (counts c.loop.source) (counts c.read.new.self) (rest c.args.source.now) (rest c.loop.source) (rest c.read.new.self) c.loop.all.items c.read.new.piece c.loop.counter c.in-Ok.count c.loop.invariant c.in-Ok.count-test.1 (search rules) c.in-Ok.ensures.counted c.in-Ok.ensures.bytes in
    by_memory c.from_residual.result (StopsReading (counts c.args.source.now) (counts c.read.new.self) (rest c.args.source.now) (rest c.read.new.self)) c.from_residual.ensures.0 c.from_residual.ensures.1
    (gave_some _ (counts c.args.source.now) (counts c.read.new.self) (rest c.args.source.now) (rest c.read.new.self) _ _ more (omega arith))

pub returns-in-Err-clause-stopped : goal.returns-in-Err-clause-stopped
returns-in-Err-clause-stopped g c =
    let counts = g.S.Source.counts in
    let rest = g.S.Source.rest in
    gave_fault _ (counts c.args.source.now) (counts c.loop.source) (counts c.read.new.self) (rest c.args.source.now) (rest c.loop.source) (rest c.read.new.self) c.loop.all.items c.loop.counter c.loop.invariant (omega arith) c.in-Err.ensures.counted c.in-Err.ensures.bytes

pub loop-preserved : goal.loop-preserved
loop-preserved g c =
    let counts = g.S.Source.counts in
    let rest = g.S.Source.rest in
    let more = gave_more (counts c.args.source.now) (counts c.loop.source) (counts c.read.new.self) (rest c.args.source.now) (rest c.loop.source) (rest c.read.new.self) c.loop.all.items c.read.new.piece c.loop.counter c.in-Ok.count c.loop.invariant c.in-Ok.count-test.1 (search rules) c.in-Ok.ensures.counted c.in-Ok.ensures.bytes in
    let items : c.extend_from_slice.new.self.items ≡ c.loop.all.items ++ take c.in-Ok.count c.read.new.piece = c.in_ok-extend_from_slice-in-Ok.ensures.items in
    rw items more
