use Rattle.schedule_build.proofs.Words.{arith, rows_of}
use Rattle.schedule_build.proofs.CallLemmas.{trip_calls-length}
use Rattle.schedule_build.proofs.StateLemmas.{count-step}
use Rattle.schedule_build.proofs.schedule.count_all.Goals as goal

pub returns-then-count-gt1000000-clause-none : goal.returns-then-count-gt1000000-clause-none
returns-then-count-gt1000000-clause-none c = λ _.
    let all = c.args.all.now in
    let r = c.run-item.result in
    let step = count-step all c.args.runs.now c.loop-run.run-index r c.loop-run-test.true c.run-item.is in
    let one = rw (c.rows_of.ensures, ← trip_calls-length r.base (rows_of all r.trip)) at c.count_timed-count.ensures.count in
    omega (arith, step, one, c.loop-run.invariant.count, c.if-count-gt1000000.true)

pub loop-run-preserved : goal.loop-run-preserved
loop-run-preserved c =
    let all = c.args.all.now in
    let r = c.run-item.result in
    let step = count-step all c.args.runs.now c.loop-run.run-index r c.loop-run-test.true c.run-item.is in
    let one = rw (c.rows_of.ensures, ← trip_calls-length r.base (rows_of all r.trip)) at c.count_timed-count.ensures.count in
    record { count = omega (arith, step, one, c.loop-run.invariant.count); few = omega (arith, c.if-count-gt1000000.false) }
