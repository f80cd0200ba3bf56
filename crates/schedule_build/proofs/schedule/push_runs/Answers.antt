use Rattle.schedule_build.proofs.Words.{arith, common_steps}
use Rattle.schedule_build.proofs.StateLemmas.{count-step, train-length}
use Rattle.schedule_build.proofs.schedule.push_runs.Goals as goal

pub loop-run-preserved : goal.loop-run-preserved
loop-run-preserved c =
    let all = c.args.all.now in
    let runs = c.args.runs.now in
    let i = c.loop-run.run-index in
    let r = c.run-item.result in
    let step = count-step all runs i r c.loop-run-test.true c.run-item.is in
    grind (arith, common_steps, step, train-length all r, c.in_ok-push_run.ensures, c.loop-run.invariant)
