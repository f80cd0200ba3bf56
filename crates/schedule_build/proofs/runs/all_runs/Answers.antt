use Rattle.schedule_build.proofs.Words.{length, ap, arith, append_assoc, common_steps}
use Rattle.schedule_build.proofs.RunLemmas.{runs-step}
use Rattle.schedule_build.proofs.runs.all_runs.Goals as goal

pub returns-in_err-add_date-clause-fault : goal.returns-in_err-add_date-clause-fault
returns-in_err-add_date-clause-fault c =
    let step = runs-step c.args.t.now c.args.first c.args.bases.now c.loop-day.day c.args.days c.loop-day-test.true in
    let whole = ap length (rw step at c.loop-day.invariant.runs) in
    grind (arith, common_steps, whole, c.base_on.ensures, c.in_err-add_date.ensures.fault)

pub loop-day-preserved : goal.loop-day-preserved
loop-day-preserved c =
    let step = runs-step c.args.t.now c.args.first c.args.bases.now c.loop-day.day c.args.days c.loop-day-test.true in
    record { runs = rw (c.in_ok-add_date.ensures.runs, c.base_on.ensures, append_assoc) (rw step at c.loop-day.invariant.runs); few = c.in_ok-add_date.ensures.few }
