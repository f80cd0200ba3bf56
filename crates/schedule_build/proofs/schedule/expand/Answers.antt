use Rattle.schedule_build.proofs.Words.{◌∙◌, arith, length_permutation, All-permutation, all_runs, IsTimely}
use Rattle.schedule_build.proofs.FitLemmas.{runs-fit}
use Rattle.schedule_build.proofs.InStepLemmas.{loaded-in_step}
use Rattle.schedule_build.proofs.SmallTimes.{calls-timely}
use Rattle.schedule_build.proofs.StateLemmas.{count-same, schedule-same, fit-same, few-enough}
use Rattle.schedule_build.proofs.schedule.expand.Goals as goal

pub count_all-requires-clause-few : goal.count_all-requires-clause-few
count_all-requires-clause-few c =
    let g = rw (c.as_slice.ensures, c.tables-tables.ensures.tables) at c.in_ok-all.ensures in
    rw c.as_slice-3.ensures.value (omega (arith, length_permutation _ _ g.moved, c.tables-tables.ensures.lawful.limits.others.calls))

pub load-requires-clause-few : goal.load-requires-clause-few
load-requires-clause-few c =
    let g = rw (c.as_slice.ensures, c.tables-tables.ensures.tables) at c.in_ok-all.ensures in
    rw c.as_slice-5.ensures.value (omega (arith, length_permutation _ _ g.moved, c.tables-tables.ensures.lawful.limits.others.calls))

pub load-requires-clause-timely : goal.load-requires-clause-timely
load-requires-clause-timely c =
    let t = c.args.t.now in
    let g = rw (c.as_slice.ensures, c.tables-tables.ensures.tables) at c.in_ok-all.ensures in
    rw c.as_slice-5.ensures.value (All-permutation IsTimely _ _ g.moved (calls-timely t c.tables-tables.ensures.lawful))

pub load-requires-clause-fit : goal.load-requires-clause-fit
load-requires-clause-fit c =
    let t = c.args.t.now in
    let g = rw (c.as_slice.ensures, c.tables-tables.ensures.tables) at c.in_ok-all.ensures in
    let fit = runs-fit t c.args.first c.args.days c.args.bases.now c.tables-tables.ensures.lawful c.requires.few_days c.requires.bases in
    rw (c.as_slice-5.ensures.value, c.as_slice-6.ensures.value, c.in_ok-runs.ensures.runs, c.tables-tables.ensures.tables, c.as_slice-bases.ensures) (fit-same t.calls c.in_ok-all.all.items (all_runs t c.args.first c.args.days c.args.bases.now) g.same fit)

pub returns-clause-fits : goal.returns-clause-fits
returns-clause-fits c =
    let t = c.args.t.now in
    let runs = all_runs t c.args.first c.args.days c.args.bases.now in
    let g = rw (c.as_slice.ensures, c.tables-tables.ensures.tables) at c.in_ok-all.ensures in
    let same = rw (c.tables-tables.ensures.tables, c.as_slice-bases.ensures) at c.in_ok-runs.ensures.runs in
    let count = rw (c.as_slice-3.ensures.value, c.as_slice-4.ensures.value, same, count-same t.calls c.in_ok-all.all.items runs g.same) at c.in-Some.ensures.some in
    few-enough t.calls runs (rw same at c.in_ok-runs.ensures.few) (omega (arith, count.0, count.1))

pub returns-clause-schedule : goal.returns-clause-schedule
returns-clause-schedule c =
    let t = c.args.t.now in
    let g = rw (c.as_slice.ensures, c.tables-tables.ensures.tables) at c.in_ok-all.ensures in
    let made = rw (c.as_slice-5.ensures.value, c.as_slice-6.ensures.value, c.in_ok-runs.ensures.runs, c.tables-tables.ensures.tables, c.as_slice-bases.ensures) at c.in_ok-trains.ensures in
    made ∙ schedule-same t.calls c.in_ok-all.all.items (all_runs t c.args.first c.args.days c.args.bases.now) c.args.opts.now g.same

pub directory_of-requires-clause-loaded : goal.directory_of-requires-clause-loaded
directory_of-requires-clause-loaded c =
    let fit = runs-fit c.args.t.now c.args.first c.args.days c.args.bases.now c.tables-tables.ensures.lawful c.requires.few_days c.requires.bases in
    rw (c.as_slice-7.ensures.value, c.in_ok-runs.ensures.runs, c.tables-tables.ensures.tables, c.as_slice-bases.ensures) (λ k d l. (fit k d l).day)

pub returns-clause-in_step : goal.returns-clause-in_step
returns-clause-in_step c = rw (returns-clause-schedule c, c.in_ok-directory.ensures, c.tables-tables.ensures.tables, c.as_slice-bases.ensures) (loaded-in_step c.args.t.now c.args.first c.args.days c.args.bases.now c.args.opts.now c.tables-tables.ensures.lawful)
