use Rattle.schedule_build.proofs.Words.{◌+◌, [], length, ap, arith, common_steps, State, pushed}
use Rattle.schedule_build.proofs.StateLemmas.{pushed-is}
use Rattle.std.specs.FinMap as finmap
use Rattle.schedule_build.proofs.schedule.load.Goals as goal

pub returns : goal.returns
returns c =
    let all = c.args.all.now in
    let runs = c.args.runs.now in
    let o = c.args.opts.now in
    let empty : State =
    record {
      trains = [];
      overrides = finmap.empty;
      spare_trains = length runs + o.spare_trains;
      spare_calls = c.args.calls + o.spare_calls;
      spare_overrides = o.overrides;
    } in
    let filled = pushed-is all runs empty in
    let started = ap (pushed all runs) c.in_ok-trains.ensures in
    grind (arith, common_steps, filled, started, c.in_ok-push_runs.ensures, c.requires.count)
