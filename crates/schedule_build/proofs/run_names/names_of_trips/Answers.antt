use Rattle.schedule_build.proofs.Words.{arith, take, name_of_run}
use Rattle.std.proofs.lemmas.List.{take_all}
use Rattle.std.proofs.lemmas.List.Elements.{All-more, All-weaker}
use Rattle.schedule_build.specs.Stored.{HasName}
use Rattle.schedule_build.specs.declared.runs.Run.{Run}
use Rattle.schedule_build.proofs.run_names.names_of_trips.Goals as goal

pub loop-run-preserved : goal.loop-run-preserved
loop-run-preserved c =
    let runs = c.args.runs.now in
    let trips = c.args.trips.now in
    let i = c.loop-run.run-index in
    let run = c.run-item.result in
    let old = c.loop-run.names.items in
    let new = c.add_name.new.names.items in
    let added = c.in_ok-add_name.ensures in
    let kept = All-weaker (λ (r : Run). HasName old (name_of_run trips r).trip) (λ (r : Run). HasName new (name_of_run trips r).trip) (λ r h. added.kept (name_of_run trips r).trip h) (take i runs) c.loop-run.invariant.named in
    record {
      marks = added.marks;
      few = omega (arith, added.few, c.loop-run.invariant.few);
      named = All-more (λ (r : Run). HasName new (name_of_run trips r).trip) runs i run (omega arith) kept (rw (← c.run-item.is) added.named);
    }

pub returns-clause-named : goal.returns-clause-named
returns-clause-named c =
    let whole = take_all c.loop-run.run-index c.args.runs.now (omega arith) in
    rw whole at c.loop-run.invariant.named
