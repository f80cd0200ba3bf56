use Rattle.std.proofs.Common.{rules}
use Rattle.window_service.proofs.Words.{handed_on, on_ok_weaker, IfErr-weaker, where_also}
use Rattle.information_service.proofs.Ends.{at_most_taken, either-way, fewer_taken, memory_not_write, none_taken}
use Rattle.information_service.specs.declared.fault.LinesFault.TheVariants.{OutOfMemory}
use Rattle.window_service.proofs.Inputs.{received-whole, received-in-part, received-at-first, nothing-received, nothing-counted}
use Rattle.window_service.proofs.output.receive_windows.Goals as goal

pub returns-clause-all : goal.returns-clause-all
returns-clause-all g c =
    on_ok_weaker c.answer_windows-run.result (λ all. received-whole c.args.budget (rw c.in_ok-reader.ensures at c.answer_windows-run.ensures.budget)
    (rw c.in_ok-crew.ensures.names at all c.args.plan.timetable c.requires.opening)) c.answer_windows-run.ensures.all

pub returns-clause-stopped : goal.returns-clause-stopped
returns-clause-stopped g c =
    IfErr-weaker c.answer_windows-run.result _ _ (λ f had. where_also _ _ f
    (λ h. received-in-part (rw c.in_ok-crew.ensures.names at h c.args.plan.timetable c.requires.opening)) had) c.answer_windows-run.ensures.stopped

pub returns-clause-begun : goal.returns-clause-begun
returns-clause-begun g c =
    IfErr-weaker c.answer_windows-run.result _ _ (λ f h. received-at-first c.args.budget (rw c.in_ok-reader.ensures at c.answer_windows-run.ensures.budget)
    (rw c.in_ok-crew.ensures.names at h c.args.plan.timetable c.requires.opening)) c.answer_windows-run.ensures.begun

pub returns-in_err-reader-clause-begun : goal.returns-in_err-reader-clause-begun
returns-in_err-reader-clause-begun g c = handed_on c.from_residual.result OutOfMemory _ c.from_residual.ensures.1 (nothing-received memory_not_write)

pub returns-in_err-crew-clause-begun : goal.returns-in_err-crew-clause-begun
returns-in_err-crew-clause-begun g c = handed_on c.from_residual-in_err-crew.result OutOfMemory _ c.from_residual-in_err-crew.ensures.1 (nothing-received memory_not_write)

pub returns-in_err-reader-clause-counts : goal.returns-in_err-reader-clause-counts
returns-in_err-reader-clause-counts g c = nothing-counted c.args.budget c.from_residual.result (g.S.Source.left c.args.input.now) _ _ _ c.from_residual.ensures.1

pub returns-in_err-crew-clause-counts : goal.returns-in_err-crew-clause-counts
returns-in_err-crew-clause-counts g c = record {
  reads = search rules;
  writes = search rules;
  full = search rules;
  at_most = none_taken c.args.budget (g.S.Source.left c.args.input.now);
  fewer = search rules;
  read_early = search rules;
  too_long = search rules;
}

pub returns-clause-counts : goal.returns-clause-counts
returns-clause-counts g c =
    let run = c.answer_windows-run in
    let same = rw c.in_ok-reader.ensures at run.ensures.budget in
    record {
      reads = run.ensures.reads;
      writes = run.ensures.writes;
      full = run.ensures.full;
      at_most = either-way run.result (on_ok_weaker run.result (λ all. at_most_taken c.args.budget same (all c.args.plan.timetable c.requires.opening).read) run.ensures.all)
          (IfErr-weaker run.result _ _ (λ f h. at_most_taken c.args.budget same (h c.args.plan.timetable c.requires.opening).read) run.ensures.begun);
      fewer = on_ok_weaker run.result (λ all. let h = all c.args.plan.timetable c.requires.opening in fewer_taken c.args.budget same h.read h.done.ended) run.ensures.all;
      read_early = rw c.in_ok-reader.ensures at run.ensures.read_early;
      too_long = rw c.in_ok-reader.ensures at run.ensures.too_long;
    }
