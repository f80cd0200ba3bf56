use Rattle.std.proofs.Common.{◌≡◌, ◌++◌}
use Rattle.delay_model.specs.Events.{train_events}
use Rattle.delay_model.specs.Timing.{event_time}
use Rattle.delay_report.specs.Table.{rows_of_events}
use Rattle.delay_report.specs.Written.{bytes_of, IsBetweenRows}
use Rattle.delay_report.proofs.EventRows.{AreNamed}
use Rattle.delay_report.proofs.table.push_train.Given as goal

abbrev pub invariant-loop-event : goal.invariant-loop-event
invariant-loop-event g l = record {
  between : IsBetweenRows l.out.writer;
  rows : bytes_of l.out.writer ++ rows_of_events l.dir (event_time l.t.network l.t.state) l.event-iterator
      ≡ bytes_of l.initial.out.writer ++ rows_of_events l.dir (event_time l.t.network l.t.state) (train_events l.t.state l.fn.train);
  named : AreNamed l.t.state l.event-iterator;
}
