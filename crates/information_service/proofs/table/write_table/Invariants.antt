use Rattle.information_service.proofs.Words.{◌≡◌, ◌++◌, header, rows_from}
use Rattle.information_service.specs.Fronts.{Gathers}
use Rattle.information_service.proofs.table.write_table.Given as goal

abbrev pub invariant-loop-train : goal.invariant-loop-train
invariant-loop-train g l = record {
  rows : Gathers (g.K.Sink.written l.fn.out) (g.K.Sink.written l.out) (header ++ rows_from l.directory l.timetable.network l.timetable.state 0 l.train) l.gathered.items;
  write : g.K.Sink.faults l.out ≡ g.K.Sink.faults l.fn.out;
}
