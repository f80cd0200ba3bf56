use Rattle.query_crew.proofs.Words.{◌≡◌, ◌-◌, List, true, length, Line}
use Rattle.query_crew.proofs.Filling.{IsBegun}
use Rattle.query_crew.proofs.reading.read_window.Given as goal

abbrev pub invariant-lines : goal.invariant-lines
invariant-lines g l = record {
  begun : (lines : List Line) × IsBegun l.directory l.initial.reader l.reader (g.S.Source.left l.initial.input) (g.S.Source.left l.input) lines l.window;
  reads : g.S.Source.faults l.input ≡ g.S.Source.faults l.initial.input;
  ended : l.initial.reader.ended ≡ true → l.input ≡ l.initial.input;
}

abbrev pub decreases-lines : goal.decreases-lines
decreases-lines g l = 256 - length l.window
