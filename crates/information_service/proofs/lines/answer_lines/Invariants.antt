use Rattle.information_service.proofs.Words.{◌≡◌, ◌≤◌, ◌+◌, List, ℕ, length, Line}
use Rattle.information_service.proofs.Answered.{AreGathered}
use Rattle.mt_io.specs.Reader.{work}
use Rattle.information_service.proofs.lines.answer_lines.Given as goal

abbrev pub invariant-lines : goal.invariant-lines
invariant-lines g l = record {
  answered : (bytes : List ℕ) × (lines : List Line)
      × AreGathered g.T.AnswerLines.output.answers l.initial.service l.initial.kept l.service l.kept l.reader
      (g.S.Source.left l.initial.input) (g.S.Source.left l.input) (g.K.Sink.written l.initial.out) (g.K.Sink.written l.out) l.gathered.items bytes lines
      × (l.before ≡ length lines);
  count : l.service.count ≤ l.initial.service.count + l.before;
  fits : g.T.AnswerLines.output.fits l.service l.kept;
  budget : l.reader.budget ≡ l.initial.reader.budget;
  read : g.S.Source.faults l.input ≡ g.S.Source.faults l.initial.input;
  write : g.K.Sink.faults l.out ≡ g.K.Sink.faults l.initial.out;
}

abbrev pub decreases-lines : goal.decreases-lines
decreases-lines g l = work l.reader
