use Rattle.query_crew.proofs.Words.{◌≡◌, length, HasAnswered}
use Rattle.query_crew.specs.Keeping.{IsKept}
use Rattle.query_crew.proofs.answering.answer_own.Given as goal

abbrev pub invariant-loop-i : goal.invariant-loop-i
invariant-loop-i g l = record {
  answered : HasAnswered g.H.Opening.opening l.fn.publisher (length l.fn.publisher) l.fn.window.first l.fn.me l.fn.workers l.fn.window.lines.now l.worker.answers.items;
  count : length l.worker.answers.items ≡ l.i;
  kept : IsKept l.fn.worker l.worker;
}
