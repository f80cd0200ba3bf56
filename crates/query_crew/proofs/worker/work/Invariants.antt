use Rattle.query_crew.proofs.Words.{◌≡◌, length, IsPrefix, HasAnswered}
use Rattle.query_crew.proofs.worker.work.Given as goal

abbrev pub invariant-loop-i : goal.invariant-loop-i
invariant-loop-i g l =
    IsPrefix l.fn.note l.viewer.learnt × HasAnswered g.H.Opening.opening l.viewer.seen (length l.fn.note) l.fn.window.first l.fn.me l.fn.workers l.fn.window.lines.now l.answers.items
    × (length l.answers.items ≡ l.i) × (l.scratch.room ≡ l.fn.worker.scratch.room)
