use Rattle.std.proofs.Common.{subst}
use Rattle.query_crew.specs.Working.{IsWithin}
use Rattle.query_crew.proofs.WorkLemmas.{answered-by-viewer, answered-apart}
use Rattle.query_crew.proofs.answering.meet_worker.Goals as goal

pub returns-then-is_within-clause-answered : goal.returns-then-is_within-clause-answered
returns-then-is_within-clause-answered g c = λ whole start later worked.
    answered-by-viewer g.H.Opening.opening start c.args.publisher.now
    c.args.worker.now.viewer c.args.window.now.first c.args.me c.args.workers c.args.window.now.lines.now c.args.worker.now.answers.items
    (worked whole) (subst (λ b. IsWithin b c.args.worker.now.viewer c.args.publisher.now) c.if-is_within.true c.is_within.ensures.within)

pub returns-clause-answered : goal.returns-clause-answered
returns-clause-answered g c = λ whole start later worked.
    answered-apart g.H.Opening.opening start c.args.publisher.now c.args.window.now.first c.args.me c.args.workers c.args.window.now.lines.now c.answer_own.new.worker.answers.items
    later (c.answer_own.ensures.answered whole)
