use Rattle.propagate.proofs.Raising.{one-edge}
use Rattle.propagate.proofs.successors.mark_and_ask.Goals as goal

pub returns-clause-asked : goal.returns-clause-asked
returns-clause-asked c =
    one-edge c.args.was c.args.is c.args.edge.now c.args.marks.now c.args.asked.now c.raise.new.self c.set-fresh.result c.set-fresh.ensures.fresh (λ a h. rw c.by.ensures at (c.raise.ensures.own a h)) c.raise.ensures.others
