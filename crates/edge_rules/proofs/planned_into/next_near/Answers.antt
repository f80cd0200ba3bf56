use Rattle.edge_rules.proofs.Words.{All-tail, HasLiveEvent, arith}
use Rattle.edge_rules.proofs.planned_into.next_near.Goals as goal

pub returns-in-Some-edge_from-clause-left : goal.returns-in-Some-edge_from-clause-left
returns-in-Some-edge_from-clause-left c =
    All-tail (HasLiveEvent c.args.graph.now.state) c.in-Some.entry c.next.new.self (rw c.in-Some.ensures.steps at c.loop-entry.invariant.0)

pub loop-entry-preserved : goal.loop-entry-preserved
loop-entry-preserved c =
    (All-tail (HasLiveEvent c.args.graph.now.state) c.in-Some.entry c.next.new.self (rw c.in-Some.ensures.steps at c.loop-entry.invariant.0), grind arith)
