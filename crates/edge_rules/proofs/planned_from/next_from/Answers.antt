use Rattle.edge_rules.proofs.Words.{All-tail, HasLiveEvent, arith}
use Rattle.edge_rules.proofs.planned_from.next_from.Goals as goal

pub returns-in-Some-edge_to-clause-left : goal.returns-in-Some-edge_to-clause-left
returns-in-Some-edge_to-clause-left c =
    All-tail (HasLiveEvent c.args.graph.now.state) c.in-Some-next.entry c.next.new.self (rw c.in-Some-next.ensures.steps at c.loop-entry.invariant.0)

pub loop-entry-preserved : goal.loop-entry-preserved
loop-entry-preserved c =
    (All-tail (HasLiveEvent c.args.graph.now.state) c.in-Some-next.entry c.next.new.self (rw c.in-Some-next.ensures.steps at c.loop-entry.invariant.0), grind arith)
