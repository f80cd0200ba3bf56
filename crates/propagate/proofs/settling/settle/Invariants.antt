use Rattle.delay_model.specs.Events.{events}
use Rattle.propagate.specs.LiveKeys.{key_order}
use Rattle.propagate.proofs.settling.settle.Given as goal
use Rattle.propagate.proofs.Walk.{IsPart, ahead_by}

-- what is before the least mark is settled
abbrev pub invariant-loop-key : goal.invariant-loop-key
invariant-loop-key g l = IsPart l.graph (key_order (events l.graph.state)) l.fn.times l.fn.marks l.fn.changed l.fn.steps l.times l.marks l.table l.changed l.steps

abbrev pub decreases-loop-key : goal.decreases-loop-key
decreases-loop-key g l = ahead_by (key_order (events l.graph.state)) l.marks.keys
