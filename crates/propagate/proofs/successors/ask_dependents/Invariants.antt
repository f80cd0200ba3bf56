use Rattle.delay_model.specs.Events.{events}
use Rattle.propagate.specs.LiveKeys.{live_keys}
use Rattle.propagate.proofs.Marking.{IsMarking}
use Rattle.propagate.proofs.Raising.{IsRaising}
use Rattle.propagate.proofs.successors.ask_dependents.Given as goal

-- the edges that are left lead to what is still to be marked, and the others have raised what is asked of the events to which they lead
abbrev pub invariant-loop-edge : goal.invariant-loop-edge
invariant-loop-edge l =
    IsMarking (live_keys (events l.graph.state)) l.initial.edge-iterator l.initial.marks l.edge-iterator l.marks
    × IsRaising l.was l.is l.initial.edge-iterator l.initial.marks l.initial.asked l.edge-iterator l.marks l.asked
