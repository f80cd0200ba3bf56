use Rattle.std.proofs.Common.{◌≡◌, ◌+◌, None, All, fold, length}
use Rattle.delay_model.specs.Timing.{floor_of}
use Rattle.event_causes.specs.Asking.{with_edge, AsksInTime}
use Rattle.event_causes.proofs.cause.asked_by.Given as goal

-- the edges that are left ask, from what was asked so far, what all ask from the floor
abbrev pub invariant-loop-edge : goal.invariant-loop-edge
invariant-loop-edge g l =
    let step = with_edge l.t.network l.t.state l.at l.time in
    (fold step l.due l.edge-iterator ≡ fold step (record { time = floor_of l.at; named = None }) l.fn.edges)
    × (l.steps + length l.edge-iterator ≡ l.fn.steps + length l.fn.edges)
    × All (AsksInTime l.t.network l.t.state) l.edge-iterator
