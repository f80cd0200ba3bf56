use Rattle.timetable.proofs.Words.{All, events, is_same}
use Rattle.edge_rules.specs.AtEvent.{edges_from}
use Rattle.timetable.proofs.Feeds.{LeadsToLive}
use Rattle.timetable.proofs.Marked.{IsMarking}
use Rattle.timetable.proofs.marking.mark_fed_by.Given as goal

-- the ends of the edges so far are marked
abbrev pub invariant-loop-edge : goal.invariant-loop-edge
invariant-loop-edge l =
    record {
      marking : IsMarking (events l.graph.state) (λ q e. is_same e.to q) (edges_from l.graph l.fn.n) l.fn.marks l.edge-iterator l.marks;
      live : All (LeadsToLive (events l.graph.state)) l.edge-iterator;
    }
