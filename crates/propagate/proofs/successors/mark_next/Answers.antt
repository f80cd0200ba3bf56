use Rattle.propagate.proofs.Words.{sym, refl, node_of, events, live_keys, IsPermutation-refl}
use Rattle.edge_rules.specs.AtEvent.{along_from}
use Rattle.propagate.proofs.Marking.{marking-first, marking-last, marking-more, marking-room}
use Rattle.propagate.proofs.successors.mark_next.Goals as goal

pub set-requires : goal.set-requires
set-requires c =
    let gs = along_from c.args.graph.now.network.opts c.args.graph.now.state (node_of c.args.at.now.key) in
    let part = marking-first (live_keys (events c.args.graph.now.state)) gs gs c.args.marks.now (IsPermutation-refl gs) c.requires.ends c.requires.marked in
    record { room = marking-room part (sym c.in-Some.ensures) c.requires.room c.marks_are_in_order.ensures.ascends }

pub returns-in-Some-clause-marked : goal.returns-in-Some-clause-marked
returns-in-Some-clause-marked c = λ q.
    let gs = along_from c.args.graph.now.network.opts c.args.graph.now.state (node_of c.args.at.now.key) in
    let part = marking-first (live_keys (events c.args.graph.now.state)) gs gs c.args.marks.now (IsPermutation-refl gs) c.requires.ends c.requires.marked in
    marking-last (marking-more part (sym c.in-Some.ensures) c.set.new.self c.set.ensures.room c.set.ensures.marked) refl q
