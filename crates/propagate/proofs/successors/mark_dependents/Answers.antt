use Rattle.propagate.proofs.Words.{filter, node_of, Contains, All-filter, Edge, events, live_keys, edges_from, may_change, IsPermutation-refl}
use Rattle.edge_rules.specs.AtEvent.{along_from}
use Rattle.propagate.proofs.Marking.{both-ends, both-marked, marking-first, marking-last, marking-more, marking-room, next-known}
use Rattle.propagate.proofs.successors.mark_dependents.Goals as goal

pub mark_next-requires : goal.mark_next-requires
mark_next-requires c =
    let live = live_keys (events c.args.graph.now.state) in
    let along = along_from c.args.graph.now.network.opts c.args.graph.now.state (node_of c.args.at.now.key) in
    let may = may_change c.args.was c.args.is in
    let gs = edges_from c.args.graph.now (node_of c.args.at.now.key) in
    let ends = both-ends live along c.transfers_changing-transfers.result (filter may gs) c.transfers_changing-transfers.ensures.edges (All-filter may (λ (e : Edge). Contains live e.to) gs c.requires.ends) in
    record {
      there = c.requires.there;
      ends = ends.0;
      marked = c.requires.marked;
      room = c.requires.room;
    }

pub loop-edge-init : goal.loop-edge-init
loop-edge-init c =
    let live = live_keys (events c.args.graph.now.state) in
    let along = along_from c.args.graph.now.network.opts c.args.graph.now.state (node_of c.args.at.now.key) in
    let may = may_change c.args.was c.args.is in
    let gs = edges_from c.args.graph.now (node_of c.args.at.now.key) in
    let transfers = c.transfers_changing-transfers.result in
    let ends = both-ends live along transfers (filter may gs) c.transfers_changing-transfers.ensures.edges (All-filter may (λ (e : Edge). Contains live e.to) gs c.requires.ends) in
    rw c.into_iter-edge-iterator.ensures.into_iter_gives
    (marking-first live transfers transfers c.mark_next.new.marks (IsPermutation-refl transfers) ends.1 (next-known live along c.args.marks.now c.mark_next.new.marks c.requires.marked ends.0 c.mark_next.ensures.marked))

pub set-requires : goal.set-requires
set-requires c =
    record {
      room = marking-room c.loop-edge.invariant c.in-Some.ensures.steps (rw c.mark_next.ensures.room c.requires.room) c.marks_are_in_order.ensures.ascends;
    }

pub loop-edge-preserved : goal.loop-edge-preserved
loop-edge-preserved c = marking-more c.loop-edge.invariant c.in-Some.ensures.steps c.set.new.self c.set.ensures.room c.set.ensures.marked

pub returns-clause-marked : goal.returns-clause-marked
returns-clause-marked c = λ q.
    let along = along_from c.args.graph.now.network.opts c.args.graph.now.state (node_of c.args.at.now.key) in
    let gs = edges_from c.args.graph.now (node_of c.args.at.now.key) in
    both-marked along c.transfers_changing-transfers.result c.into_iter-edge-iterator.result gs (may_change c.args.was c.args.is) c.args.marks.now c.mark_next.new.marks c.loop-edge.marks c.transfers_changing-transfers.ensures.edges
    c.into_iter-edge-iterator.ensures.into_iter_gives c.mark_next.ensures.marked (marking-last c.loop-edge.invariant c.in-None.ensures.steps.0) q
