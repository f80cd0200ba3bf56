use Rattle.propagate.proofs.Words.{◌<◌, ◌^◌, ◌++◌, filter, node_of, Contains, All, All-filter, Edge, events, live_keys, edges_from, may_change, IsPermutation-refl, sym, subst}
use Rattle.edge_rules.specs.AtEvent.{along_from}
use Rattle.propagate.specs.Asked.{AreRaised}
use Rattle.propagate.proofs.Marking.{both-ends, both-hold, both-marked, marking-first, marking-last, marking-more, marking-room, next-known}
use Rattle.propagate.proofs.Raising.{both-raise, raised-moves, raising-first, raising-last, raising-more, raising-next}
use Rattle.propagate.proofs.successors.ask_dependents.Goals as goal

pub ask_next-requires : goal.ask_next-requires
ask_next-requires c =
    let live = live_keys (events c.args.graph.now.state) in
    let along = along_from c.args.graph.now.network.opts c.args.graph.now.state (node_of c.args.at.now.key) in
    let may = may_change c.args.was c.args.is in
    let gs = edges_from c.args.graph.now (node_of c.args.at.now.key) in
    let moved = c.transfers_changing-transfers.ensures.edges in
    let ends = both-ends live along c.transfers_changing-transfers.result (filter may gs) moved (All-filter may (λ (e : Edge). Contains live e.to) gs c.requires.ends) in
    let weights = both-hold (λ (e : Edge). e.weight < 2 ^ 24) along c.transfers_changing-transfers.result (filter may gs) moved (All-filter may (λ (e : Edge). e.weight < 2 ^ 24) gs c.requires.weights) in
    record {
      there = c.requires.there;
      ends = ends.0;
      weights = weights.0;
      marked = c.requires.marked;
      room = c.requires.room;
    }

pub loop-edge-init : goal.loop-edge-init
loop-edge-init c =
    let live = live_keys (events c.args.graph.now.state) in
    let along = along_from c.args.graph.now.network.opts c.args.graph.now.state (node_of c.args.at.now.key) in
    let may = may_change c.args.was c.args.is in
    let gs = edges_from c.args.graph.now (node_of c.args.at.now.key) in
    let transfers = c.transfers_changing-transfers.result in
    let ends = both-ends live along transfers (filter may gs) c.transfers_changing-transfers.ensures.edges (All-filter may (λ (e : Edge). Contains live e.to) gs c.requires.ends) in
    rw c.into_iter-edge-iterator.ensures.into_iter_gives (
      marking-first live transfers transfers c.ask_next.new.marks (IsPermutation-refl transfers) ends.1 (next-known live along c.args.marks.now c.ask_next.new.marks c.requires.marked ends.0 c.ask_next.ensures.marked),
      raising-first c.args.was c.args.is transfers c.ask_next.new.marks c.ask_next.new.asked,
    )

pub mark_and_ask-requires : goal.mark_and_ask-requires
mark_and_ask-requires c =
    let along = along_from c.args.graph.now.network.opts c.args.graph.now.state (node_of c.args.at.now.key) in
    let may = may_change c.args.was c.args.is in
    let gs = edges_from c.args.graph.now (node_of c.args.at.now.key) in
    let weights = both-hold (λ (e : Edge). e.weight < 2 ^ 24) along c.transfers_changing-transfers.result (filter may gs) c.transfers_changing-transfers.ensures.edges (All-filter may (λ (e : Edge). e.weight < 2 ^ 24) gs c.requires.weights) in
    let left = subst (All (λ (e : Edge). e.weight < 2 ^ 24)) (sym c.into_iter-edge-iterator.ensures.into_iter_gives) weights.1 in
    record {
      weight = raising-next c.loop-edge.invariant.1 c.in-Some.ensures.steps (λ (e : Edge). e.weight < 2 ^ 24) left;
      room = marking-room c.loop-edge.invariant.0 c.in-Some.ensures.steps (rw c.ask_next.ensures.room c.requires.room) c.marks_are_in_order.ensures.ascends;
    }

pub loop-edge-preserved : goal.loop-edge-preserved
loop-edge-preserved c = (
  marking-more c.loop-edge.invariant.0 c.in-Some.ensures.steps c.mark_and_ask.new.marks c.mark_and_ask.ensures.room c.mark_and_ask.ensures.marked,
  raising-more c.loop-edge.invariant.1 c.in-Some.ensures.steps c.mark_and_ask.new.marks c.mark_and_ask.ensures.marked c.mark_and_ask.new.asked c.mark_and_ask.ensures.asked,
)

pub returns-clause-marked : goal.returns-clause-marked
returns-clause-marked c = λ q.
    let along = along_from c.args.graph.now.network.opts c.args.graph.now.state (node_of c.args.at.now.key) in
    let gs = edges_from c.args.graph.now (node_of c.args.at.now.key) in
    both-marked along c.transfers_changing-transfers.result c.into_iter-edge-iterator.result gs (may_change c.args.was c.args.is) c.args.marks.now c.ask_next.new.marks c.loop-edge.marks c.transfers_changing-transfers.ensures.edges
    c.into_iter-edge-iterator.ensures.into_iter_gives c.ask_next.ensures.marked (marking-last c.loop-edge.invariant.0 c.in-None.ensures.steps.0) q

pub returns-clause-asked : goal.returns-clause-asked
returns-clause-asked c =
    let along = along_from c.args.graph.now.network.opts c.args.graph.now.state (node_of c.args.at.now.key) in
    let gs = edges_from c.args.graph.now (node_of c.args.at.now.key) in
    let others = c.transfers_changing-transfers.result in
    let last = subst (λ gs. AreRaised c.args.was c.args.is gs c.ask_next.new.marks c.ask_next.new.asked c.loop-edge.asked) c.into_iter-edge-iterator.ensures.into_iter_gives (raising-last c.loop-edge.invariant.1 c.in-None.ensures.steps.0) in
    raised-moves c.args.was c.args.is (along ++ others) (filter (may_change c.args.was c.args.is) gs) c.args.marks.now c.args.asked.now c.loop-edge.asked c.transfers_changing-transfers.ensures.edges
    (both-raise c.args.was c.args.is along others c.args.marks.now c.ask_next.new.marks c.args.asked.now c.ask_next.new.asked c.loop-edge.asked c.ask_next.ensures.asked c.ask_next.ensures.marked last)
