use Rattle.propagate.proofs.Words.{◌<◌, ◌^◌, [], All, All-head, Edge, sym, refl, subst, node_of, events, live_keys, IsPermutation-refl}
use Rattle.edge_rules.specs.AtEvent.{along_from}
use Rattle.propagate.specs.Asked.{AreRaised}
use Rattle.propagate.proofs.Marking.{marking-first, marking-last, marking-more, marking-room}
use Rattle.propagate.proofs.Raising.{no-edge}
use Rattle.propagate.proofs.successors.ask_next.Goals as goal

pub mark_and_ask-requires : goal.mark_and_ask-requires
mark_and_ask-requires c =
    let gs = along_from c.args.graph.now.network.opts c.args.graph.now.state (node_of c.args.at.now.key) in
    let part = marking-first (live_keys (events c.args.graph.now.state)) gs gs c.args.marks.now (IsPermutation-refl gs) c.requires.ends c.requires.marked in
    record {
      weight = All-head (λ (e : Edge). e.weight < 2 ^ 24) c.in-Some.edge [] (subst (All (λ (e : Edge). e.weight < 2 ^ 24)) (sym c.in-Some.ensures) c.requires.weights);
      room = marking-room part (sym c.in-Some.ensures) c.requires.room c.marks_are_in_order.ensures.ascends;
    }

pub returns-in-Some-clause-marked : goal.returns-in-Some-clause-marked
returns-in-Some-clause-marked c = λ q.
    let gs = along_from c.args.graph.now.network.opts c.args.graph.now.state (node_of c.args.at.now.key) in
    let part = marking-first (live_keys (events c.args.graph.now.state)) gs gs c.args.marks.now (IsPermutation-refl gs) c.requires.ends c.requires.marked in
    marking-last (marking-more part (sym c.in-Some.ensures) c.mark_and_ask.new.marks c.mark_and_ask.ensures.room c.mark_and_ask.ensures.marked) refl q

pub returns-in-Some-clause-asked : goal.returns-in-Some-clause-asked
returns-in-Some-clause-asked c =
    subst (λ gs. AreRaised c.args.was c.args.is gs c.args.marks.now c.args.asked.now c.mark_and_ask.new.asked) c.in-Some.ensures c.mark_and_ask.ensures.asked

pub returns-in_default-clause-asked : goal.returns-in_default-clause-asked
returns-in_default-clause-asked c =
    subst (λ gs. AreRaised c.args.was c.args.is gs c.args.marks.now c.args.asked.now c.args.asked.now) c.in_default.ensures (no-edge c.args.was c.args.is c.args.marks.now c.args.asked.now)
