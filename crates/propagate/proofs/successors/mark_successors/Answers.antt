use Rattle.propagate.proofs.Words.{All, ◌≡◌, ◌&&◌, ◌||◌, is_marked, is_same, list_any, may_change, Contains, Edge, events, live_keys, edges_from, subst, sym}
use Rattle.mt_base.specs.declared.keys.Node.{Node}
use Rattle.propagate.proofs.successors.mark_successors.Goals as goal

pub mark_dependents-requires : goal.mark_dependents-requires
mark_dependents-requires c =
    let live = live_keys (events c.args.graph.now.state) in
    record {
      there = c.live_event-at.ensures.there;
      ends = subst (λ (n : Node). All (λ (e : Edge). Contains live e.to) (edges_from c.args.graph.now n)) (sym c.live_event-at.ensures.named) c.requires.ends;
      marked = c.requires.marked;
      room = c.requires.room;
    }

pub returns-clause-marked : goal.returns-clause-marked
returns-clause-marked c = λ q.
    let may = may_change c.args.was c.args.is in
    subst (λ (n : Node). is_marked c.mark_dependents.new.marks q ≡ (is_marked c.args.marks.now q || list_any (λ (e : Edge). is_same e.to q && may e) (edges_from c.args.graph.now n))) c.live_event-at.ensures.named
    (c.mark_dependents.ensures.marked q)
