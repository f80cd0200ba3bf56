use Rattle.timetable.proofs.Words.{◌≡◌, ◌&&◌, ◌||◌, Bool, Edge, Key, List, Node, ap, events, filter, is_live, is_same, list_any, subst, ◌∙◌}
use Rattle.edge_rules.specs.AtEvent.{edges_from}
use Rattle.edge_rules.specs.Deciding.{may_change}
use Rattle.rank_order.specs.Marked.{is_marked}
use Rattle.train_nodes.specs.Times.{no_time}
use Rattle.timetable.proofs.Feeds.{any-filter, from-live, name-of-live}
use Rattle.timetable.proofs.Marked.{fit-with, or-turn}
use Rattle.timetable.proofs.marking.mark_one_made.Goals as goal

pub mark_successors-requires-clause-live : goal.mark_successors-requires-clause-live
mark_successors-requires-clause-live c = ap (is_live c.args.graph.now.state) c.node.ensures ∙ name-of-live c.args.graph.now.state c.args.k.now c.requires.live

pub mark_successors-requires-clause-ends : goal.mark_successors-requires-clause-ends
mark_successors-requires-clause-ends c = from-live c.args.graph.now c.node.result

pub mark_successors-requires-clause-marked : goal.mark_successors-requires-clause-marked
mark_successors-requires-clause-marked c = let fit = c.mark.ensures.fit (events c.args.graph.now.state) c.requires.fit c.requires.live in fit.live

pub mark_successors-requires-clause-room : goal.mark_successors-requires-clause-room
mark_successors-requires-clause-room c = let fit = c.mark.ensures.fit (events c.args.graph.now.state) c.requires.fit c.requires.live in fit.room

pub returns-clause-fit : goal.returns-clause-fit
returns-clause-fit c =
    let es = events c.args.graph.now.state in
    let marked = rw c.new-no_time.ensures at c.mark_successors.ensures.marked in
    fit-with es c.mark.new.marks c.mark_successors.new.marks (may_change no_time no_time) (edges_from c.args.graph.now c.node.result) marked c.mark_successors.ensures.room (c.mark.ensures.fit es c.requires.fit c.requires.live) (from-live c.args.graph.now c.node.result)

pub returns-clause-marked : goal.returns-clause-marked
returns-clause-marked c q live =
    let gs : List Edge = edges_from c.args.graph.now c.node.result in
    let may : Edge → Bool = may_change no_time no_time in
    let marked : (p : Key) → is_marked c.mark_successors.new.marks p ≡ (is_marked c.mark.new.marks p || list_any (λ e. is_same e.to p && may e) gs) = rw c.new-no_time.ensures at c.mark_successors.ensures.marked in
    subst (λ (n : Node). is_marked c.mark_successors.new.marks q ≡ (is_marked c.args.marks.now q || (is_same c.args.k.now q || list_any (λ (e : Edge). is_same e.to q) (filter may (edges_from c.args.graph.now n))))) c.node.ensures
    (marked q
    ∙ ap (λ b. is_marked c.mark.new.marks q || b) (any-filter (λ (e : Edge). is_same e.to q) may gs)
    ∙ ap (λ b. b || list_any (λ (e : Edge). is_same e.to q) (filter may gs)) (c.mark.ensures.marked q)
    ∙ or-turn (is_marked c.args.marks.now q) (is_same c.args.k.now q) (list_any (λ (e : Edge). is_same e.to q) (filter may gs)))
