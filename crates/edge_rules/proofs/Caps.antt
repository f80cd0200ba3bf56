-- The cap of an event is the next report along its train.
use Rattle.edge_rules.proofs.Words.{◌≡◌, List, [], ◌∷◌, Some, arith, same-itself, All-contains, Contains, Node, same-is, Train, State, Event, after, events, events_of, event_named, is_event, find, train_events, report_after}
use Rattle.delay_model.specs.Timing.{after_key, cap}
use Rattle.state_laws.proofs.Changed.{train_events-there}
use Rattle.state_laws.proofs.Choices.{found-there}
use Rattle.state_laws.proofs.Placed.{placed, report-within}
use Rattle.edge_rules.proofs.Neighbours.{named-at, named-is}

-- an event that is found by its name is among all
pub there : (st : State) (n : Node) (v : Event) → event_named st n ≡ Some v → Contains (events st) v
there st n v named =
    All-contains (Contains (events st)) (train_events st n.train) v (train_events-there st n.train) (found-there (is_event n) (train_events st n.train) v named).0

-- what stands after it by its name stands after it by its key
after-same : (n : Node) (es : List Event) (v : Event) → find (is_event n) es ≡ Some v → after_key v.key es ≡ after (is_event n) es
after-same n [] v h = absurd (cc)
after-same n (e ∷ es) v h = grind (arith, h, same-is e.key v.key, same-itself v.key, after-same n es v, found-there (is_event n) es v)

pub cap-is : (st : State) (n : Node) (v : Event) → event_named st n ≡ Some v → cap (events st) v ≡ report_after st n
unfolding events
cap-is st n v named =
    let at = named-at st n v named in
    let p = placed (λ (t : Train). t) 0 n.train n.train st.trains at.train (omega arith) at.there in
    grind (arith, at.there, p.old, named-is st n v named, report-within n.train p.before (events_of n.train at.train) p.after v, found-there (is_event n) (train_events st n.train) v, p.others_before, p.others_after, after-same n (train_events st n.train) v)
