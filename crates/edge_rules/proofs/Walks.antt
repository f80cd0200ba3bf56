-- Walks along a train between two of its events.
use Rattle.train_nodes.proofs.FromCalls.{since-call}
use Rattle.edge_rules.proofs.Words.{ap, ◌∙◌, up_to, stretch, common_steps, from, ◌≡◌, ℕ, Bool, true, false, List, [], ◌∷◌, refl, arith, node_at, is_call, is_event, events_between, events_at, train_events, before, after, Call, Event, State, is_same_node}

-- what is still to come of the events from the first that passes on: all, once one has passed
abbrev pub from_once : Bool → (Event → Bool) → List Event → List Event
from_once true p es = es
from_once false p es = from p es

-- what is still to come of the events after the first that passes
abbrev pub after_once : Bool → (Event → Bool) → List Event → List Event
after_once true p es = es
after_once false p es = after p es

-- what stands after the departure of a call, or before the arrival of one
cut-calls : (n route l : ℕ) (cs : List Call) → (after (is_event (node_at n l true)) (events_at n route cs) ≡ events_at n route (after (is_call l) cs)) × (before (is_event (node_at n l false)) (events_at n route cs) ≡ events_at n route (before (is_call l) cs))
unfolding is_same_node
cut-calls n route l [] = (refl, refl)
cut-calls n route l (c ∷ cs) = grind (arith, common_steps, cut-calls n route l cs)

-- the events of the calls strictly between two calls stand between the departure of the one and the arrival of the other
pub between-events : (st : State) (n from to : ℕ) → before (is_event (node_at n to false)) (after (is_event (node_at n from true)) (train_events st n)) ≡ events_between st n from to
between-events st n from to = grind (arith, cut-calls n)

-- the same from the arrival at the call on with which such a part begins
pub stretch-from : (st : State) (n from_call to : ℕ) → up_to (is_event (node_at n to false)) (from (is_event (node_at n from_call true)) (from (is_event (node_at n from_call false)) (train_events st n))) ≡ stretch st n from_call to
stretch-from st n from_call to = ap (up_to (is_event (node_at n to false))) (since-call st (node_at n from_call true)).0

pub between-from : (st : State) (n from_call to : ℕ) → before (is_event (node_at n to false)) (after (is_event (node_at n from_call true)) (from (is_event (node_at n from_call false)) (train_events st n))) ≡ events_between st n from_call to
between-from st n from_call to = ap (before (is_event (node_at n to false))) (since-call st (node_at n from_call true)).1 ∙ between-events st n from_call to
