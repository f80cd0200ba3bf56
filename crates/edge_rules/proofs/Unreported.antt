-- An event as its entry and its train's route tell it, without what was reported of it.
use Rattle.edge_rules.proofs.Words.{◌≡◌, ℕ, ◌<◌, length, Some, None, arith, option_map, slice_get, slice_get_within, true, Entry, Train, State, event_named, HasLiveEvent, unreported}
use Rattle.edge_rules.proofs.Neighbours.{named-at}

-- the train of an entry's event is there
pub train-there : (st : State) (e : Entry) → HasLiveEvent st e → e.node.train < length st.trains
train-there st e h = grind (arith, named-at st e.node, slice_get_within st.trains e.node.train)

-- what the entry and the route tell
pub told-is : (st : State) (e : Entry) (route : ℕ) → HasLiveEvent st e → option_map (λ (t : Train). t.route) (slice_get st.trains e.node.train) ≡ Some route → option_map unreported (event_named st e.node) ≡ Some (record { key = record { time = e.time; train = e.node.train; label = e.node.label; dep = e.node.dep }; stop = e.stop; route = route; live = true; forecast = None; report = None })
told-is st e route h is = grind (arith, h, named-at st e.node h.event h.named)

-- what the event of an entry needs
pub ruleset told = (told-is, train-there)
