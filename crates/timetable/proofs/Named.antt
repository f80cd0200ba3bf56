-- Live events by their names, and their times.
use Rattle.timetable.proofs.Words.{◌≡◌, true, false, ◌&&◌, Some, None, refl, sym, ap, option_map, All, Contains, and_parts, All-contains, Node, node_of, same_node-is}
use Rattle.timetable.proofs.Words.{Network, State, Event, events, train_events, is_event, is_live, event_time, train_events-there, live_event, live_time, StoredTimes, time_of, HasItsTime, live_keys, ℕ, ◌∙◌}
use Rattle.propagate.proofs.{Named.find-any, Named.find-none, Ordered.live-keyed}

-- a live event by its name
pub record IsLiveNamed (st : State) (n : Node) : Type 0 where
  pub event : Event
  pub found : live_event st n ≡ Some event
  pub there : Contains (events st) event
  pub live : event.live ≡ true
  pub name : node_of event.key ≡ n

-- there is no time of what is not live
pub live_time-none : (nw : Network) (st : State) (n : Node) → is_live st n ≡ false → live_time nw st n ≡ None
live_time-none nw st n h = rw (find-none (λ v. is_event n v && v.live) (train_events st n.train) h) refl

pub live-event : (st : State) (n : Node) → is_live st n ≡ true → IsLiveNamed st n
live-event st n h =
    let r = find-any (λ v. is_event n v && v.live) (train_events st n.train) h in
    let both = and_parts (is_event n r.one) r.one.live r.passes in
    record {
      event = r.one;
      found = r.found;
      there = All-contains (Contains (events st)) (train_events st n.train) r.one (train_events-there st n.train) r.there;
      live = both.1;
      name = same_node-is _ _ both.0;
    }

-- the stored time of a live event is its time
pub time-stored : (nw : Network) (st : State) (times : StoredTimes) (n : Node) → All (HasItsTime nw st times) (live_keys (events st)) → is_live st n ≡ true → (t : ℕ) × (time_of times n ≡ Some t) × (live_time nw st n ≡ Some t)
time-stored nw st times n stored live =
    let r = live-event st n live in
    let k = r.event.key in
    let there = live-keyed (events st) k (r.event, r.there, refl, r.live) in (
      event_time nw st k,
      ap (time_of times) (sym r.name) ∙ All-contains (HasItsTime nw st times) (live_keys (events st)) k stored there,
      ap (option_map (λ (v : Event). event_time nw st v.key)) r.found,
    )
