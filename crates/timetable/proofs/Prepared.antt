-- Accepted messages applied: what is stored then.
use Rattle.timetable.proofs.Words.{◌≡◌, ℕ, zero, suc, ◌+◌, List, [], ◌∷◌, slice_get, option_map_or, Train, events_of, events_from, train_events, ◌*◌, ◌≤◌, true, not, ◌++◌, map, length, get_or, is_some, sym, ◌∙◌, ap, arith, inl, inr, Contains, length-map, All, All-contains_itself, node_of, Network, Contains-map, Contains-filter}
use Rattle.timetable.proofs.Words.{contains-unmap, State, Event, events, is_live, live_events, is_live_key, live_only, names_of, IsValid, events-unique, IsLiveAt, StoredTimes}
use Rattle.timetable.proofs.Words.{changed_nodes, live_keys, IsSettled, HasItsTime, IsPrepared, TimeChange, time_changes_of}
use Rattle.timetable.specs.Shapes.{AreCallsKept}
use Rattle.propagate.proofs.{Ordered.filtered, StepListed.listed-changed}
use Rattle.timetable.proofs.{Changed.live-key, Changed.IsAlike, Changed.none-only, Named.live-event, Shapes.IsReshaped, Shapes.live-count}

-- no more events of a train are live than of all
fewer-from : (n first k : ℕ) (ts : List Train) → n ≡ first + k → length (live_events (option_map_or (events_of n) (slice_get ts k) [])) ≤ length (live_events (events_from first ts))
fewer-from n first k [] e = omega arith
fewer-from n first zero (t ∷ ts) e = let same : n ≡ first = omega arith in rw (same, live-count (events_of first t) (events_from (first + 1) ts)) (omega arith)
fewer-from n first (suc k) (t ∷ ts) e = omega (arith, live-count (events_of first t) (events_from (first + 1) ts), fewer-from n (first + 1) k ts (omega arith))

pub fewer-own : (st : State) (n : ℕ) → length (live_keys (train_events st n)) ≤ length (live_events (events st))
unfolding events
fewer-own st n = omega (arith, length-map (live_events (train_events st n)) (λ (v : Event). v.key), fewer-from n 0 n st.trains (omega arith))

module _ (nw : Network) (st new : State) (n : ℕ) (times after : StoredTimes) (valid : IsValid nw st) (now : IsValid nw new) (shape : IsReshaped st new n times after) where
  abbrev es : List Event
  es = events st

  abbrev fs : List Event
  fs = events new

  -- what is stored after the message
  pub prepared-shape : All (HasItsTime nw st times) (live_keys (events st)) → AreCallsKept st new → length (live_only fs es) + 2 * new.spare_calls ≤ 2 * st.spare_calls → IsPrepared nw st new after
  prepared-shape was kept few = record {
    valid = now;
    has_times = shape.has_times;
    stored = record {
      known = λ i d l. shape.kept (node_of (get_or (live_keys es) i d)) (ap is_some (was i d l)) ∙ was i d l;
      made = λ i d l.
          let w = get_or (live_only fs es) i d in
          let h = filtered (λ (v : Event). not (is_live_key es v.key)) (live_events fs) w (All-contains_itself (live_only fs es) i d l) in
          let both = filtered (λ (v : Event). v.live) fs w h.0 in
          elim (shape.known w both.0 both.1) [ inl old ↦ absurd (let is = live-key es w.key old in let no = h.1 in cc) | inr made ↦ made.blank ];
    };
    names = λ v w hv hw live same. elim (shape.known w hw live) [
      | inl old ↦ sym old.2 ∙ ap (λ (u : Event). u.key) (events-unique st valid.trains old.0 v old.1 hv (ap node_of old.2 ∙ same))
      | inr made ↦ absurd (made.unknown v hv (sym same))
    ];
    calls = kept;
    made = few;
    fewer = omega (arith, shape.fewer, length-map (live_events fs) (λ (v : Event). v.key), length-map (live_events es) (λ (v : Event). v.key));
  }

-- a message that leaves the calls, and which events take place
pub prepared-same : (nw : Network) (st new : State) (times : StoredTimes) → IsAlike st new → IsValid nw new → AreCallsKept st new → IsSettled nw st times → IsPrepared nw st new times
prepared-same nw st new times same now kept was = record {
  valid = now;
  has_times = record { sized = rw same.labels was.has_times.sized; spare_trains = was.has_times.spare_trains ∙ sym same.spare_trains; spare_calls = was.has_times.spare_calls ∙ sym same.spare_calls };
  stored = record { known = was.times; made = rw (none-only (events new) (events st) same.keys) (λ i d l. absurd (omega arith)) };
  names = λ v w hv hw live e.
      let key = Contains-map (λ (v : Event). v.key) (live_events (events new)) w (Contains-filter (λ (v : Event). v.live) (events new) w hw live) in
      let r = contains-unmap (λ (v : Event). v.key) (live_events (events st)) w.key (rw same.keys at key) in
      let u = filtered (λ (v : Event). v.live) (events st) r.0 r.1 in
      sym r.2 ∙ ap (λ (u : Event). u.key) (events-unique st was.valid.trains r.0 v u.0 hv (ap node_of r.2 ∙ e));
  calls = kept;
  made = rw (none-only (events new) (events st) same.keys, same.spare_calls) (omega arith);
  fewer = rw (same.keys, same.spare_calls) (omega arith);
}

-- what is live in the old state and no longer in the new one is not live by its name, and the others are
module _ {nw : Network} {old new : State} {times : StoredTimes} (p : IsPrepared nw old new times) where
  pub stays-live : (v : Event) → Contains (events old) v → is_live new (node_of v.key) ≡ true → IsLiveAt (events new) v.key
  stays-live v hv h =
      let r = live-event new (node_of v.key) h in
      (r.event, r.there, p.names v r.event hv r.there r.live r.name, r.live)

  -- the names of those that are live no longer, and of those that get other times, are all that the message changes
  pub names-are : names_of (live_only (events old) (events new)) ++ map (λ (r : TimeChange). node_of r.key) (time_changes_of nw new times) ≡ changed_nodes nw old new
  unfolding changed_nodes
  names-are = ap (λ ns. names_of (live_only (events old) (events new)) ++ ns) (listed-changed nw old new p.valid times p.stored)
