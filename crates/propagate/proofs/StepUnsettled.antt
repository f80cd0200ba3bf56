-- The live events whose stored time is another than theirs are changed, and what is settled after a message is touched by it.
use Rattle.propagate.proofs.StepWords.{◌≡◌, ◌++◌, ◌&&◌, ◌||◌, Bool, true, not, nat_eq, List, refl, ap, arith, inl, inr, cases_Bool, filter, list_any, and_parts, or_cases}
use Rattle.propagate.proofs.StepWords.{any-there, All-contains, Contains, Contains-append_left, Contains-append_right, Contains-filter, Key, node_of, is_same, is_same_node, Edge, Event, State, Network}
use Rattle.propagate.proofs.StepWords.{Message, events, edges, effect, event_time, live_events, named, changed, is_fed_by, is_live_key, live_only, StoredTimes, no_time, stored_time}
use Rattle.propagate.proofs.StepWords.{may_change, has_another, has_changed_feeder, is_unsettled, AreStored, unwrap_or}
use Rattle.delay_model.proofs.Ends.{JoinsLive, edges-join}
use Rattle.propagate.proofs.StepStored.{fed-from, fed-more, filtered, live-at, old-time, only-there}

-- the message names the event, or an edge of the old or of the new state leads to it from a changed one
abbrev pub is_reached : Network → State → Message → Key → Bool
is_reached nw st m k =
    list_any (is_same_node (node_of k)) (named st m) || is_fed_by (edges nw st ++ edges nw (effect st m)) (changed nw st (effect st m)) k

pub or-right : (a b : Bool) → b ≡ true → (a || b) ≡ true
or-right a b h = grind arith

-- what is live only before or only after is changed
gone-changed : (nw : Network) (old new : State) (u : Event) → Contains (live_only (events old) (events new)) u → Contains (changed nw old new) u
unfolding changed
gone-changed nw old new u h = Contains-append_left (live_only (events old) (events new)) _ u h

made-changed : (nw : Network) (old new : State) (u : Event) → Contains (live_only (events new) (events old)) u → Contains (changed nw old new) u
unfolding changed
made-changed nw old new u h =
    Contains-append_right (live_only (events old) (events new)) _ u (Contains-append_left (live_only (events new) (events old)) _ u h)

-- an event that may have another value is reached
pub unsettled-touched : (nw : Network) (st : State) (m : Message) (k : Key) → is_unsettled nw st m k ≡ true → is_reached nw st m k ≡ true
unsettled-touched nw st m k h =
    let new = effect st m in
    let gs = edges nw st in
    let hs = edges nw new in
    let names = list_any (is_same_node (node_of k)) (named st m) in
    let gone = live_only (events st) (events new) in
    let made = live_only (events new) (events st) in
    elim (or_cases names _ h) [
      | inl named_one ↦ rw named_one refl
      | inr fed ↦
          or-right names _ (elim (or_cases (is_fed_by gs gone k) _ fed) [
            | inl by_gone ↦ fed-more gs (gs ++ hs) gone (changed nw st new) k (Contains-append_left gs hs) (gone-changed nw st new) by_gone
            | inr by_made ↦
                fed-more (filter (may_change no_time no_time) hs) (gs ++ hs) made (changed nw st new) k
                (λ e c. Contains-append_right gs hs e (filtered (may_change no_time no_time) hs e c).0) (made-changed nw st new) by_made
          ])
    ]

module _ (nw : Network) (old new : State) (times : StoredTimes) (stored : AreStored nw old new times) where
  -- a live event for which another time is stored is changed
  changed-by : (at : (u : Event) × Contains (events new) u × (u.live ≡ true)) → has_another nw new times at.0.key ≡ true → Contains (changed nw old new) at.0
  unfolding changed
  changed-by at other =
      let es = events old in
      let fs = events new in
      let u = at.0 in
      elim (cases_Bool (is_live_key es u.key)) [
        | inl known ↦
            let own = ap (λ o. unwrap_or o 0) (old-time nw old new times stored u.key (live-at es u.key known)) in
            Contains-append_right (live_only es fs) _ u (Contains-append_right (live_only fs es) _ u
            (Contains-filter (λ v. is_live_key es v.key && not (nat_eq (event_time nw old v.key) (event_time nw new v.key))) (live_events fs) u
            (Contains-filter (λ (v : Event). v.live) fs u at.1 at.2) (rw known (rw own at other))))
        | inr none ↦ made-changed nw old new u (only-there fs es u.key (u, at.1, refl, at.2) none)
      ]

  -- so what is fed anew is fed by a changed event
  pub fed-by-changed : (gs : List Edge) (k : Key) → has_changed_feeder (record { network = nw; state = new }) times k ≡ true → is_fed_by (gs ++ edges nw new) (changed nw old new) k ≡ true
  fed-by-changed gs k h =
      let hs = edges nw new in
      let another : Edge → Bool = λ e. has_another nw new times e.from in
      let moves : Edge → Bool = λ e. may_change (stored_time times e.from) (event_time nw new e.from) e in
      let r = any-there (λ (e : Edge). is_same e.to k && (another e && moves e)) hs h in
      let both = and_parts (is_same r.0.to k) (another r.0 && moves r.0) r.2 in
      let other = (and_parts (another r.0) (moves r.0) both.1).0 in
      let u = (All-contains (JoinsLive (events new)) hs r.0 (edges-join nw new) r.1).from_end in
      fed-from (gs ++ hs) (changed nw old new) k r.0 u.0 (Contains-append_right gs hs r.0 r.1) both.0 (changed-by (u.0, u.1, u.3) (rw u.2 other)) u.2
