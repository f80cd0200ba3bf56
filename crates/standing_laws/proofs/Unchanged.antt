-- Where a message changes no event of a train, those that are live stay live, and at their times.
use Rattle.state_laws.proofs.Words.{◌≡◌, ℕ, true, ◌&&◌, not, nat_eq, Some, refl, sym, ◌∙◌, ap, subst, arith, inl, inr, cases_Bool, and_parts, and_from, eqb-true}
use Rattle.state_laws.proofs.Words.{All, All-contains, All-contains_itself, All-weaker, Contains, Contains-append_left, Contains-append_right, Contains-filter, slice_get, Key, Network, State}
use Rattle.state_laws.proofs.Words.{Train, Call, Event}
use Rattle.state_laws.proofs.Words.{changed, event_time, events, events_of, is_live_key, is_same, live_events, live_only, time_changes, IsLiveAt, same-is, arrival_of, departure_of, events_at-train}
use Rattle.state_laws.proofs.Parts.{events-from_each}
use Rattle.state_laws.proofs.Changed.{train_events-there}
use Rattle.state_laws.proofs.Stretches.{each-events_at}
use Rattle.state_laws.proofs.Values.{any-there}
use Rattle.standing_laws.proofs.Bare.{AgreeAt}

-- no event of a train is changed from one state to the other
abbrev pub IsUnchanged : Network → State → State → ℕ → Type 0
IsUnchanged nw old new train = (v : Event) → Contains (changed nw old new) v → v.key.train ≡ train → ⊥

-- the train of an event
pub record IsOfTrain (st : State) (v : Event) : Type 0 where
  pub train : Train
  pub got : slice_get st.trains v.key.train ≡ Some train
  pub there : Contains (events_of v.key.train train) v

pub of-train : (st : State) (v : Event) → Contains (events st) v → IsOfTrain st v
unfolding events
of-train st v h =
    All-contains (IsOfTrain st) (events st) v (events-from_each (IsOfTrain st) 0 st.trains (λ k at t e got.
    let same : at ≡ k = omega arith in
    All-weaker (Contains (events_of at t)) (IsOfTrain st) (λ w c.
    let own : w.key.train ≡ at = All-contains (λ w. w.key.train ≡ at) (events_of at t) w (events_at-train at t.route t.calls) c in
    record { train = t; got = rw (own, same) got; there = subst (λ (i : ℕ). Contains (events_of i t) w) (sym own) c }) (events_of at t) (All-contains_itself (events_of at t)))) h

-- the events of a train's calls
abbrev pub AreEvents : State → ℕ → Train → Call → Type 0
AreEvents st n t c = Contains (events st) (arrival_of n t.route c) × Contains (events st) (departure_of n t.route c)

pub call-events : (st : State) (n : ℕ) (t : Train) → slice_get st.trains n ≡ Some t → All (AreEvents st n t) t.calls
call-events st n t got = each-events_at (Contains (events st)) n t.route t.calls (rw got at (train_events-there st n))

live-at : (st : State) (k : Key) → is_live_key (events st) k ≡ true → IsLiveAt (events st) k
live-at st k h =
    let x = any-there (λ (v : Event). v.live && is_same v.key k) (events st) h in
    let both = and_parts x.0.live (is_same x.0.key k) x.2 in
    (x.0, x.1, same-is x.0.key k both.1, both.0)

module _ (nw : Network) (old new : State) (n : ℕ) (free : IsUnchanged nw old new n) where
  lives : (v : Event) → Contains (events old) v → v.live ≡ true → v.key.train ≡ n → is_live_key (events new) v.key ≡ true
  unfolding changed
  lives v h live own =
      let es = events old in
      let fs = events new in
      elim (cases_Bool (is_live_key fs v.key)) [
        | inl is ↦ is
        | inr gone ↦ absurd (free v (Contains-append_left (live_only es fs) _ v
            (Contains-filter (λ v. not (is_live_key fs v.key)) (live_events es) v (Contains-filter (λ (v : Event). v.live) es v h live) (rw gone refl))) own)
      ]

  lived : (v : Event) → Contains (events new) v → v.live ≡ true → v.key.train ≡ n → is_live_key (events old) v.key ≡ true
  unfolding changed
  lived v h live own =
      let es = events old in
      let fs = events new in
      elim (cases_Bool (is_live_key es v.key)) [
        | inl is ↦ is
        | inr come ↦ absurd (free v (Contains-append_right (live_only es fs) _ v
            (Contains-append_left (live_only fs es) _ v (Contains-filter (λ v. not (is_live_key es v.key)) (live_events fs) v (Contains-filter (λ (v : Event). v.live) fs v h live)
            (rw come refl)))) own)
      ]

  -- a live event of the train is live after the message
  pub stays : (v : Event) → Contains (events old) v → v.live ≡ true → v.key.train ≡ n → IsLiveAt (events new) v.key
  stays v h live own = live-at new v.key (lives v h live own)

  -- and was live before it
  pub was : (v : Event) → Contains (events new) v → v.live ≡ true → v.key.train ≡ n → IsLiveAt (events old) v.key
  was v h live own = live-at old v.key (lived v h live own)

  time-stays : (v : Event) → Contains (events new) v → v.live ≡ true → v.key.train ≡ n → event_time nw old v.key ≡ event_time nw new v.key
  unfolding changed
  time-stays v h live own =
      let es = events old in
      let fs = events new in
      let t = event_time nw old in
      let u = event_time nw new in
      elim (cases_Bool (nat_eq (t v.key) (u v.key))) [
        | inl same ↦ eqb-true (t v.key) (u v.key) same
        | inr differ ↦ absurd (free v (Contains-append_right (live_only es fs) _ v
            (Contains-append_right (live_only fs es) (time_changes t u es fs) v
            (Contains-filter (λ v. is_live_key es v.key && not (nat_eq (t v.key) (u v.key))) (live_events fs) v (Contains-filter (λ (v : Event). v.live) fs v h live)
            (and_from _ _ (lived v h live own) (rw differ refl))))) own)
      ]

  -- at its time
  same-time : (v : Event) → Contains (events old) v → v.live ≡ true → v.key.train ≡ n → event_time nw old v.key ≡ event_time nw new v.key
  same-time v h live own =
      let w = stays v h live own in
      rw w.2 at (time-stays w.0 w.1 w.3 (ap (λ (k : Key). k.train) w.2 ∙ own))

  -- so the times of the events of its calls agree
  pub times-agree : (t : Train) → slice_get old.trains n ≡ Some t → All (AgreeAt (event_time nw old) (event_time nw new) n) t.calls
  times-agree t got =
      All-weaker (AreEvents old n t) (AgreeAt (event_time nw old) (event_time nw new) n)
      (λ c there. ((λ live. same-time (arrival_of n t.route c) there.0 live refl), (λ live. same-time (departure_of n t.route c) there.1 live refl))) t.calls (call-events old n t got)
