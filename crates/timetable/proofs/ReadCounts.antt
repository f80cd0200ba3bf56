-- A message that is taken, and then followed, takes no more reads of stored times than the events that it touches allow.
use Rattle.timetable.proofs.Words.{◌≡◌, ◌+◌, ◌*◌, ◌≤◌, ◌++◌, ℕ, true, not, nat_eq, List, [], ◌∷◌, None, map, filter, length, length-append, length-map, get_or, refl, sym, ap, arith, inl, inr, eq-eqb}
use Rattle.timetable.proofs.Words.{cases_Bool, All-contains_itself, Contains, Key, node_of, is_before, Network, State, Event, Message, IsValid, IsWellFormed, IsLiveAt, events, edges, effect, refusal}
use Rattle.timetable.proofs.Words.{event_time, incoming, changed, is_changed, is_live_key, live_events, live_keys, live_only, names_of, time_changes, time_changes_of, TimeChange, key_order, StoredTimes, GraphState, Marked, is_marked, IsPrepared, IsStateAfter}
use Rattle.std.specs.List.{sum_by}
use Rattle.std.proofs.lemmas.Bool.{or_cases}
use Rattle.std.proofs.lemmas.List.Sums.{sum_by-cons}
use Rattle.delay_model.specs.Touched.{touched}
use Rattle.state_laws.proofs.Left.{untouched-kept}
use Rattle.propagate.specs.Reads.{reads_of}
use Rattle.propagate.specs.Settling.{has_changed_feeder, is_due, reads_at}
use Rattle.propagate.specs.Unsettled.{AreStored, is_unsettled}
use Rattle.propagate.proofs.{Ordered.filtered, Sorted.in_order-moves, StepSums.fewer, StepUnsettled.fed-by-changed, StepUnsettled.is_reached, StepUnsettled.or-right, StepUnsettled.unsettled-touched}
use Rattle.timetable.specs.Reads.{renewed_count}
use Rattle.timetable.proofs.{Changed.changed-length, Changed.either-length, Changed.live-key, Moving.count-weaker, Prepared.names-are}

-- two more for each
sum-two : {X : Type 0} (f : X → ℕ) (xs : List X) → sum_by (λ x. 3 + f x) xs ≡ sum_by (λ x. 1 + f x) xs + 2 * length xs
sum-two f [] = refl
sum-two f (x ∷ xs) = omega (arith, sum_by-cons (λ x. 3 + f x) x xs, sum_by-cons (λ x. 1 + f x) x xs, sum-two f xs)

-- as many events get other times as are live only after the message or have another time
pub renewed-length : {nw : Network} {st : State} (m : Message) {times : StoredTimes} → IsPrepared nw st (effect st m) times → length (time_changes_of nw (effect st m) times) ≡ renewed_count nw st m
unfolding changed
renewed-length {nw} {st} m {times} p =
    let es = events st in
    let fs = events (effect st m) in
    let gone = live_only es fs in
    let come = live_only fs es in
    let moved = time_changes (event_time nw st) (event_time nw (effect st m)) es fs in
    let rs = time_changes_of nw (effect st m) times in
    omega (arith, ap length (names-are p), length-append (names_of gone) (map (λ (r : TimeChange). node_of r.key) rs), length-map gone (λ (v : Event). node_of v.key), length-map rs (λ (r : TimeChange). node_of r.key), changed-length nw st (effect st m), length-append gone (come ++ moved), length-append come moved)

module _ (nw : Network) (st : State) (m : Message) (step : IsStateAfter nw st (effect st m) m) where
  abbrev new : State
  new = effect st m

  abbrev g : GraphState
  g = record { network = nw; state = new }

  -- what is live only after the message, or has another time, is touched
  changed-reached : (w : Event) → Contains (live_events (events new)) w → is_changed nw st new w.key ≡ true → is_reached nw st m w.key ≡ true
  unfolding touched
  changed-reached w here differs =
      elim (cases_Bool (is_reached nw st m w.key)) [
        | inl reached ↦ reached
        | inr free ↦
            let own = filtered (λ (v : Event). v.live) (events new) w here in
            let kept = untouched-kept nw st m step.valid step.well_formed step.accepted w own.0 own.1 (λ touches. let no = (filtered (λ (v : Event). is_reached nw st m v.key) (live_events (events new)) w touches).1 in absurd (cc)) in
            let known = live-key (events st) w.key (w, kept.0, refl, own.1) in
            let same = eq-eqb (event_time nw st w.key) (event_time nw new w.key) (sym kept.1) in
            let none = rw (known, same) at differs in
            absurd (cc)
      ]

  renewed-fit : renewed_count nw st m ≤ length (touched nw st m)
  unfolding touched
  renewed-fit =
      let parts = either-length (λ (v : Event). is_live_key (events st) v.key) (λ (v : Event). not (nat_eq (event_time nw st v.key) (event_time nw new v.key))) (live_events (events new)) in
      omega (
        arith,
        parts,
        count-weaker (λ (v : Event). is_changed nw st new v.key) (λ (v : Event). is_reached nw st m v.key) (live_events (events new)) (λ i d l.
            changed-reached _ (All-contains_itself (live_events (events new)) i d l)),
      )

  module _ {times : StoredTimes} (stored : AreStored nw st new times) (marks : Marked) (only : (k : Key) → IsLiveAt (events new) k → is_marked marks k ≡ true → is_unsettled nw st m k ≡ true) where
    due-reached : (k : Key) → IsLiveAt (events new) k → is_due g marks times k ≡ true → is_reached nw st m k ≡ true
    due-reached k at due =
        elim (or_cases (is_marked marks k) (has_changed_feeder g times k) due) [
          | inl marked ↦ unsettled-touched nw st m k (only k at marked)
          | inr fed ↦ or-right _ _ (fed-by-changed nw st new times stored (edges nw st) k fed)
        ]

    -- what is settled takes one and the edges that lead to it
    settled-fit : sum_by (reads_at g) (filter (is_due g marks times) (key_order (events new))) ≤ sum_by (λ (v : Event). 1 + length (incoming (edges nw new) v.key)) (touched nw st m)
    unfolding touched
    settled-fit =
        fewer (events new) (key_order (events new)) (in_order-moves is_before (live_keys (events new))) (reads_at g) (λ (v : Event). 1 + length (incoming (edges nw new) v.key)) (is_due g marks times) (λ v. is_reached nw st m v.key)
        (λ i d l.
        let v = get_or (live_events (events new)) i d in
        let here = filtered (λ (v : Event). v.live) (events new) v (All-contains_itself (live_events (events new)) i d l) in
        due-reached v.key (v, here.0, refl, here.1)) (λ v. omega arith)

    -- and two are left for each event that gets another time
    pub both-fit : sum_by (reads_at g) (filter (is_due g marks times) (key_order (events new))) + 2 * renewed_count nw st m ≤ reads_of nw st m
    both-fit = omega (arith, settled-fit, renewed-fit, sum-two (λ (v : Event). length (incoming (edges nw new) v.key)) (touched nw st m))
