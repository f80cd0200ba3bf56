-- To settle what is marked takes no more reads than the events that a message touches allow.
use Rattle.propagate.proofs.StepWords.{◌≡◌, ◌+◌, ◌≤◌, true, List, length, filter, refl, arith, inl, inr, get_or, or_cases, sum_by, IsPermutation, All-contains_itself}
use Rattle.propagate.proofs.StepWords.{Key, Event, State, Network, Message, events, edges, effect, incoming, live_events, touched, live_keys, key_order, is_before, IsLiveAt}
use Rattle.propagate.proofs.StepWords.{StoredTimes, GraphState, Marked, is_marked, is_due, has_changed_feeder, is_unsettled, reads_at, reads_of, AreStored}
use Rattle.propagate.proofs.StepStored.{filtered}
use Rattle.propagate.proofs.StepSums.{fewer}
use Rattle.propagate.proofs.Sorted.{in_order-moves}
use Rattle.propagate.proofs.StepUnsettled.{fed-by-changed, is_reached, or-right, unsettled-touched}

module _ (nw : Network) (st : State) (m : Message) (times : StoredTimes) (stored : AreStored nw st (effect st m) times) (marks : Marked) (only : (k : Key) → IsLiveAt (events (effect st m)) k → is_marked marks k ≡ true → is_unsettled nw st m k ≡ true) where
  abbrev new : State
  new = effect st m

  abbrev g : GraphState
  g = record { network = nw; state = new }

  due-reached : (k : Key) → IsLiveAt (events new) k → is_due g marks times k ≡ true → is_reached nw st m k ≡ true
  due-reached k at due =
      elim (or_cases (is_marked marks k) (has_changed_feeder g times k) due) [
        | inl marked ↦ unsettled-touched nw st m k (only k at marked)
        | inr fed ↦ or-right _ _ (fed-by-changed nw st new times stored (edges nw st) k fed)
      ]

  -- over the live keys in any order
  pub keys-cost : (keys : List Key) → IsPermutation (live_keys (events new)) keys → sum_by (reads_at g) (filter (is_due g marks times) keys) ≤ reads_of nw st m
  unfolding touched
  keys-cost keys moved =
      fewer (events new) keys moved (reads_at g) (λ (v : Event). 3 + length (incoming (edges nw new) v.key)) (is_due g marks times) (λ v. is_reached nw st m v.key)
      (λ i d l.
      let v = get_or (live_events (events new)) i d in
      let here = filtered (λ (v : Event). v.live) (events new) v (All-contains_itself (live_events (events new)) i d l) in
      due-reached v.key (v, here.0, refl, here.1)) (λ v. omega arith)

  pub step-cost : sum_by (reads_at g) (filter (is_due g marks times) (key_order (events new))) ≤ reads_of nw st m
  step-cost = keys-cost (key_order (events new)) (in_order-moves is_before (live_keys (events new)))
