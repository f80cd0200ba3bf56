-- The live events that get another time than is stored for them are those that a message changes.
use Rattle.propagate.proofs.StepWords.{◌≡◌, ◌||◌, ◌^◌, ◌-◌, ◌<◌, Bool, false, not, nat_eq, List, [], ◌∷◌, map, filter, refl, ◌∙◌, ap, suc, arith, inl, inr, get_or, cases_Bool, false_from_ne_true}
use Rattle.propagate.proofs.StepWords.{eqb-true, All, All-contains_itself, Key, node_of, is_before, State, Network, events, event_time, is_live_key, IsLiveAt, IsValid, live_keys}
use Rattle.propagate.proofs.StepWords.{key_order, has_another, time_change_at, StoredTimes, no_time, AreStored}
use Rattle.propagate.specs.declared.time_changes.TimeChange.{TimeChange}
use Rattle.std.proofs.lemmas.List.Sorted.{Contains-permutation, IsPermutation-sym}
use Rattle.std.proofs.lemmas.Simd.{map-map}
use Rattle.delay_model.proofs.Bounds.{event_time-small}
use Rattle.propagate.proofs.StepStored.{keyed-live, live-at, new-time, old-time}
use Rattle.propagate.proofs.Sorted.{in_order-moves}

filter-same : {X : Type 0} (p q : X → Bool) (xs : List X) → All (λ x. p x ≡ q x) xs → filter p xs ≡ filter q xs
filter-same p q [] h = refl
filter-same p q (x ∷ xs) h = rw (h 0 x (omega arith), filter-same p q xs (λ i d l. h (suc i) d (omega arith))) refl

module _ (nw : Network) (old new : State) (valid : IsValid nw new) (times : StoredTimes) (stored : AreStored nw old new times) where
  -- another time is stored for a live event exactly where it was not live, or has another time
  pub another-is : (k : Key) → IsLiveAt (events new) k → has_another nw new times k ≡ not (is_live_key (events old) k) || not (nat_eq (event_time nw old k) (event_time nw new k))
  another-is k at =
      elim (cases_Bool (is_live_key (events old) k)) [
        | inl known ↦ rw (old-time nw old new times stored k (live-at (events old) k known), known) refl
        | inr none ↦
            let less : event_time nw new k < 2 ^ 25 - 1 = rw at.2 at (event_time-small nw new valid at.0 at.1) in
            let differ : nat_eq no_time (event_time nw new k) ≡ false = false_from_ne_true _ (λ e. let same = eqb-true no_time (event_time nw new k) e in absurd (omega arith)) in
            rw (new-time nw old new times stored k at none, none, differ) refl
      ]

  pub listed-changed : map (λ (r : TimeChange). node_of r.key) (map (time_change_at nw new times) (filter (has_another nw new times) (key_order (events new)))) ≡ map node_of (filter (λ k. not (is_live_key (events old) k) || not (nat_eq (event_time nw old k) (event_time nw new k))) (key_order (events new)))
  listed-changed =
      let keys = live_keys (events new) in
      let order = key_order (events new) in
      map-map (λ (r : TimeChange). node_of r.key) (time_change_at nw new times) (filter (has_another nw new times) order)
      ∙ ap (map node_of) (filter-same (has_another nw new times) _ order (λ i d l.
      another-is (get_or order i d) (keyed-live (events new) _ (Contains-permutation order keys _ (IsPermutation-sym keys order (in_order-moves is_before keys)) (All-contains_itself order i d l)))))
