-- What is stored for an event that a message leaves settled is what the rule gives it after the message.
use Rattle.propagate.proofs.StepWords.{◌≡◌, ℕ, ◌+◌, ◌≤◌, true, false, List, Option, Some, None, refl, sym, ◌∙◌, ap, arith, inl, inr, filter, fold, get_or, list_any}
use Rattle.propagate.proofs.StepWords.{option_map, unwrap_or, cases_Bool, or_parts, All, All-contains, Contains, Contains-filter, Key, node_of, is_same_node, same-is}
use Rattle.propagate.proofs.StepWords.{same_node-itself, Edge, Event, State, Network, Message, edges, events, effect, refusal, incoming, local, time, event_time, later}
use Rattle.propagate.proofs.StepWords.{floor_of, event_named, named, live_only, is_live_key, is_fed_by, IsLiveAt, IsValid, IsWellFormed, valid-graph, incoming-leads}
use Rattle.propagate.proofs.StepWords.{subst, false_from_ne_true, All-contains_itself, live_keys, Marked, is_marked, incoming-there, time-local, stays-valid, StoredTimes, no_time, stored_time, may_change, FollowsRule, is_fed_by_new, is_unsettled, AreStored}
use Rattle.delay_model.proofs.Bounds.{AsksUpTo, fold-asks, fold-le, fold-up}
use Rattle.delay_model.proofs.Ends.{JoinsLive, edges-join}
use Rattle.delay_model.proofs.Solve.{local-agree}
use Rattle.state_laws.proofs.Left.{message-left}
use Rattle.state_laws.proofs.Untouched.{IsLeft, incoming-are, incoming-ends, none-passes}
use Rattle.edge_rules.proofs.Neighbours.{each-named}
use Rattle.propagate.proofs.Idle.{decides, floors, idle}
use Rattle.propagate.proofs.StepStored.{keyed-live, live-at, new-time, old-time, origin-lives}

-- the latest of a time and of what edges ask for is no later than with other edges, where each that may decide is one of these, and
-- the time is not before the schedule of what the others lead to
fold-fewer : (t : Key → ℕ) (a : ℕ) (gs hs : List Edge) → All (λ e. decides t e ≡ true → Contains hs e) gs → All (λ e. decides t e ≡ false → e.to.time ≤ a) gs → fold (later t) a gs ≤ fold (later t) a hs
fold-fewer t a gs hs there until =
    let most = fold (later t) a hs in
    let up = fold-up t hs a in
    fold-le t most gs a up (λ i d l c.
    let e = get_or gs i d in
    elim (cases_Bool (decides t e)) [
      | inl may ↦ All-contains (AsksUpTo t most) hs e (fold-asks t hs a) (there i d l may) c
      | inr fails ↦ (let asks = idle e.kind e.to.time (t e.from + e.weight) fails c in let scheduled = until i d l fails in omega arith)
    ])

module _ (nw : Network) (st : State) (m : Message) (valid : IsValid nw st) (well : IsWellFormed m) (accepted : refusal nw st m ≡ None) (times : StoredTimes) (stored : AreStored nw st (effect st m) times) where
  abbrev new : State
  new = effect st m

  abbrev t : Key → ℕ
  t = stored_time times

  module _ (w : Event) (hw : Contains (events new) w) (live : w.live ≡ true) (settled : is_unsettled nw st m w.key ≡ false) where
    abbrev gone : List Event
    gone = live_only (events st) (events new)

    abbrev made : List Event
    made = live_only (events new) (events st)

    left : IsLeft nw st new w
    left =
        let parts = or_parts (list_any (is_same_node (node_of w.key)) (named st m)) _ settled in
        message-left nw st m valid well accepted w hw live (λ i d l e.
        let own = same_node-itself (node_of w.key) in let other = rw e at (none-passes (is_same_node (node_of w.key)) (named st m) parts.0 i d l) in absurd (cc))

    -- nothing that goes feeds it, and nothing that comes feeds it first
    unfed : (is_fed_by (edges nw st) gone w.key ≡ false) × (is_fed_by_new (edges nw new) made w.key ≡ false)
    unfed = or_parts (is_fed_by (edges nw st) gone w.key) _ (or_parts (list_any (is_same_node (node_of w.key)) (named st m)) _ settled).1

    -- each edge to it stays
    stays : All (λ e. decides t e ≡ true → Contains (incoming (edges nw new) w.key) e) (incoming (edges nw st) w.key)
    stays = λ i d l _.
        let e = get_or (incoming (edges nw st) w.key) i d in
        let c = incoming-are (edges nw st) w.key i d l in
        let to = incoming-ends (edges nw st) w.key i d l in
        let at = origin-lives (edges nw st) (events st) (events new) w.key unfed.0 e c to (All-contains (JoinsLive (events st)) (edges nw st) e (edges-join nw st) c).from_end in
        incoming-there (edges nw new) w.key e (left.stays e c (same-is e.to w.key to) at) to

    -- and each that may decide was there
    comes : All (λ e. decides t e ≡ true → Contains (incoming (edges nw st) w.key) e) (incoming (edges nw new) w.key)
    comes = λ i d l may.
        let e = get_or (incoming (edges nw new) w.key) i d in
        let c = incoming-are (edges nw new) w.key i d l in
        let to = incoming-ends (edges nw new) w.key i d l in
        let here = (All-contains (JoinsLive (events new)) (edges nw new) e (edges-join nw new) c).from_end in
        let at : IsLiveAt (events st) e.from =
        elim (cases_Bool (is_live_key (events st) e.from)) [
          | inl known ↦ live-at (events st) e.from known
          | inr none ↦
              let first = ap (λ o. unwrap_or o 0) (new-time nw st new times stored e.from here none) in
              let passes : may_change no_time no_time e ≡ true = rw (rw first at may) refl in
              let first_edges = filter (may_change no_time no_time) (edges nw new) in
              origin-lives first_edges (events new) (events st) w.key unfed.1 e (Contains-filter (may_change no_time no_time) (edges nw new) e c passes) to here
        ]
        in
        incoming-there (edges nw st) w.key e (left.comes e c (same-is e.to w.key to) at) to

    same-value : (r : Option ℕ) → w.report ≡ r → local (events new) (edges nw new) t w ≡ local (events st) (edges nw st) t w
    unfolding local
    same-value (Some r) is = rw is refl
    same-value None is =
        let a = fold-fewer t (floor_of w) (incoming (edges nw new) w.key) (incoming (edges nw st) w.key) comes (floors nw new t w) in
        let b = fold-fewer t (floor_of w) (incoming (edges nw st) w.key) (incoming (edges nw new) w.key) stays (floors nw st t w) in
        let same : fold (later t) (floor_of w) (incoming (edges nw new) w.key) ≡ fold (later t) (floor_of w) (incoming (edges nw st) w.key) = omega arith in
        rw (same, left.caps is) refl

    value-stays : FollowsRule (record { network = nw; state = new }) times w.key
    unfolding event_time
    value-stays =
        let es = events st in
        let gs = edges nw st in
        let after = stays-valid nw st m valid well accepted in
        let found = All-contains (λ v. event_named new (node_of v.key) ≡ Some v) (events new) w (each-named new (λ i d l. (after.trains i d l).labels)) hw in
        let agree : All (λ (e : Edge). t e.from ≡ time es gs e.from) (incoming gs w.key) =
        λ i d l. ap (λ o. unwrap_or o 0) (old-time nw st new times stored _ (incoming-leads es gs (valid-graph nw st valid) w.key i d l).from_end) in
        ap (option_map (local (events new) (edges nw new) t)) found
        ∙ ap Some (same-value w.report refl ∙ local-agree es gs t (time es gs) w agree ∙ sym (time-local es gs (valid-graph nw st valid) w left.there))
        ∙ sym (old-time nw st new times stored w.key (w, left.there, refl, live))

  -- for a live event that is not unsettled its value is stored
  pub unsettled-value : (k : Key) → IsLiveAt (events new) k → is_unsettled nw st m k ≡ false → FollowsRule (record { network = nw; state = new }) times k
  unsettled-value k at settled = subst (FollowsRule (record { network = nw; state = new }) times) at.2 (value-stays at.0 at.1 at.3 (rw at.2 settled))

  -- so it is for each live event that is not marked, where what is unsettled is marked
  pub unmarked-values : (marks : Marked) → ((k : Key) → IsLiveAt (events new) k → is_unsettled nw st m k ≡ true → is_marked marks k ≡ true) → All (λ k. is_marked marks k ≡ false → FollowsRule (record { network = nw; state = new }) times k) (live_keys (events new))
  unmarked-values marks all = λ i d l free.
      let k = get_or (live_keys (events new)) i d in
      let at = keyed-live (events new) k (All-contains_itself (live_keys (events new)) i d l) in
      unsettled-value k at (false_from_ne_true _ (λ is. let marked = all k at is in absurd (cc)))
