-- Where a train goes, along its calls.
use Rattle.std.proofs.Common.{◌≡◌, ℕ, suc, ◌<◌, Bool, true, false, cond, List, [], ◌∷◌}
use Rattle.std.proofs.Common.{◌++◌, Option, Some, None, is_some, find, length, slice_get, refl, sym, ◌∙◌, ap, subst, arith}
use Rattle.std.specs.List.{All}
use Rattle.std.specs.Option.{option_map, option_map_or}
use Rattle.std.proofs.lemmas.List.{append_assoc}
use Rattle.std.proofs.lemmas.List.Elements.{All-get_or}
use Rattle.std.proofs.lemmas.Option.{get_or_from_slice_get, none-some, same_Some, slice_get_within}
use Rattle.delay_model.specs.declared.state.Call.{Call}
use Rattle.delay_model.specs.declared.state.Train.{Train}
use Rattle.delay_model.specs.declared.state.State.{State}
use Rattle.delay_model.specs.Cuts.{after}
use Rattle.delay_model.specs.Effect.{is_call}
use Rattle.delay_model.specs.Events.{calls_of, is_live}
use Rattle.delay_model.specs.Valid.{HasDistinctLabels}
use Rattle.train_nodes.specs.Calls.{call_named, has_call, label_after, values_of}
use Rattle.train_nodes.proofs.EventLemmas.{live-named}
use Rattle.journey_laws.proofs.RideLemmas.{is-at, labelled}
use Rattle.board_laws.specs.Boards.{goes_to}

-- the calls of a train after the one with a label
abbrev pub calls_behind : State → ℕ → ℕ → List Call
calls_behind st train label = after (is_call label) (calls_of st train)

-- the labels of a train's calls differ
pub own-labels : (st : State) → All (λ (t : Train). HasDistinctLabels t.calls) st.trains → (train : ℕ) → HasDistinctLabels (calls_of st train)
own-labels st trains train = by (slice_get st.trains train) refl
  where
    by : (o : Option Train) → slice_get st.trains train ≡ o → HasDistinctLabels (option_map_or (λ (t : Train). t.calls) o [])
    by None there = tt
    by (Some t) there =
        subst (λ (t : Train). HasDistinctLabels t.calls) (get_or_from_slice_get st.trains train t t there)
        (All-get_or (λ (t : Train). HasDistinctLabels t.calls) st.trains train t (slice_get_within st.trains train t there) trains)

-- the call after the one with a label, by its own label
pub record IsNext (cs : List Call) (label next : ℕ) : Type 0 where
  pub call : Call
  pub split : after (is_call label) cs ≡ call ∷ after (is_call next) cs
  pub found : find (is_call next) cs ≡ Some call

next-by : (cs : List Call) → HasDistinctLabels cs → (label next : ℕ) → (c : Call) → find (is_call label) cs ≡ Some c
    → (rest : List Call) → after (is_call label) cs ≡ rest → option_map (λ (c : Call). c.label) (slice_get rest 0) ≡ Some next → IsNext cs label next
next-by cs distinct label next c found [] split first = absurd (none-some next first)
next-by cs distinct label next c found (d ∷ ds) split first =
    let at = is-at label cs c found in
    let front = at.earlier ++ c ∷ [] in
    let whole : cs ≡ front ++ d ∷ ds = at.split ∙ ap (λ es. at.earlier ++ c ∷ es) split ∙ sym (append_assoc at.earlier (c ∷ []) (d ∷ ds)) in
    let both = labelled front d ds (subst HasDistinctLabels whole distinct) in
    let named : d.label ≡ next = same_Some d.label next first in
    let its : find (is_call d.label) cs ≡ Some d = ap (find (is_call d.label)) whole ∙ both.0 in
    let behind : after (is_call d.label) cs ≡ ds = ap (after (is_call d.label)) whole ∙ both.1 in
    record {
      call = d;
      split = split ∙ ap (λ es. d ∷ es) (sym (subst (λ l. after (is_call l) cs ≡ ds) named behind));
      found = subst (λ l. find (is_call l) cs ≡ Some d) named its;
    }

next-at : (cs : List Call) → HasDistinctLabels cs → (label next : ℕ) → (o : Option Call) → find (is_call label) cs ≡ o → is_some o ≡ true
    → label_after cs label ≡ Some next → IsNext cs label next
next-at cs distinct label next None found there is = absurd (cc)
next-at cs distinct label next (Some c) found there is = next-by cs distinct label next c found (after (is_call label) cs) refl is

-- the last call: the train goes nowhere from there
pub goes-nowhere : (st : State) (train label to : ℕ) → None ≡ label_after (calls_of st train) label → goes_to to (calls_behind st train label) ≡ to
goes-nowhere st train label to none = by (calls_behind st train label) refl
  where
    by : (cs : List Call) → calls_behind st train label ≡ cs → goes_to to cs ≡ to
    by [] is = refl
    by (c ∷ cs) is = absurd (none-some c.label (none ∙ ap (λ (cs : List Call). option_map (λ (c : Call). c.label) (slice_get cs 0)) is))

module _ (st : State) (trains : All (λ (t : Train). HasDistinctLabels t.calls) st.trains) (train label : ℕ) (there : has_call st train label ≡ true)
    (next : ℕ) (follows : Some next ≡ label_after (calls_of st train) label) where
  at : IsNext (calls_of st train) label next
  at = next-at (calls_of st train) (own-labels st trains train) label next (call_named st train label) refl there (sym follows)

  live-at : (dep : Bool) → is_live st (record { train = train; label = next; dep = dep }) ≡ (values_of dep at.call).live
  live-at dep =
      live-named st (record { train = train; label = next; dep = dep }) (own-labels st trains train)
      ∙ ap (λ o. option_map_or (λ (c : Call). (values_of dep c).live) o false) at.found

  -- where it goes from a call, by the next one
  step : (to : ℕ) → goes_to to (calls_behind st train label)
      ≡ cond at.call.arrival.live (cond at.call.departure.live (goes_to at.call.stop (calls_behind st train next)) at.call.stop) to
  step to = ap (goes_to to) at.split

  pub is-next : has_call st train next ≡ true
  is-next = ap is_some at.found

  pub fewer : length (calls_behind st train next) < length (calls_behind st train label)
  fewer = let size : length (calls_behind st train label) ≡ suc (length (calls_behind st train next)) = ap length at.split in omega arith

  -- it does not arrive at the next call
  pub stays : (to : ℕ) → false ≡ is_live st (record { train = train; label = next; dep = false }) → goes_to to (calls_behind st train label) ≡ to
  stays to dead = let not : at.call.arrival.live ≡ false = sym (live-at false) ∙ sym dead in step to ∙ rw not refl

  module _ (to stop : ℕ) (arrives : true ≡ is_live st (record { train = train; label = next; dep = false }))
      (stops : option_map (λ (c : Call). c.stop) (call_named st train next) ≡ Some stop) where
    its-stop : at.call.stop ≡ stop
    its-stop = same_Some at.call.stop stop (rw at.found at stops)

    live : at.call.arrival.live ≡ true
    live = sym (live-at false) ∙ sym arrives

    -- it ends there
    pub ends : false ≡ is_live st (record { train = train; label = next; dep = true }) → goes_to to (calls_behind st train label) ≡ stop
    ends dead = let not : at.call.departure.live ≡ false = sym (live-at true) ∙ sym dead in step to ∙ rw (live, not) its-stop

    -- it goes on from there
    pub goes-on : true ≡ is_live st (record { train = train; label = next; dep = true })
        → goes_to to (calls_behind st train label) ≡ goes_to stop (calls_behind st train next)
    goes-on departs =
        let on : at.call.departure.live ≡ true = sym (live-at true) ∙ sym departs in
        step to ∙ rw (live, on) (ap (λ s. goes_to s (calls_behind st train next)) its-stop)
