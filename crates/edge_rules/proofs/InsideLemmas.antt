-- What holds of a graph after its trains and their index were changed.
use Rattle.edge_rules.proofs.Words.{Option, map-id, seen, put_in, taken_out, with_forecast, with_report, All-push, append-nil, are_at_stops, change_event, change_labelled, elements, stands_before, same_entry-is, Contains-permutation, IsPermutation-append_comm, IsPermutation-append_left, IsPermutation-middle, IsAtStop, events_from, drop, ◌≡◌, ℕ, ◌+◌, ◌-◌, ◌*◌, ◌≤◌, true, List, [], ◌∷◌, ◌++◌, map, length, refl, ap, append_assoc, arith, All, IsPermutation, IsPermutation-sym, IsPermutation-trans, IsPermutation-append_right, NewCall, Node, EventValues, Event, State, Cancel, Reroute, Extra, effect, events, events_at, events_between, train_events, calls_of, stretch, begin_run, end_run, new_calls, new_train, with_event, Indexed, AreNew, AreThere, AreAtStops, HasOwnLabels, IsConsistent, Inside, entries_of, entry_of, new_entries, with_entries, without_entries, GraphState, Entry, events_of, Bool, not, filter, sym, ◌≢◌, All-contains, All-map, AllPairs, AllPairs-after, AllPairs-tail, Contains-append_right, same_entry-itself, is_same_entry, live_events, length-append, is_call, rerouted}
use Rattle.station_index.proofs.OrderLemmas.{with-moves}
use Rattle.state_laws.proofs.Extras.{events-push, get-push}
use Rattle.state_laws.proofs.Mappings.{mapping-events}
use Rattle.state_laws.proofs.Settings.{set-mapping}
use Rattle.state_laws.proofs.Stretches.{All-from, All-up_to}
use Rattle.state_laws.proofs.Values.{IsSetting, put_forecast, put_report, sets-forecast, sets-report, set-shape, set_at, with_values}
use Rattle.edge_rules.proofs.PieceLemmas.{pieces-permuted}
use Rattle.edge_rules.proofs.Reordered.{pairs-permuted}
use Rattle.edge_rules.proofs.TransferLemmas.{filter-pieces, filter-whole}
use Rattle.std.proofs.lemmas.List.Concat.{flat_map_single}
use Rattle.edge_rules.proofs.EventChanges.{IsExchange, IsNextLabel, cancel-exchange, entries-append, entries-distinct, killed-entries, made, reroute-exchange, reroute-next}
use Rattle.edge_rules.proofs.Listing.{listed-one}
use Rattle.edge_rules.proofs.StopsKept.{OnStops, begin-each, change-each, end-each, map-stops, new-each}
use Rattle.edge_rules.proofs.Walks.{between-events}

-- entries that are taken out of an index are there, and the others are left, where no two of them all are one
taken : (out rest : List Entry) (index : Indexed) → IsPermutation (out ++ rest) index.entries → AllPairs (λ a b. a ≢ b) (out ++ rest) → AreThere out index × IsPermutation rest (without_entries out index).entries × ((without_entries out index).spare ≡ index.spare)
taken [] rest index p apart = (tt, p, refl)
taken (d ∷ ds) rest index p apart =
    let q : Entry → Bool = λ x. not (is_same_entry x d) in
    let others = filter-whole q (ds ++ rest) (λ i e l. grind (arith, same_entry-is, AllPairs-after (λ a b. a ≢ b) [] d (ds ++ rest) apart i e l)) in
    let less = rw (← filter-pieces q (λ x. x ∷ []) (ds ++ rest), ← filter-pieces q (λ x. x ∷ []) index.entries, flat_map_single (λ (x : Entry). x) (ds ++ rest), flat_map_single (λ (x : Entry). x) index.entries, map-id (ds ++ rest), map-id index.entries, same_entry-itself d, others) at (pieces-permuted (λ x. filter q (x ∷ [])) (d ∷ ds ++ rest) index.entries p) in
    grind (arith, taken ds rest (taken_out d index) less (AllPairs-tail (λ a b. a ≢ b) d (ds ++ rest) apart), Contains-permutation (d ∷ ds ++ rest) index.entries d p (0, omega arith, refl))

-- entries that are put into an index are new, and all are there then, where no two of them all are one
filled : (put all : List Entry) (index : Indexed) → IsPermutation (put ++ index.entries) all → AllPairs (λ a b. a ≢ b) all → length put ≤ index.spare → AreNew put index × IsPermutation (with_entries put index).entries all × ((with_entries put index).spare + length put ≡ index.spare)
filled [] all index p apart room = (tt, p, omega arith)
filled (d ∷ ds) all index p apart room =
    let behind = IsPermutation-trans _ _ _ (IsPermutation-append_right ds _ _ (IsPermutation-sym _ _ (with-moves d index.entries))) (IsPermutation-trans _ _ _ (IsPermutation-middle ds d index.entries) p) in
    let others = AllPairs-after (λ a b. a ≢ b) [] d (ds ++ index.entries) (pairs-permuted (λ a b. a ≢ b) (λ a b ne same. ne (sym same)) _ _ (IsPermutation-sym _ _ p) apart) in
    grind (arith, All-contains (λ x. d ≢ x) (ds ++ index.entries) d others, Contains-append_right ds index.entries d, filled ds all (put_in d index) behind apart (omega arith))

-- the entries of some events, and then those of the events around them
part-first : {old : List Event} (us vs ws : List Event) → old ≡ us ++ (vs ++ ws) → IsPermutation (entries_of vs ++ entries_of (us ++ ws)) (entries_of old)
part-first us vs ws is = rw is (simp (entries-append, ← append_assoc) (IsPermutation-append_left (entries_of ws) _ _ (IsPermutation-append_comm (entries_of vs) (entries_of us))))

-- a forecast or a report leaves the entries
same-entries : (h : Event → Event) → ((v : Event) → h v ≡ with_values v (h v).forecast (h v).report) → (vs : List Event) → entries_of (map h vs) ≡ entries_of vs
same-entries h shape [] = refl
same-entries h shape (v ∷ vs) = grind (arith, shape v, same-entries h shape vs)

-- the entries of the new calls of a train, and how many there are, also in a run of their own
made-entries : (n route label : ℕ) (cs : List NewCall) → let run = end_run (new_calls label cs) in (entries_of (events_at n route (new_calls label cs)) ≡ new_entries n label cs) × (length (new_entries n label cs) ≡ 2 * length cs) × (length (entries_of (events_at n route run)) ≤ 2 * length cs) × (length (entries_of (events_at n route (begin_run run))) ≤ 2 * length cs)
made-entries n route label [] = grind arith
made-entries n route label (c ∷ cs) = grind (arith, made-entries n route (label + 1) cs)

pub own-dep : (vs : List Event) → All (λ e. e.dep ≡ e.node.dep) (entries_of vs)
own-dep vs = All-map (λ (e : Entry). e.dep ≡ e.node.dep) entry_of (live_events vs) (λ i d l. refl)

-- the entries of a train's events stand before those of later trains
pub listed-at : (st : State) (i : ℕ) → (train_events st i ≡ train_events st i) × (entries_of (train_events st i) ++ entries_of (events_from (i + 1) (drop (i + 1) st.trains)) ≡ entries_of (events_from i (drop i st.trains)))
listed-at st i = (refl, listed-one st i)

pub ruleset indexing = (listed-at, between-events, entries-distinct, own-dep, append_assoc, length-append)

-- entries that can be put in, and what holds of the graph then
pub record IsAfter (a : Inside) (st : State) (index : Indexed) (put : List Entry) : Type 0 where
  pub new : AreNew put index
  pub consistent : IsConsistent (record a { trains = st; index = with_entries put index })

module _ {a : Inside} (h : IsConsistent a) where
  -- a choice changes no train
  pub choice_keeps : (st : State) → st.trains ≡ a.trains.trains → st.spare_calls ≡ a.trains.spare_calls → IsConsistent (record a { trains = st })
  unfolding events
  choice_keeps st trains calls = grind arith

  -- a forecast or a report changes the values of one event
  set-keeps : (n : Node) (f : EventValues → EventValues) (k : Event → Event) → IsSetting f k → All HasOwnLabels (with_event n f a.trains).trains → IsConsistent (record a { trains = with_event n f a.trains })
  set-keeps n f k s labels =
      let stops = map-stops a.changes.stops n.train (change_labelled n.label (change_event n.dep f)) (λ c. grind arith) a.trains.trains h.at_stops in
      grind (arith, stops, mapping-events a.trains (with_event n f a.trains) n.train _ (set_at n k) (set-mapping a.trains n f k s), same-entries (set_at n k) (set-shape n f k s) (events a.trains))

  pub forecast_keeps : (n : Node) (o : Option ℕ) (st : State) → st ≡ with_event n (with_forecast o) a.trains → All HasOwnLabels st.trains → IsConsistent (record a { trains = st })
  forecast_keeps n o st is labels = rw is (set-keeps n (with_forecast o) (put_forecast o) (sets-forecast o) (rw is at labels))

  pub report_keeps : (n : Node) (o : Option ℕ) (st : State) → st ≡ with_event n (with_report o) a.trains → All HasOwnLabels st.trains → IsConsistent (record a { trains = st })
  report_keeps n o st is labels = rw is (set-keeps n (with_report o) (put_report o) (sets-report o) (rw is at labels))

  -- the events that others stand in place of have entries, and the others are left
  left : {new out put : List Event} (x : IsExchange (events a.trains) new out put) → AreThere (entries_of out) a.index × IsPermutation (entries_of (x.front ++ x.back)) (without_entries (entries_of out) a.index).entries × ((without_entries (entries_of out) a.index).spare ≡ a.index.spare)
  left {new} {out} x =
      let all = part-first x.front out x.back x.before in
      taken (entries_of out) _ a.index (IsPermutation-trans _ _ _ all (IsPermutation-sym _ _ h.index.entries)) (pairs-permuted (λ a b. a ≢ b) (λ a b ne same. ne (sym same)) _ _ (IsPermutation-sym _ _ all) (entries-distinct a.trains h.labels))

  exchanged : {st : State} {out put : List Event} → IsExchange (events a.trains) (events st) out put → All HasOwnLabels st.trains → AreAtStops a.changes.stops st → 2 * st.spare_calls + length (entries_of put) ≤ 2 * a.trains.spare_calls → IsAfter a st (without_entries (entries_of out) a.index) (entries_of put)
  exchanged {st} {out} {put} x labels stops room =
      grind (arith, left x, filled (entries_of put) (entries_of (events st)) (without_entries (entries_of out) a.index) (IsPermutation-trans _ _ _ (IsPermutation-append_right (entries_of put) _ _ (IsPermutation-sym _ _ (left x).1)) (part-first x.front put x.back x.after)) (entries-distinct st labels) (omega (arith, left x)))

  module _ {g : GraphState} (is : seen a ≡ g) where
    module _ (n from to : ℕ) (stands : stands_before from to (calls_of g.state n) ≡ true) where
      pub cancel-there : AreThere (entries_of (stretch a.trains n from to)) a.index
      cancel-there = (left (cancel-exchange a.trains n from to h.labels (rw (← is) at stands))).0

      pub cancel-keeps : All HasOwnLabels (effect a.trains (Cancel n from to)).trains → IsConsistent (record a { trains = effect a.trains (Cancel n from to); index = without_entries (entries_of (stretch a.trains n from to)) a.index })
      unfolding effect
      cancel-keeps labels =
          let none = killed-entries (stretch a.trains n from to) in
          (rw none at (exchanged (cancel-exchange a.trains n from to h.labels (rw (← is) at stands)) labels (map-stops a.changes.stops n _ (λ c. refl) a.trains.trains h.at_stops) (omega (arith, ap length none)))).consistent

      pub reroute-removes : AreThere (entries_of (events_between a.trains n from to)) a.index
      reroute-removes = (left (reroute-exchange a.trains n from to [] h.labels (rw (← is) at stands))).0

      pub reroute-keeps : (via : List NewCall) (next : ℕ) → length via ≤ g.state.spare_calls → are_at_stops g.network via ≡ true → All HasOwnLabels (effect a.trains (Reroute n from to via)).trains → IsNextLabel (effect a.trains (Reroute n from to via)) n next → IsAfter a (effect a.trains (Reroute n from to via)) (without_entries (entries_of (events_between a.trains n from to)) a.index) (new_entries n (next - length via) via)
      unfolding effect
      reroute-keeps via next enough new labels label =
          let same : entries_of (made a.trains n via) ≡ new_entries n (next - length via) via = grind (arith, (reroute-next a.trains n from to next via (rw (← is) at stands) label).1, made-entries n) in
          let stops = change-each (OnStops a.changes.stops) n (rerouted from to via) (λ t on. grind (arith, elements, All-up_to (IsAtStop a.changes.stops) (is_call from) t.calls on, new-each a.changes.stops t.next_label via (rw (← is) at new), All-from (IsAtStop a.changes.stops) (is_call to) t.calls on)) a.trains.trains h.at_stops in
          rw same at (exchanged (reroute-exchange a.trains n from to via h.labels (rw (← is) at stands)) labels stops (omega (arith, rw (← is) at enough, ap length same, made-entries n 0 (next - length via) via)))

    pub extra-keeps : (day route : ℕ) (cs : List NewCall) → let n = length a.trains.trains in let new = effect a.trains (Extra n day route cs) in length cs ≤ g.state.spare_calls → are_at_stops g.network cs ≡ true → All HasOwnLabels new.trains → IsAfter a new a.index (entries_of (train_events new n))
    unfolding effect events
    extra-keeps day route cs enough new labels =
        let n = length a.trains.trains in
        let t = new_train day route cs in
        let own = begin-each a.changes.stops _ (end-each a.changes.stops _ (new-each a.changes.stops 0 cs (rw (← is) at new))) in
        rw (get-push a.trains.trains t)
        (exchanged {out = []} {put = events_of n t} (record { front = events a.trains; back = []; before = rw append-nil refl; after = events-push 0 n a.trains.trains t (omega arith) }) labels (All-push (OnStops a.changes.stops) a.trains.trains t h.at_stops own) (omega (arith, rw (← is) at enough, made-entries n route 0 cs)))
