-- What a message that leaves the calls leaves: the live events and their order. And the list of the events that a message changes.
use Rattle.timetable.proofs.Words.{◌≡◌, ◌+◌, Bool, true, not, ◌&&◌, ◌||◌, cond, nat_eq, List, [], ◌∷◌, ◌++◌, map, length, length-append, get_or, refl, ◌∙◌, ap, arith, inl, inr, All}
use Rattle.timetable.proofs.Words.{Contains, filter, and_from, length-map, All-contains_itself, Contains-append_left, Contains-append_right, Contains-append_cases, sum_by-IsPermutation}
use Rattle.timetable.proofs.Words.{Contains-permutation, length-filter, Key, Node, is_before, is_same, node_of, same-itself, Network, ℕ, Option, Some, None}
use Rattle.timetable.proofs.Words.{EventValues, State, Event, effect, with_report, with_forecast, change_calls, change_labelled, change_event, with_event, events, live_events}
use Rattle.timetable.proofs.Words.{event_time, is_live_key, live_only, time_changes, changed, names_of, IsLiveAt, Contains-filter, Contains-map, contains-unmap, mapping-events}
use Rattle.timetable.proofs.Words.{IsSetting, set_at, set-shape, put_report, put_forecast, sets-report, sets-forecast, filter-none, message_by_choice, message_of_value, is_changed, changed_nodes, in_order, live_keys}
use Rattle.timetable.proofs.Words.{next_labels, suc}
use Rattle.delay_model.specs.declared.overrides.Override.{Override}
use Rattle.delay_model.specs.declared.overrides.Override.TheVariants.{Keep, Drop}
use Rattle.train_nodes.specs.declared.kinds.Value.{Value}
use Rattle.train_nodes.specs.declared.kinds.Value.TheVariants as Values
use Rattle.train_nodes.specs.declared.kinds.ValueKind.TheVariants as ValueKinds
use Rattle.state_laws.proofs.Settings.{set-mapping}
use Rattle.timetable.proofs.Words.{IsChangedEvent, AreInOrder, IsValid, AllPairs-filter, All-filter, All-permutation, filter_passes, cases_Bool, IsPermutation-sym, keys_total, exact_keys}
use Rattle.propagate.proofs.{Named.any-from, Ordered.filtered, Sorted.in_order-moves, Sorted.in_order-ascends, Sorted.keys-differ}
use Rattle.timetable.proofs.{Sized.labels-kept}

-- the live keys stay where each event keeps its key and whether it is live
keys-stay : (h : Event → Event) → ((v : Event) → (h v).key ≡ v.key) → ((v : Event) → (h v).live ≡ v.live) → (es : List Event) → live_keys (map h es) ≡ live_keys es
keys-stay h keys lives [] = refl
keys-stay h keys lives (v ∷ vs) = grind (arith, keys v, lives v, keys-stay h keys lives vs)

-- the live events, the labels and the spare calls are as they were
pub record IsAlike (old new : State) : Type 0 where
  pub keys : live_keys (events new) ≡ live_keys (events old)
  pub labels : next_labels new ≡ next_labels old
  pub spare_trains : new.spare_trains ≡ old.spare_trains
  pub spare_calls : new.spare_calls ≡ old.spare_calls

value-alike : (st : State) (n : Node) (f : EventValues → EventValues) (k : Event → Event) → IsSetting f k → IsAlike st (with_event n f st)
value-alike st n f k s =
    let m = set-mapping st n f k s in
    let g = change_labelled n.label (change_event n.dep f) in
    record {
      keys = rw (mapping-events st (with_event n f st) n.train g (set_at n k) m) (keys-stay (set_at n k) m.mapped.keys (λ v. ap (λ (w : Event). w.live) (set-shape n f k s v)) (events st));
      labels = labels-kept n.train (change_calls (map g)) st.trains (λ t. refl);
      spare_trains = refl;
      spare_calls = refl;
    }

reported-alike : (st : State) (n : Node) (o : Option ℕ) → IsAlike st (with_event n (with_report o) st)
reported-alike st n o = value-alike st n (with_report o) (put_report o) (sets-report o)

forecast-alike : (st : State) (n : Node) (o : Option ℕ) → IsAlike st (with_event n (with_forecast o) st)
forecast-alike st n o = value-alike st n (with_forecast o) (put_forecast o) (sets-forecast o)

-- so they are after a message about a report or a forecast
pub valued-alike : (st : State) (v : Value) → IsAlike st (effect st (message_of_value v))
unfolding effect
valued-alike st (Values.Event ValueKinds.Report n t) = reported-alike st n (Some t)
valued-alike st (Values.Event ValueKinds.Forecast n t) = forecast-alike st n (Some t)
valued-alike st (Values.Correct n o) = reported-alike st n o
valued-alike st (Values.Withdraw n) = forecast-alike st n None

-- and after a choice for a connection
pub chosen-alike : (st : State) (o : Option Override) (f t : Node) → IsAlike st (effect st (message_by_choice o f t))
unfolding effect events
chosen-alike st (Some Keep) f t = record { keys = refl; labels = refl; spare_trains = refl; spare_calls = refl }
chosen-alike st (Some Drop) f t = record { keys = refl; labels = refl; spare_trains = refl; spare_calls = refl }
chosen-alike st None f t = record { keys = refl; labels = refl; spare_trains = refl; spare_calls = refl }

pub filter-same : {X : Type 0} (p q : X → Bool) (xs : List X) → All (λ x. p x ≡ q x) xs → filter p xs ≡ filter q xs
filter-same p q [] h = refl
filter-same p q (x ∷ xs) h = rw (h 0 x (omega arith), filter-same p q xs (λ i d l. h (suc i) d (omega arith))) refl

pub filter-map : {X Y : Type 0} (f : X → Y) (p : Y → Bool) (xs : List X) → map f (filter (λ x. p (f x)) xs) ≡ filter p (map f xs)
filter-map f p [] = refl
filter-map f p (x ∷ xs) = grind (arith, filter-map f p xs)

pub live-key : (es : List Event) (k : Key) → IsLiveAt es k → is_live_key es k ≡ true
live-key es k at = any-from (λ u. u.live && is_same u.key k) es at.0 at.1 (and_from _ _ at.3 (ap (λ q. is_same q k) at.2 ∙ same-itself k))

-- where the live keys are the same, none is live only in the one list
pub none-only : (es fs : List Event) → live_keys es ≡ live_keys fs → live_only es fs ≡ []
none-only es fs same =
    filter-none (λ v. not (is_live_key fs v.key)) (live_events es) (λ i d l.
    let v = get_or (live_events es) i d in
    let there = Contains-map (λ (v : Event). v.key) (live_events es) v (All-contains_itself (live_events es) i d l) in
    let r = contains-unmap (λ (v : Event). v.key) (live_events fs) v.key (rw same at there) in
    let w = filtered (λ (v : Event). v.live) fs r.0 r.1 in
    rw (live-key fs v.key (r.0, w.0, r.2, w.1)) refl)

-- what is not a or is b, in two parts
pub either-length : {X : Type 0} (a b : X → Bool) (xs : List X) → length (filter (λ x. not (a x) || b x) xs) ≡ length (filter (λ x. not (a x)) xs) + length (filter (λ x. a x && b x) xs)
either-length a b [] = refl
either-length a b (x ∷ xs) = let e = either-length a b xs in grind arith

-- as many events are listed as are changed
pub changed-length : (nw : Network) (old new : State) → length (changed_nodes nw old new) ≡ length (changed nw old new)
unfolding changed_nodes changed
changed-length nw old new =
    let es = events old in
    let fs = events new in
    let p = is_changed nw old new in
    let keys = live_keys fs in
    let gone = live_only es fs in
    let parts = either-length (λ (v : Event). is_live_key es v.key) (λ (v : Event). not (nat_eq (event_time nw old v.key) (event_time nw new v.key))) (live_events fs) in
    rw (length-append, length-map gone (λ (v : Event). node_of v.key), length-map (filter p (in_order is_before keys)) node_of, length-filter p (in_order is_before keys), sum_by-IsPermutation (λ k. cond (p k) 1 0) keys (in_order is_before keys) (in_order-moves is_before keys))
    (rw (← length-filter p keys, ← filter-map (λ (v : Event). v.key) p (live_events fs), length-map)
    (omega (arith, parts, length-append gone (live_only fs es ++ time_changes (event_time nw old) (event_time nw new) es fs), length-append (live_only fs es) (time_changes (event_time nw old) (event_time nw new) es fs))))

-- an event that is live in the new state, and new or at another time, is listed
listed-key : (nw : Network) (old new : State) (v : Event) → Contains (live_events (events new)) v → is_changed nw old new v.key ≡ true → Contains (changed_nodes nw old new) (node_of v.key)
unfolding changed_nodes
listed-key nw old new v there p =
    let keys = live_keys (events new) in
    let there-key = Contains-permutation keys (in_order is_before keys) v.key (in_order-moves is_before keys) (Contains-map (λ (v : Event). v.key) (live_events (events new)) v there) in
    Contains-append_right (names_of (live_only (events old) (events new))) _ (node_of v.key)
    (Contains-map node_of (filter (is_changed nw old new) (in_order is_before keys)) v.key (Contains-filter (is_changed nw old new) (in_order is_before keys) v.key there-key p))

-- each changed event is listed
pub changed-each : (nw : Network) (old new : State) (v : Event) → Contains (changed nw old new) v → Contains (changed_nodes nw old new) (node_of v.key)
unfolding changed changed_nodes
changed-each nw old new v h =
    let es = events old in
    let fs = events new in
    let gone = live_only es fs in
    elim (Contains-append_cases gone (live_only fs es ++ time_changes (event_time nw old) (event_time nw new) es fs) v h) [
      | inl g ↦ Contains-append_left (names_of gone) _ (node_of v.key) (Contains-map (λ (v : Event). node_of v.key) gone v g)
      | inr r ↦ elim (Contains-append_cases (live_only fs es) (time_changes (event_time nw old) (event_time nw new) es fs) v r) [
        | inl a ↦ let f = filtered (λ (v : Event). not (is_live_key es v.key)) (live_events fs) v a in listed-key nw old new v f.0 (grind arith)
        | inr b ↦
            let f = filtered (λ (v : Event). is_live_key es v.key && not (nat_eq (event_time nw old v.key) (event_time nw new v.key))) (live_events fs) v b in
            listed-key nw old new v f.0 (grind arith)
      ]
    ]

-- and each that is listed is changed
pub changed-only : (nw : Network) (old new : State) → All (IsChangedEvent nw old new) (changed_nodes nw old new)
unfolding changed changed_nodes
changed-only nw old new = λ i d l.
    let es = events old in
    let fs = events new in
    let gone = live_only es fs in
    let come = live_only fs es in
    let moved = time_changes (event_time nw old) (event_time nw new) es fs in
    let keys = live_keys fs in
    let p = is_changed nw old new in
    let ns = names_of gone ++ map node_of (filter p (in_order is_before keys)) in
    elim (Contains-append_cases (names_of gone) (map node_of (filter p (in_order is_before keys))) (get_or ns i d) (All-contains_itself ns i d l)) [
      | inl g ↦
          let r = contains-unmap (λ (v : Event). node_of v.key) gone (get_or ns i d) g in
          record { event = r.0; there = Contains-append_left gone (come ++ moved) r.0 r.1; named = r.2 }
      | inr h ↦
          let r = contains-unmap node_of (filter p (in_order is_before keys)) (get_or ns i d) h in
          let k = filtered p (in_order is_before keys) r.0 r.1 in
          let back = Contains-permutation (in_order is_before keys) keys r.0 (IsPermutation-sym keys _ (in_order-moves is_before keys)) k.0 in
          let w = contains-unmap (λ (v : Event). v.key) (live_events fs) r.0 back in
          let v = w.0 in
          let passes = rw (← w.2) at k.1 in
          record {
            event = v;
            there = Contains-append_right gone (come ++ moved) v (elim (cases_Bool (is_live_key es v.key)) [
              | inl is ↦
                  Contains-append_right come moved v (Contains-filter (λ (v : Event). is_live_key es v.key && not (nat_eq (event_time nw old v.key) (event_time nw new v.key))) (live_events fs) v w.1 (grind (arith, is, passes)))
              | inr not_live ↦
                  Contains-append_left come moved v (Contains-filter (λ (v : Event). not (is_live_key es v.key)) (live_events fs) v w.1 (rw not_live refl))
            ]);
            named = ap node_of w.2 ∙ r.2;
          }
    ]

-- in their order
pub changed-ordered : (nw : Network) (old new : State) → IsValid nw new → AreInOrder nw old new (changed_nodes nw old new)
unfolding changed_nodes is_before
changed-ordered nw old new valid =
    let keys = live_keys (events new) in
    let p = is_changed nw old new in
    let sorted = in_order is_before keys in
    record {
      keys = filter p sorted;
      whole = refl;
      ascends = AllPairs-filter (λ a b. is_before a b ≡ true) p sorted (in_order-ascends keys_total exact_keys keys (keys-differ new valid.trains));
      live = All-filter p (Contains keys) sorted (All-permutation (Contains keys) keys sorted (in_order-moves is_before keys) (All-contains_itself keys));
      changed = filter_passes p sorted;
    }
