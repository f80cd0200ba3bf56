-- Before and after a message the events are marked that may have another value.
use Rattle.timetable.proofs.Words.{◌≡◌, ◌&&◌, ◌||◌, ◌≤◌, ◌<◌, ◌-◌, ℕ, Bool, true, false, List, [], ◌∷◌, ◌++◌, Option, Some, None, length, get_or, filter, refl, sym, ◌∙◌, ap, subst, arith, inl, inr, cases_Bool, and_parts, not-false, false_from_ne_true}
use Rattle.timetable.proofs.Words.{cond, suc, nat_le, All, All-contains, All-filter, All-contains_itself, Contains, Contains-append_left, Contains-append_right, filter-append, append-nil, list_any}
use Rattle.timetable.proofs.Words.{Key, Node, node_of, is_same, is_same_node, same-is, Network, NewCall, Message, Cancel, Reroute, Extra, accepted-by, are_at_stops, calls_of, stands_before, stretch, State, Event, Edge, events, edges, live_events, train_events, is_live, is_live_key, live_only, names_of}
use Rattle.timetable.proofs.Words.{effect, rerouted, node_at, live_keys, IsTrain, IsValid, IsSmallCall, IsWellFormed, refusal, stays-valid, events-unique, train_events-there, GraphState, message_of_shape, arith}
use Rattle.train_nodes.specs.declared.kinds.Shape.{Shape}
use Rattle.train_nodes.specs.declared.kinds.Shape.TheVariants as Shapes
use Rattle.train_nodes.specs.declared.kinds.Choice.{Choice}
use Rattle.train_nodes.specs.declared.kinds.Value.{Value}
use Rattle.train_nodes.specs.declared.kinds.Value.TheVariants as Values
use Rattle.train_nodes.specs.declared.kinds.ValueKind.TheVariants as ValueKinds
use Rattle.train_nodes.specs.Kinds.{changed_event, is_of_report, message_by_choice, message_of_choice, message_of_value}
use Rattle.delay_model.specs.declared.overrides.Override.{Override}
use Rattle.delay_model.specs.declared.overrides.Override.TheVariants as Chosen
use Rattle.delay_model.specs.Effect.{events_between}
use Rattle.delay_model.specs.Touched.{capped_by, is_fed_by, named}
use Rattle.delay_model.proofs.Ends.{JoinsLive, edges-join}
use Rattle.std.proofs.lemmas.List.Folds.{list_any-append}
use Rattle.std.proofs.lemmas.Map.Views.{any-filter_same}
use Rattle.state_laws.proofs.Changed.{get-own}
use Rattle.state_laws.proofs.Parts.{All-left, All-right}
use Rattle.state_laws.proofs.Swapped.{swap-of}
use Rattle.state_laws.proofs.Values.{any-there}
use Rattle.std.proofs.lemmas.Bool.{le-leb, lt-leb}
use Rattle.std.proofs.lemmas.Option.{same_Some}
use Rattle.edge_rules.proofs.EventChanges.{IsNextLabel, made, reroute-next, reroute-there}
use Rattle.rank_order.specs.Marked.{Marked, is_marked}
use Rattle.propagate.specs.Unsettled.{is_unsettled, is_fed_by_new}
use Rattle.timetable.specs.Marking.{AreMarksOf, AreUnsettled, IsMarkedBefore, IsStateAfter, IsMarkedAndApplied, is_fed_from, is_marked_by, named_before, leaving_of}
use Rattle.propagate.proofs.Named.{event-live}
use Rattle.graph_edit.proofs.ValueLemmas.{value_live}
use Rattle.propagate.proofs.Ordered.{filtered, keyed-live, live-keyed}
use Rattle.timetable.proofs.Changed.{IsAlike, chosen-alike, live-key, none-only, valued-alike}
use Rattle.timetable.proofs.Named.{live-event}
use Rattle.timetable.proofs.Feeds.{fed-none, fed-first-none, fed-names, made-walk, keys-names, names-live}
use Rattle.timetable.proofs.Turns.{IsTurn, cancel-turn, reroute-turn, extra-turn, none-killed, shape-turn, taken-are, made-are, was-or-put, labels-used}
unfoldable use Rattle.timetable.proofs.Turns.{put_in}

pub or-false : (a : Bool) → (a || false) ≡ a
or-false true = refl
or-false false = refl

-- a message that leaves which events are live takes none away, and makes none
pub before-alike : (nw : Network) (st : State) (m : Message) (marks : Marked) → IsAlike st (effect st m) → AreMarksOf (events st) marks → ((k : Key) → Contains (live_keys (events st)) k → is_marked marks k ≡ list_any (is_same_node (node_of k)) (named_before st m)) → IsMarkedBefore nw st m marks
before-alike nw st m marks alike fit marked =
    record {
      fit = fit;
      marked = λ k live. rw (none-only (events st) (events (effect st m)) (sym alike.keys), fed-none (edges nw st) k) (marked k live ∙ sym (or-false _));
    }

pub after-alike : (nw : Network) (st : State) (m : Message) (marks : Marked) → IsAlike st (effect st m) → named_before st m ≡ named st m → IsMarkedBefore nw st m marks → AreUnsettled nw st m marks
after-alike nw st m marks alike names before =
    let new = effect st m in
    record {
      live = rw alike.keys before.fit.live;
      marked = λ k live.
          rw (none-only (events new) (events st) alike.keys, fed-first-none (edges nw new) k, ← names)
          (before.marked k (rw alike.keys at live) ∙ ap (λ b. list_any (is_same_node (node_of k)) (named_before st m) || b) (sym (or-false _)));
    }

named-none : (st : State) (s : Shape) → named_before st (message_of_shape s) ≡ []
named-none st (Shapes.Cancel n from to) = refl
named-none st (Shapes.Reroute n from to via) = refl
named-none st (Shapes.Extra n day route calls) = refl

module _ (nw : Network) (st : State) (s : Shape) (valid : IsValid nw st) (well : IsWellFormed (message_of_shape s)) (accepted : refusal nw st (message_of_shape s) ≡ None) where
  abbrev m : Message
  m = message_of_shape s

  abbrev new : State
  new = effect st m

  turn : IsTurn st new (leaving_of st s) (put_in st s)
  turn = shape-turn nw st s valid well accepted

  abbrev F : Key → Bool
  F k = is_fed_by (edges nw st) (live_only (events st) (events new)) k

  pub taken-there : All (Contains (events st)) (leaving_of st s)
  taken-there = λ i d l.
      let v = get_or (leaving_of st s) i d in
      rw turn.before (Contains-append_right turn.front (leaving_of st s ++ turn.back) v (Contains-append_left (leaving_of st s) turn.back v (All-contains_itself (leaving_of st s) i d l)))

  -- the events are listed that are taken away, and those that they feed are marked
  pub leaving-are : names_of (live_events (leaving_of st s)) ≡ names_of (live_only (events st) (events new))
  leaving-are = ap names_of (sym (taken-are valid.trains turn))

  pub before-shape : (marks : Marked) → AreMarksOf (events st) marks → ((k : Key) → Contains (live_keys (events st)) k → is_marked marks k ≡ list_any (is_fed_from (record { network = nw; state = st }) k) (names_of (live_events (leaving_of st s)))) → IsMarkedBefore nw st m marks
  before-shape marks fit marked =
      record {
        fit = fit;
        marked = λ k live. rw (named-none st s, taken-are valid.trains turn) (marked k live ∙ fed-names (record { network = nw; state = st }) valid.trains k (live_events (leaving_of st s)) (All-filter (λ (v : Event). v.live) (Contains (events st)) (leaving_of st s) taken-there));
      }

  pub after : IsValid nw new
  after = stays-valid nw st m valid well accepted

  module _ (old : Marked) (before : IsMarkedBefore nw st m old) (kept : Marked) (keys : kept.keys ≡ filter (λ k. is_live new (node_of k)) old.keys) where
    -- the marks that are left are of live events
    pub kept-fit : kept.room ≡ old.room → length (live_keys (events new)) ≤ old.room → AreMarksOf (events new) kept
    kept-fit room roomy =
        let p : Key → Bool = λ k. is_live new (node_of k) in
        let P : Key → Type 0 = Contains (live_keys (events new)) in
        let live : All P (filter p old.keys) = λ i d l.
        let k = get_or (filter p old.keys) i d in
        let f = filtered p old.keys k (All-contains_itself (filter p old.keys) i d l) in
        let v = keyed-live (events st) k (All-contains (Contains (live_keys (events st))) old.keys k before.fit.live f.0) in
        let r = live-event new (node_of k) f.1 in
        let name : node_of v.0.key ≡ node_of r.event.key = ap node_of v.2 ∙ sym r.name in
        elim (was-or-put valid.trains turn r.event r.there) [
          | inl was ↦
              let one = events-unique st valid.trains v.0 r.event v.1 was name in
              live-keyed (events new) k (r.event, r.there, ap (λ (w : Event). w.key) (sym one) ∙ v.2, r.live)
          | inr put ↦ absurd (turn.fresh r.event put r.live v.0 v.1 name)
        ]
        in
        record { live = rw keys live; room = rw room roomy }

    -- and they mark what is fed by an event that was taken away
    pub kept-marked : (k : Key) → Contains (live_keys (events new)) k → is_marked kept k ≡ F k
    kept-marked k live =
        let es = events st in
        let u = keyed-live (events new) k live in
        let on : is_live new (node_of k) ≡ true = subst (λ q. is_live new (node_of q) ≡ true) u.2 (event-live new u.0 u.1 u.3) in
        let left : is_marked kept k ≡ is_marked old k =
        rw keys (any-filter_same (λ q. is_same q k) (λ q. is_live new (node_of q)) true (λ q is. rw (same-is q k is) on) old.keys) in
        elim (cases_Bool (is_live_key es k)) [
          | inl is ↦
              let r = any-there (λ v. v.live && is_same v.key k) es is in
              let both = and_parts r.0.live (is_same r.0.key k) r.2 in
              let there = live-keyed es k (r.0, r.1, same-is r.0.key k both.1, both.0) in
              left ∙ before.marked k there ∙ ap (λ ns. list_any (is_same_node (node_of k)) ns || F k) (named-none st s)
          | inr not_live ↦
              let unmarked : is_marked old k ≡ false = false_from_ne_true _ (λ marked.
              let r = any-there (λ q. is_same q k) old.keys marked in
              let v = keyed-live es r.0 (All-contains (Contains (live_keys es)) old.keys r.0 before.fit.live r.1) in
              let is = live-key es k (v.0, v.1, v.2 ∙ same-is r.0 k r.2, v.3) in
              absurd (cc)) in
              let unfed : F k ≡ false = false_from_ne_true _ (λ fed.
              let r = any-there (λ (e : Edge). is_same e.to k && list_any (λ (v : Event). is_same e.from v.key) (live_only es (events new))) (edges nw st) fed in
              let at = (All-contains (JoinsLive es) (edges nw st) r.0 (edges-join nw st) r.1).to_end in
              let is = live-key es k (at.0, at.1, at.2 ∙ same-is r.0.to k (and_parts (is_same r.0.to k) _ r.2).0, at.3) in
              absurd (cc)) in
              left ∙ unmarked ∙ sym unfed
        ]

and-false : (a : Bool) → (a && false) ≡ false
and-false true = refl
and-false false = refl

-- events of a train whose labels are new, and those whose labels are not
part-none : (first : ℕ) (us : List Event) → All (λ v. v.key.label < first) us → filter (λ v. v.live && nat_le first v.key.label) us ≡ []
part-none first [] h = refl
part-none first (u ∷ us) h =
    let low = h 0 u (omega arith) in
    let rest = part-none first us (λ i d l. h (suc i) d (omega arith)) in
    rw (lt-leb first u.key.label low, and-false u.live) rest

part-all : (first : ℕ) (us : List Event) → All (λ v. first ≤ v.key.label) us → filter (λ v. v.live && nat_le first v.key.label) us ≡ live_events us
part-all first [] h = refl
part-all first (u ∷ us) h =
    let high = h 0 u (omega arith) in
    let rest = part-all first us (λ i d l. h (suc i) d (omega arith)) in
    elim (cases_Bool u.live) [ inl live ↦ rw (live, le-leb first u.key.label high, rest) refl | inr dead ↦ rw (dead, rest) refl ]

-- a cancellation makes no event
cancel-end : (nw : Network) (st : State) (n from to : ℕ) → let m = Cancel n from to in let new = effect st m in (valid : IsValid nw st) (accepted : refusal nw st m ≡ None) (kept : Marked) (k : Key) → is_marked kept k ≡ is_fed_by (edges nw st) (live_only (events st) (events new)) k → is_marked kept k ≡ is_unsettled nw st m k
cancel-end nw st n from to valid accepted kept k fed =
    let new = effect st (Cancel n from to) in
    rw (made-are valid.trains (cancel-turn nw st n from to valid accepted), none-killed (stretch st n from to), fed-first-none (edges nw new) k) (fed ∙ sym (or-false _))

-- where the live events are marked that a message made, and those that they feed first
made-marks : (nw : Network) (st new : State) (out put : List Event) → IsTurn st new out put → All IsTrain st.trains → All IsTrain new.trains → (first n : ℕ) → filter (λ v. v.live && nat_le first v.key.label) (train_events new n) ≡ live_events put → (k : Key) → Contains (live_keys (events new)) k → list_any (is_marked_by (record { network = nw; state = new }) first k) (train_events new n) ≡ (list_any (is_same_node (node_of k)) (names_of put) || is_fed_by_new (edges nw new) (live_only (events new) (events st)) k)
made-marks nw st new out put turn was now first n are k live =
    let g : GraphState = record { network = nw; state = new } in
    let there : All (Contains (events new)) put = λ i d l. rw turn.after (Contains-append_right turn.front (put ++ turn.back) (get_or put i d) (Contains-append_left put turn.back (get_or put i d) (All-contains_itself put i d l))) in
    made-walk g now k first (train_events new n) (train_events-there new n)
    ∙ rw (are, made-are was turn, keys-names new now k live put there) refl

turn-last : (f n p a : Bool) → ((f || (n || p)) || a) ≡ ((n || (a || false)) || (f || p))
turn-last f n p a = grind arith

turn-first : (f n p : Bool) → (f || (n || p)) ≡ (n || (f || p))
turn-first f n p = grind arith

-- a rerouting makes the events of its calls, and they lead to the arrival of a call that stays
module _ (nw : Network) (st : State) (n from to : ℕ) (cs : List NewCall) (valid : IsValid nw st) (small : All IsSmallCall cs) (accepted : refusal nw st (Reroute n from to cs) ≡ None) where
  abbrev routed : State
  routed = effect st (Reroute n from to cs)

  abbrev now : IsValid nw routed
  now = stays-valid nw st (Reroute n from to cs) valid small accepted

  made-part : (first : ℕ) → IsNextLabel st n first → filter (λ v. v.live && nat_le first v.key.label) (train_events routed n) ≡ live_events (made st n cs)
  unfolding effect
  made-part first label =
      let s = swap-of nw st n from to cs valid small accepted in
      let same : s.train.next_label ≡ first = same_Some _ _ (rw s.got at label) in
      let Low : Event → Type 0 = λ v. v.key.label < first in
      let low : All Low (s.head ++ (s.mid ++ s.next ∷ s.tail)) = rw (← same) (subst (All (λ v. v.key.label < s.train.next_label)) s.line_old (labels-used st n s.train valid.trains s.got)) in
      let back = All-right Low s.mid (s.next ∷ s.tail) (All-right Low s.head (s.mid ++ s.next ∷ s.tail) low) in
      let line : train_events routed n ≡ s.head ++ (s.made ++ s.next ∷ s.tail) = rw (get-own (rerouted from to cs) n st.trains s.train s.got) s.line_new in
      rw (line, filter-append, filter-append, part-none first s.head (All-left Low s.head (s.mid ++ s.next ∷ s.tail) low), part-all first s.made (rw (← same) s.above), part-none first (s.next ∷ s.tail) back, append-nil)
      (ap live_events (sym s.is_made))

  pub reroute-end : (first : ℕ) → IsNextLabel st n first → (kept final : Marked) (k : Key) → Contains (live_keys (events routed)) k → is_marked kept k ≡ is_fed_by (edges nw st) (live_only (events st) (events routed)) k → is_marked final k ≡ ((is_marked kept k || list_any (is_marked_by (record { network = nw; state = routed }) first k) (train_events routed n)) || is_same_node (node_of k) (node_at n to false)) → is_marked final k ≡ is_unsettled nw st (Reroute n from to cs) k
  reroute-end first label kept final k live was is =
      let put = made st n cs in
      let walk = made-marks nw st routed (events_between st n from to) put (reroute-turn nw st n from to cs valid small accepted) valid.trains now.trains first n (made-part first label) k live in
      let p = is_same_node (node_of k) in
      let arrival = node_at n to false in
      let F = is_fed_by (edges nw st) (live_only (events st) (events routed)) k in
      let P = is_fed_by_new (edges nw routed) (live_only (events routed) (events st)) k in
      (let e = rw (was, walk) at is in e)
      ∙ turn-last F (list_any p (names_of put)) P (p arrival)
      ∙ ap (λ b. b || (F || P)) (sym (list_any-append p (names_of put) (arrival ∷ [])))

  -- that arrival is live
  pub arrival-live : is_live routed (node_at n to false) ≡ true
  unfolding effect events
  arrival-live =
      let s = swap-of nw st n from to cs valid small accepted in
      let known = and_parts (stands_before from to (calls_of st n)) _ (not-false _ (accepted-by nw st (Reroute n from to cs) accepted).known) in
      let alive = (and_parts (is_live st (node_at n from true)) (is_live st (node_at n to false)) (and_parts _ (are_at_stops nw cs) known.1).0).1 in
      let r = live-event st (node_at n to false) alive in
      let there : Contains (events st) s.next = rw s.old (Contains-append_right s.front (s.mid ++ s.next ∷ s.rest) s.next (Contains-append_right s.mid (s.next ∷ s.rest) s.next (0, omega arith, refl))) in
      let one = events-unique st valid.trains r.event s.next r.there there (r.name ∙ sym s.is_next) in
      let later : Contains (events routed) s.next = rw s.new (Contains-append_right s.front (s.made ++ s.next ∷ s.rest) s.next (Contains-append_right s.made (s.next ∷ s.rest) s.next (0, omega arith, refl))) in
      subst (λ m. is_live routed m ≡ true) s.is_next (event-live routed s.next later (ap (λ (v : Event). v.live) (sym one) ∙ r.live))

-- an extra train makes its events
pub extra-end : (nw : Network) (st : State) (n day route : ℕ) (cs : List NewCall) → let m = Extra n day route cs in let new = effect st m in IsValid nw st → IsWellFormed m → refusal nw st m ≡ None → (kept final : Marked) (k : Key) → Contains (live_keys (events new)) k → is_marked kept k ≡ is_fed_by (edges nw st) (live_only (events st) (events new)) k → is_marked final k ≡ (is_marked kept k || list_any (is_marked_by (record { network = nw; state = new }) 0 k) (train_events new n)) → is_marked final k ≡ is_unsettled nw st m k
extra-end nw st n day route cs valid well accepted kept final k live was is =
    let m = Extra n day route cs in
    let new = effect st m in
    let put = train_events new n in
    let walk = made-marks nw st new [] put (extra-turn nw st n day route cs accepted) valid.trains (stays-valid nw st m valid well accepted).trains 0 n (part-all 0 put (λ i d l. omega arith)) k live in
    (let e = rw (was, walk) at is in e) ∙ turn-first _ (list_any (is_same_node (node_of k)) (names_of put)) _

-- an accepted choice names a live event
pub choice-live : (nw : Network) (st : State) (o : Option Override) (f t : Node) → refusal nw st (message_by_choice o f t) ≡ None → is_live st t ≡ true
choice-live nw st (Some Chosen.Keep) f t h = (and_parts (is_live st f) (is_live st t) (not-false _ (accepted-by nw st (message_by_choice (Some Chosen.Keep) f t) h).known)).1
choice-live nw st (Some Chosen.Drop) f t h = (and_parts (is_live st f) (is_live st t) (not-false _ (accepted-by nw st (message_by_choice (Some Chosen.Drop) f t) h).known)).1
choice-live nw st None f t h = (and_parts (is_live st f) (is_live st t) (not-false _ (accepted-by nw st (message_by_choice None f t) h).known)).1

value-named : (st : State) (v : Value) → named_before st (message_of_value v) ≡ named st (message_of_value v)
value-named st (Values.Event ValueKinds.Report n t) = refl
value-named st (Values.Event ValueKinds.Forecast n t) = refl
value-named st (Values.Correct n o) = refl
value-named st (Values.Withdraw n) = refl

-- a message about a report names what the report caps too
pub named_value : (st : State) (v : Value) → named st (message_of_value v) ≡ cond (is_of_report v) (capped_by st (changed_event v)) (changed_event v ∷ [])
named_value st (Values.Event ValueKinds.Report n t) = refl
named_value st (Values.Event ValueKinds.Forecast n t) = refl
named_value st (Values.Correct n o) = refl
named_value st (Values.Withdraw n) = refl

choice-named : (st : State) (o : Option Override) (f t : Node) → (named_before st (message_by_choice o f t) ≡ t ∷ []) × (named st (message_by_choice o f t) ≡ t ∷ [])
choice-named st (Some Chosen.Keep) f t = (refl, refl)
choice-named st (Some Chosen.Drop) f t = (refl, refl)
choice-named st None f t = (refl, refl)

-- so what it names is marked before, that is all that is to be, and none is taken away
module _ (nw : Network) (st : State) (v : Value) {m : Message} (says : message_of_value v ≡ m) where
  alike : IsAlike st (effect st m)
  alike = subst (λ m. IsAlike st (effect st m)) says (valued-alike st v)

  names : named_before st m ≡ named st m
  names = subst (λ m. named_before st m ≡ named st m) says (value-named st v)

  pub value-there : refusal nw st m ≡ None → is_live st (changed_event v) ≡ true
  value-there h = value_live nw st v (subst (λ m. refusal nw st m ≡ None) (sym says) h)

  pub value-before : (marks : Marked) → AreMarksOf (events st) marks → ((k : Key) → Contains (live_keys (events st)) k → is_marked marks k ≡ list_any (is_same_node (node_of k)) (named st (message_of_value v))) → IsMarkedBefore nw st m marks
  value-before marks fit marked =
      before-alike nw st m marks alike fit (λ k live. marked k live ∙ ap (λ m. list_any (is_same_node (node_of k)) (named st m)) says ∙ ap (list_any (is_same_node (node_of k))) (sym names))

  pub value-after : (marks : Marked) → IsMarkedBefore nw st m marks → AreUnsettled nw st m marks
  value-after marks before = after-alike nw st m marks alike names before

  pub value-leaves : [] ≡ names_of (live_only (events st) (events (effect st m)))
  value-leaves = ap names_of (sym (none-only (events st) (events (effect st m)) (sym alike.keys)))

module _ (nw : Network) (st : State) (c : Choice) {m : Message} (says : message_of_choice c ≡ m) where
  alike-chosen : IsAlike st (effect st m)
  alike-chosen = subst (λ m. IsAlike st (effect st m)) says (chosen-alike st c.choice c.feeder c.train)

  names-chosen : (named_before st m ≡ c.train ∷ []) × (named st m ≡ c.train ∷ [])
  names-chosen = subst (λ m. (named_before st m ≡ c.train ∷ []) × (named st m ≡ c.train ∷ [])) says (choice-named st c.choice c.feeder c.train)

  pub choice-there : refusal nw st m ≡ None → is_live st c.train ≡ true
  choice-there h = choice-live nw st c.choice c.feeder c.train (subst (λ m. refusal nw st m ≡ None) (sym says) h)

  pub choice-before : (marks : Marked) → AreMarksOf (events st) marks → ((k : Key) → Contains (live_keys (events st)) k → is_marked marks k ≡ is_same_node (node_of k) c.train) → IsMarkedBefore nw st m marks
  choice-before marks fit marked = before-alike nw st m marks alike-chosen fit (λ k live. rw names-chosen.0 (marked k live ∙ sym (or-false _)))

  pub choice-after : (marks : Marked) → IsMarkedBefore nw st m marks → AreUnsettled nw st m marks
  choice-after marks before = after-alike nw st m marks alike-chosen (names-chosen.0 ∙ sym names-chosen.1) before

  pub choice-leaves : [] ≡ names_of (live_only (events st) (events (effect st m)))
  choice-leaves = ap names_of (sym (none-only (events st) (events (effect st m)) (sym alike-chosen.keys)))

-- a message that changes the calls of a train, or which of its events take place
module _ (nw : Network) (st : State) (s : Shape) {m : Message} (says : message_of_shape s ≡ m) (valid : IsValid nw st) (well : IsWellFormed m) (accepted : refusal nw st m ≡ None) where
  well-shape : IsWellFormed (message_of_shape s)
  well-shape = subst IsWellFormed (sym says) well

  accepted-shape : refusal nw st (message_of_shape s) ≡ None
  accepted-shape = subst (λ m. refusal nw st m ≡ None) (sym says) accepted

  pub shape-taken : All (λ n. is_live st n ≡ true) (names_of (live_events (leaving_of st s)))
  shape-taken = names-live st (leaving_of st s) (taken-there nw st s valid well-shape accepted-shape)

  pub shape-leaves : names_of (live_events (leaving_of st s)) ≡ names_of (live_only (events st) (events (effect st m)))
  shape-leaves = subst (λ m. names_of (live_events (leaving_of st s)) ≡ names_of (live_only (events st) (events (effect st m)))) says (leaving-are nw st s valid well-shape accepted-shape)

  pub shape-before : (marks : Marked) → AreMarksOf (events st) marks → ((k : Key) → Contains (live_keys (events st)) k → is_marked marks k ≡ list_any (is_fed_from (record { network = nw; state = st }) k) (names_of (live_events (leaving_of st s)))) → IsMarkedBefore nw st m marks
  shape-before marks fit marked = subst (λ m. IsMarkedBefore nw st m marks) says (before-shape nw st s valid well-shape accepted-shape marks fit marked)

-- the marks that are left once those of events are taken off that are not live
pub record AreKept (new : State) (old kept : Marked) : Type 0 where
  pub keys : kept.keys ≡ filter (λ k. is_live new (node_of k)) old.keys
  pub room : kept.room ≡ old.room
  pub roomy : length (live_keys (events new)) ≤ old.room

-- they are of live events after a step
pub step-fit : (nw : Network) (st new : State) (s : Shape) → IsStateAfter nw st new (message_of_shape s) → (old : Marked) → IsMarkedBefore nw st (message_of_shape s) old → (kept : Marked) → AreKept new old kept → AreMarksOf (events new) kept
step-fit nw st new s step old before kept =
    subst (λ new. AreKept new old kept → AreMarksOf (events new) kept) (sym step.made) (λ are. kept-fit nw st s step.valid step.well_formed step.accepted old before kept are.keys are.room are.roomy)

-- those are marked that an event fed that was taken away
abbrev pub AreFedMarks : Network → State → State → Marked → Type 0
AreFedMarks nw st new kept = (k : Key) → Contains (live_keys (events new)) k → is_marked kept k ≡ is_fed_by (edges nw st) (live_only (events st) (events new)) k

pub step-fed : (nw : Network) (st new : State) (s : Shape) → IsStateAfter nw st new (message_of_shape s) → (old : Marked) → IsMarkedBefore nw st (message_of_shape s) old → (kept : Marked) → AreKept new old kept → AreFedMarks nw st new kept
step-fed nw st new s step old before kept =
    subst (λ new. AreKept new old kept → AreFedMarks nw st new kept) (sym step.made) (λ are. kept-marked nw st s step.valid step.well_formed step.accepted old before kept are.keys)

-- and then the events that a message made, what these feed first, and others
pub record AreMadeMarks (nw : Network) (new : State) (kept : Marked) (first n : ℕ) (others : Key → Bool) (final : Marked) : Type 0 where
  pub fit : AreMarksOf (events new) final
  pub marked : (k : Key) → Contains (live_keys (events new)) k → is_marked final k ≡ ((is_marked kept k || list_any (is_marked_by (record { network = nw; state = new }) first k) (train_events new n)) || others k)

pub cancel-after : (nw : Network) (st new : State) (n from to : ℕ) → let m = Cancel n from to in IsStateAfter nw st new m → (kept : Marked) → AreMarksOf (events new) kept → AreFedMarks nw st new kept → AreUnsettled nw st m kept
cancel-after nw st new n from to step kept =
    let m = Cancel n from to in
    subst (λ new. AreMarksOf (events new) kept → AreFedMarks nw st new kept → AreUnsettled nw st m kept) (sym step.made) (λ fit fed. record { live = fit.live; marked = λ k live. cancel-end nw st n from to step.valid step.accepted kept k (fed k live) })

pub reroute-after : (nw : Network) (st new : State) (n from to : ℕ) (cs : List NewCall) → let m = Reroute n from to cs in IsStateAfter nw st new m → (kept final : Marked) (first : ℕ) → IsNextLabel st n first → AreFedMarks nw st new kept → AreMadeMarks nw new kept first n (λ k. is_same_node (node_of k) (node_at n to false)) final → AreUnsettled nw st m final
reroute-after nw st new n from to cs step kept final first label =
    let others : Key → Bool = λ k. is_same_node (node_of k) (node_at n to false) in
    let m = Reroute n from to cs in
    subst (λ new. AreFedMarks nw st new kept → AreMadeMarks nw new kept first n others final → AreUnsettled nw st m final) (sym step.made) (λ fed are.
    record { live = are.fit.live; marked = λ k live. reroute-end nw st n from to cs step.valid step.well_formed step.accepted first label kept final k live (fed k live) (are.marked k live) })

pub extra-after : (nw : Network) (st new : State) (n day route : ℕ) (cs : List NewCall) → let m = Extra n day route cs in IsStateAfter nw st new m → (kept final : Marked) → AreFedMarks nw st new kept → AreMadeMarks nw new kept 0 n (λ k. false) final → AreUnsettled nw st m final
extra-after nw st new n day route cs step kept final =
    let m = Extra n day route cs in
    subst (λ new. AreFedMarks nw st new kept → AreMadeMarks nw new kept 0 n (λ k. false) final → AreUnsettled nw st m final) (sym step.made) (λ fed are.
    record { live = are.fit.live; marked = λ k live. extra-end nw st n day route cs step.valid step.well_formed step.accepted kept final k live (fed k live) (are.marked k live ∙ or-false _) })

-- what is known of a rerouting once it was applied: the train is there, its next label is no less than how many calls were made, and the arrival is live
pub record IsRouted (old new : State) (n to : ℕ) (cs : List NewCall) : Type 0 where
  pub there : n < length new.trains
  pub next : (next : ℕ) → IsNextLabel new n next → (length cs ≤ next) × IsNextLabel old n (next - length cs)
  pub arrival : is_live new (node_at n to false) ≡ true
  pub trains : All IsTrain new.trains

pub routed-by : (nw : Network) (st new : State) (n from to : ℕ) (cs : List NewCall) → IsStateAfter nw st new (Reroute n from to cs) → IsRouted st new n to cs
routed-by nw st new n from to cs step =
    let known = and_parts (stands_before from to (calls_of st n)) _ (not-false _ (accepted-by nw st (Reroute n from to cs) step.accepted).known) in
    subst (λ new. IsRouted st new n to cs) (sym step.made) (record {
      there = reroute-there st n from to cs known.0;
      next = λ next. reroute-next st n from to next cs known.0;
      arrival = arrival-live nw st n from to cs step.valid step.well_formed step.accepted;
      trains = (stays-valid nw st (Reroute n from to cs) step.valid step.well_formed step.accepted).trains;
    })

-- after an accepted message the trains are well-formed
pub stepped-trains : (nw : Network) (st new : State) (m : Message) → IsStateAfter nw st new m → All IsTrain new.trains
stepped-trains nw st new m step = subst (λ (s : State). All IsTrain s.trains) (sym step.made) (stays-valid nw st m step.valid step.well_formed step.accepted).trains

-- so after the marks of dead events were taken off
pub stepped-fit : (g : GraphState) (s : Shape) (old : Marked) → IsMarkedAndApplied g (message_of_shape s) old → (kept : Marked) → AreKept g.state old kept → AreMarksOf (events g.state) kept
stepped-fit g s old stepped kept are = step-fit g.network stepped.old g.state s stepped.step old stepped.before kept are
