-- The events of a train's new calls are marked label by label.
use Rattle.timetable.proofs.Words.{◌≡◌, ◌&&◌, ◌||◌, ℕ, suc, ◌<◌, ◌≤◌, Bool, true, false, List, [], ◌∷◌, Some, refl, sym, ◌∙◌, ap, arith, inl, inr, cases_Bool, nat_lt, nat_eq}
use Rattle.timetable.proofs.Words.{All, Contains, event_named, subst, list_any, Key, Node, node_of, node_at, is_same, is_same_node, State, Event, Train, events, train_events, train_events-there, events_at-train, is_event, is_live, live_keys, IsTrain, GraphState, option_map, slice_get}
use Rattle.std.proofs.lemmas.Bool.{cases_eq}
use Rattle.std.proofs.lemmas.Bool.Decides.{nat_tests}
use Rattle.std.proofs.lemmas.List.Folds.{list_any_none}
use Rattle.std.proofs.lemmas.Option.{slice_get_cases, same_Some}
use Rattle.train_nodes.proofs.EventLemmas.{name-test}
use Rattle.state_laws.proofs.Changed.{train_events-each}
use Rattle.rank_order.specs.Marked.{Marked, is_marked}
use Rattle.timetable.specs.Marking.{AreMarksOf, is_fed_from_new, is_marked_by, is_marked_from}
use Rattle.propagate.proofs.Ordered.{live-keyed}
use Rattle.timetable.proofs.Feeds.{IsNamedLive, key-marks, key-name, named-live}
use Rattle.timetable.proofs.Marked.{or-turn}
use Rattle.timetable.proofs.Turns.{labels-used}

-- the event is marked by its key, and its label is below one
abbrev pub is_marked_below : GraphState → ℕ → ℕ → Key → Event → Bool
is_marked_below g first label q v = is_marked_by g first q v && nat_lt v.key.label label

-- the live events of a train with the labels from `first` to one are marked, and what they feed first
pub record AreMadeBelow (g : GraphState) (t first label : ℕ) (old marks : Marked) : Type 0 where
  pub fit : AreMarksOf (events g.state) marks
  pub room : marks.room ≡ old.room
  pub marked : (q : Key) → Contains (live_keys (events g.state)) q → is_marked marks q ≡ (is_marked old q || list_any (is_marked_below g first label q) (train_events g.state t))

or-none : (b : Bool) → (b || false) ≡ b
or-none true = refl
or-none false = refl

pub made-begins : (g : GraphState) (t first : ℕ) (marks : Marked) → AreMarksOf (events g.state) marks → AreMadeBelow g t first first marks marks
made-begins g t first marks fit =
    record {
      fit = fit;
      room = refl;
      marked = λ q live.
          let none = list_any_none (is_marked_below g first first q) (train_events g.state t) (λ i d l. grind (arith, nat_tests)) in
          rw none (sym (or-none (is_marked marks q)));
    }

merged : (p l e m a f n b : Bool) → (((p || (e && a)) || (f && b)) || ((l || (m && a)) || (n && b))) ≡ (((p || l) || ((e || m) && a)) || ((f || n) && b))
merged p l e m a f n b = grind arith

module _ (g : GraphState) (trains : All IsTrain g.state.trains) (first : ℕ) (q : Key) (live : Contains (live_keys (events g.state)) q) where
  -- the key is that of the event of this name or of one that it feeds first
  abbrev is_own : Node → Bool
  is_own n = is_same_node (node_of q) n || is_fed_from_new g q n

  -- one label more at an event
  event-more : (label : ℕ) (v : Event) → first ≤ label → Contains (events g.state) v → is_marked_below g first (suc label) q v ≡ ((is_marked_below g first label q v || ((is_event (node_at v.key.train label false) v && v.live) && is_own (node_at v.key.train label false))) || ((is_event (node_at v.key.train label true) v && v.live) && is_own (node_at v.key.train label true)))
  event-more label v l there =
      let hit = λ (d : Bool). name-test v.key.train label v.key.label v.key.dep d (nat_eq v.key.label label) refl in
      let name = key-name g.state trains q live v there in
      elim (cases_eq v.key.label label) [
        | inl same ↦ rw (← same) (elim (cases_Bool v.key.dep) [
          | inl dep ↦ (let own : is_own (node_at v.key.train v.key.label true) ≡ is_own (node_of v.key) = rw (← dep) refl in grind (arith, nat_tests, l, same, dep, own, name, rw (← same) at (hit true), rw (← same) at (hit false)))
          | inr arr ↦ (let own : is_own (node_at v.key.train v.key.label false) ≡ is_own (node_of v.key) = rw (← arr) refl in grind (arith, nat_tests, l, same, arr, own, name, rw (← same) at (hit true), rw (← same) at (hit false)))
        ])
        | inr other ↦ grind (arith, nat_tests, other, hit true, hit false)
      ]

  -- and at each of a train
  events-more : (t label : ℕ) (vs : List Event) → first ≤ label → All (λ v. v.key.train ≡ t) vs → All (Contains (events g.state)) vs → list_any (is_marked_below g first (suc label) q) vs ≡ ((list_any (is_marked_below g first label q) vs || (list_any (λ v. is_event (node_at t label false) v && v.live) vs && is_own (node_at t label false))) || (list_any (λ v. is_event (node_at t label true) v && v.live) vs && is_own (node_at t label true)))
  events-more t label [] l own there = refl
  events-more t label (v ∷ vs) l own there =
      let one = subst (λ (u : ℕ). is_marked_below g first (suc label) q v ≡ ((is_marked_below g first label q v || ((is_event (node_at u label false) v && v.live) && is_own (node_at u label false))) || ((is_event (node_at u label true) v && v.live) && is_own (node_at u label true)))) (own 0 v (omega arith)) (event-more label v l (there 0 v (omega arith))) in
      let rest = events-more t label vs l (λ i d m. own (suc i) d (omega arith)) (λ i d m. there (suc i) d (omega arith)) in
      let arrives = is_event (node_at t label false) in
      let departs = is_event (node_at t label true) in
      rw (one, rest) (merged (is_marked_below g first label q v) (list_any (is_marked_below g first label q) vs) (arrives v && v.live) (list_any (λ u. arrives u && u.live) vs) (is_own (node_at t label false)) (departs v && v.live) (list_any (λ u. departs u && u.live) vs) (is_own (node_at t label true)))

  -- where all labels are below it, all are marked
  events-all : (label : ℕ) (vs : List Event) → All (λ v. v.key.label < label) vs → list_any (is_marked_below g first label q) vs ≡ list_any (is_marked_by g first q) vs
  events-all label [] h = refl
  events-all label (v ∷ vs) h =
      let low = h 0 v (omega arith) in
      grind (arith, nat_tests, low, events-all label vs (λ i d m. h (suc i) d (omega arith)))

module _ (g : GraphState) (trains : All IsTrain g.state.trains) (n : Node) (v : Event) (alive : is_live g.state n ≡ true) (name : node_of v.key ≡ n) (found : event_named g.state (node_of v.key) ≡ Some v) where
  named : IsNamedLive g.state n v
  named = named-live g.state n v trains alive (subst (λ (m : Node). event_named g.state m ≡ Some v) name found)

  -- the key of a live event
  pub named-key : Contains (live_keys (events g.state)) v.key
  named-key = live-keyed (events g.state) v.key (v, named.there, refl, named.live)

  -- what is marked by it is marked by its name
  pub named-marks : (old new : Marked) → ((q : Key) → Contains (live_keys (events g.state)) q → is_marked new q ≡ (is_marked old q || (is_same v.key q || is_fed_from_new g q (node_of v.key)))) → (q : Key) → Contains (live_keys (events g.state)) q → is_marked new q ≡ (is_marked old q || is_marked_from g q n)
  named-marks old new marked q live = rw (alive, ← key-marks g.state n v trains named q live, ← name) (marked q live)

-- of an event that is not live nothing is marked
pub dead-marks : (g : GraphState) (n : Node) (marks : Marked) (q : Key) → is_live g.state n ≡ false → is_marked marks q ≡ (is_marked marks q || is_marked_from g q n)
dead-marks g n marks q dead = rw dead (sym (or-none (is_marked marks q)))

-- the labels of a train's events are below its next one
labels-below : (st : State) (t next : ℕ) → All IsTrain st.trains → option_map (λ (t : Train). t.next_label) (slice_get st.trains t) ≡ Some next → All (λ v. v.key.label < next) (train_events st t)
labels-below st t next trains e = elim (slice_get_cases st.trains t).1 [
  | inl x ↦ (let is : x.0.next_label ≡ next = same_Some _ _ (rw x.2 at e) in rw x.2 (rw is at (labels-used st t x.0 trains x.2)))
  | inr none ↦ absurd (let f = rw none.1 at e in cc)
]

module _ {g : GraphState} {t first label : ℕ} {old marks : Marked} (trains : All IsTrain g.state.trains) (part : AreMadeBelow g t first label old marks) where
  pub made-more : (next : ℕ) (mid new : Marked) → next ≡ suc label → first ≤ label → ((q : Key) → Contains (live_keys (events g.state)) q → is_marked mid q ≡ (is_marked marks q || is_marked_from g q (node_at t label false))) → mid.room ≡ marks.room → AreMarksOf (events g.state) new → ((q : Key) → Contains (live_keys (events g.state)) q → is_marked new q ≡ (is_marked mid q || is_marked_from g q (node_at t label true))) → new.room ≡ mid.room → AreMadeBelow g t first next old new
  made-more next mid new is l arrival same fit departure kept =
      rw is (record {
        fit = fit;
        room = kept ∙ same ∙ part.room;
        marked = λ q live.
            let vs = train_events g.state t in
            let own = train_events-each g.state t (λ v. v.key.train ≡ t) (λ r e. events_at-train t r.route r.calls) in
            let more = events-more g trains first q live t label vs l own (train_events-there g.state t) in
            let below = list_any (is_marked_below g first label q) vs in
            let comes = is_marked_from g q (node_at t label false) in
            let goes = is_marked_from g q (node_at t label true) in
            rw more (departure q live
            ∙ ap (λ b. b || goes) (arrival q live ∙ ap (λ b. b || comes) (part.marked q live) ∙ or-turn (is_marked old q) below comes)
            ∙ or-turn (is_marked old q) (below || comes) goes);
      })

  pub made-ends : (next : ℕ) → option_map (λ (t : Train). t.next_label) (slice_get g.state.trains t) ≡ Some next → next ≤ label → (q : Key) → Contains (live_keys (events g.state)) q → is_marked marks q ≡ (is_marked old q || list_any (is_marked_by g first q) (train_events g.state t))
  made-ends next e l q live =
      let low = labels-below g.state t next trains e in
      let all = events-all g trains first q live label (train_events g.state t) (λ i d m. (let one = low i d m in omega (arith, one, l))) in
      part.marked q live ∙ ap (λ b. is_marked old q || b) all
