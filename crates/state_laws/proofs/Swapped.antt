-- What a rerouting leaves: new events stand in place of those between two calls, and none of both is reported.
use Rattle.state_laws.proofs.Words.{get_or, same_Some, ◌≡◌, ℕ, ◌+◌, ◌<◌, ◌≤◌, Bool, true, false, ◌&&◌, List, [], ◌∷◌, ◌++◌, Some, None, length, refl, sym, ◌∙◌, ap, subst, arith, inl, inr}
use Rattle.state_laws.proofs.Words.{◌⊎◌, append_assoc, ◌≢◌, cases_Bool, and_parts, not-false, false_from_ne_true, eqb-true, All-head, All-tail, All-weaker, All-contains}
use Rattle.state_laws.proofs.Words.{Contains-append_left, Contains-append_right, Contains-append_cases, list_any_at, list_any_none, get, All, AllPairs, Contains, slice_get, list_any, IfSome}
use Rattle.state_laws.proofs.Words.{node_of, Key, Node, Opts, NewCall, edges_along, edge_on, effect, node_at, is_call, is_among, new_calls, rerouted, change_train, events_between, events}
use Rattle.state_laws.proofs.Words.{events_at, events_of, events_from, train_events, calls_of, arrival_of, departure_of, live_report, is_event, is_live, IsSmallCall, connection, refusal}
use Rattle.state_laws.proofs.Words.{stands_before, are_at_stops, any_reported, named, names_of, new_events, IsValid, Reroute, Network, Connection, Call, Edge, Event, State, Train, AreApart}
use Rattle.state_laws.proofs.Words.{events-apart, IsLiveAt, valid-graph, same_node-is}
use Rattle.state_laws.proofs.Parts.{All-left, All-right, valid-good}
use Rattle.state_laws.proofs.Accepted.{accepted-by, none-reported}
use Rattle.state_laws.proofs.Values.{any-there, named-at, pairs-right}
use Rattle.state_laws.proofs.Stretches.{and-true, events_at-each}
use Rattle.state_laws.proofs.Cancels.{no-report}
use Rattle.state_laws.proofs.Extras.{IsFreshCall, new-fresh, none-live, fresh-each}
use Rattle.state_laws.proofs.Splits.{pairs-across, events_at-append, beside, around}
use Rattle.state_laws.proofs.Reroutes.{IsCut, cut-of, head, tail, fresh, old-events, new-events, reroute-valid}
use Rattle.state_laws.proofs.Untouched.{IsLeft}
use Rattle.state_laws.proofs.Joined.{left-by, along-change, along-back}
use Rattle.state_laws.proofs.Caps.{AreSilent, cap-swap}
use Rattle.state_laws.proofs.Mappings.{only-edge}
use Rattle.state_laws.proofs.Placed.{placed, train-there, names-apart, apart-keys}
use Rattle.state_laws.proofs.Chosen.{alike-itself, override-stays}
use Rattle.delay_model.specs.Cuts as Cuts

-- an edge that does not lead to the second of these events is one after the first
along-tail : (o : Opts) (e : Edge) (x y : Event) (ys : List Event) → e.to ≢ y.key → Contains (edges_along o (x ∷ y ∷ ys)) e → Contains (edges_along o (y ∷ ys)) e
along-tail o e x y ys ne h =
    elim (Contains-append_cases (edge_on o x (y ∷ ys)) _ e h) [
      | inl here ↦ absurd (ne (sym (ap (λ (e : Edge). e.to) (only-edge o x y ys e here))))
      | inr later ↦ later
    ]

along-drop : (o : Opts) (e : Edge) (x : Event) (ms : List Event) (y : Event) (ys : List Event) → All (λ v. e.to ≢ v.key) ms → e.to ≢ y.key → Contains (edges_along o (x ∷ (ms ++ y ∷ ys))) e → Contains (edges_along o (y ∷ ys)) e
along-drop o e x [] y ys others next h = along-tail o e x y ys next h
along-drop o e x (m ∷ ms) y ys others next h =
    along-drop o e m ms y ys (All-tail (λ (v : Event). e.to ≢ v.key) m ms others) next (along-tail o e x m (ms ++ y ∷ ys) (others 0 m (omega arith)) h)

along-add : (o : Opts) (e : Edge) (ns ys : List Event) → Contains (edges_along o ys) e → Contains (edges_along o (ns ++ ys)) e
along-add o e [] ys h = h
along-add o e (x ∷ xs) ys h = Contains-append_right (edge_on o x (xs ++ ys)) _ e (along-add o e xs ys h)

-- so it stays where other events stand in their place
along-swap : (o : Opts) (e : Edge) (xs ms ns : List Event) (y : Event) (ys : List Event) → All (λ v. e.to ≢ v.key) ms → e.to ≢ y.key → Contains (edges_along o (xs ++ (ms ++ y ∷ ys))) e → Contains (edges_along o (xs ++ (ns ++ y ∷ ys))) e
along-swap o e [] [] ns y ys others next h = along-add o e ns (y ∷ ys) h
along-swap o e [] (m ∷ ms) ns y ys others next h = along-add o e ns (y ∷ ys) (along-drop o e m ms y ys (All-tail (λ (v : Event). e.to ≢ v.key) m ms others) next h)
along-swap o e (x ∷ []) ms ns y ys others next h = along-add o e (x ∷ ns) (y ∷ ys) (along-drop o e x ms y ys others next h)
along-swap o e (x ∷ z ∷ xs) ms ns y ys others next h =
    let here = edge_on o x (z ∷ []) in
    elim (Contains-append_cases here _ e h) [
      | inl own ↦ Contains-append_left here _ e own
      | inr later ↦ Contains-append_right here _ e (along-swap o e (z ∷ xs) ms ns y ys others next later)
    ]

-- what holds after the first that passes holds of what stands after a part with one that does
after-part : {X : Type 0} (P : X → Type 0) (p : X → Bool) (xs ys : List X) → list_any p xs ≡ true → All P (Cuts.after p (xs ++ ys)) → All P ys
after-part P p [] ys some h = absurd (cc)
after-part P p (x ∷ xs) ys some h =
    elim (cases_Bool (p x)) [ inl hit ↦ All-right P xs ys (rw hit at h) | inr miss ↦ after-part P p xs ys (rw miss at some) (rw miss at h) ]

-- the events before and after a rerouting
pub record IsSwap (st : State) (n from to : ℕ) (via : List NewCall) : Type 0 where
  pub train : Train
  pub got : slice_get st.trains n ≡ Some train
  pub front : List Event
  pub head : List Event
  pub mid : List Event
  pub made : List Event
  pub next : Event
  pub tail : List Event
  pub rest : List Event
  pub old : events_from 0 st.trains ≡ front ++ (mid ++ next ∷ rest)
  pub new : events_from 0 (change_train n (rerouted from to via) st.trains) ≡ front ++ (made ++ next ∷ rest)
  pub line_old : events_of n train ≡ head ++ (mid ++ next ∷ tail)
  pub line_new : events_of n (rerouted from to via train) ≡ head ++ (made ++ next ∷ tail)
  pub silent_mid : AreSilent mid
  pub silent_made : AreSilent made
  pub below : All (λ v. v.key.label < train.next_label) mid
  pub above : All (λ v. train.next_label ≤ v.key.label) made
  pub is_next : node_of next.key ≡ node_at n to false
  pub is_mid : events_between st n from to ≡ mid
  pub is_made : new_events st n via ≡ made

swap-by : (st : State) (n from to : ℕ) (via : List NewCall) (t : Train) → slice_get st.trains n ≡ Some t → IsCut from to t.calls → All (λ d. d.label < t.next_label) t.calls → All IsSmallCall via → any_reported (Cuts.after (is_event (node_at n from true)) (train_events st n)) ≡ None → IsSwap st n from to via
unfolding head tail fresh
swap-by st n from to via t got c used small agrees =
    let p = placed (rerouted from to via) 0 n n st.trains t (omega arith) got in
    let r = t.route in
    let low = t.next_label in
    let high = low + length via in
    let first = c.before ++ c.first ∷ [] in
    let hs = events_at n r first in
    let ms = events_at n r c.mid in
    let ns = events_at n r (new_calls low via) in
    let y = arrival_of n r c.last in
    let b = departure_of n r c.last ∷ events_at n r c.rest in
    let line_old : events_of n t ≡ hs ++ (ms ++ y ∷ b) = old-events from to t c via n in
    let line_new : events_of n (rerouted from to via t) ≡ hs ++ (ns ++ y ∷ b) = new-events from to t c via n in
    let Free : Event → Type 0 = λ v. IfSome (live_report v) (λ r. true ≡ false) in
    let leaves = is_event (node_at n from true) in
    let dep = departure_of n r c.first in
    let is_dep : leaves dep ≡ true = named-at (node_at n from true) c.first.label true ∙ and-true (is_call from c.first) ∙ c.at_first in
    let here : Contains hs dep = rw (events_at-append n r c.before (c.first ∷ [])) (Contains-append_right (events_at n r c.before) _ dep (1, omega arith, refl)) in
    let some : list_any leaves hs ≡ true = list_any_at leaves hs here.0 dep here.1 (ap leaves here.2 ∙ is_dep) in
    let own : train_events st n ≡ hs ++ (ms ++ y ∷ b) = rw got line_old in
    let free : All Free (ms ++ y ∷ b) = after-part Free leaves hs _ some (subst (λ vs. All Free (Cuts.after leaves vs)) own (none-reported (λ r. true) _ agrees)) in
    let new = new-fresh low high via (omega arith) small in
    let Used : Call → Type 0 = λ d. d.label < low in
    let used_mid = All-left Used c.mid _ (All-right Used first _ (subst (All Used) c.parts used)) in
    record {
      train = t;
      got = got;
      front = p.before ++ hs;
      head = hs;
      mid = ms;
      made = ns;
      next = y;
      tail = b;
      rest = b ++ p.after;
      old = rw (p.old, line_old) (simp append_assoc);
      new = rw (p.new, line_new) (simp append_assoc);
      line_old = line_old;
      line_new = line_new;
      silent_mid = All-weaker Free (λ v. live_report v ≡ None) (λ v none. no-report (live_report v) none) ms (All-left Free ms _ free);
      silent_made = fresh-each (λ v. live_report v ≡ None) (λ v _ _ none. none-live v none) low high n r (new_calls low via) new;
      below = events_at-each (λ v. v.key.label < low) Used n r (λ c l. (l, l)) c.mid used_mid;
      above = events_at-each (λ v. low ≤ v.key.label) (IsFreshCall low high) n r (λ c f. (f.from, f.from)) (new_calls low via) new;
      is_next = ap (λ l. node_at n l false) (eqb-true _ _ c.at_last);
      is_mid = rw (got, c.inner);
      is_made = rw got;
    }

pub swap-of : (nw : Network) (st : State) (n from to : ℕ) (via : List NewCall) → IsValid nw st → All IsSmallCall via → refusal nw st (Reroute n from to via) ≡ None → IsSwap st n from to via
swap-of nw st n from to via valid small h =
    let a = accepted-by nw st (Reroute n from to via) h in
    let known = and_parts (stands_before from to (calls_of st n)) _ (not-false _ a.known) in
    let alive = and_parts (is_live st (node_at n from true)) (is_live st (node_at n to false)) (and_parts _ (are_at_stops nw via) known.1).0 in
    let found = any-there (λ v. is_event (node_at n from true) v && v.live) (train_events st n) alive.0 in
    let run = train-there st n found.0 found.1 in
    swap-by st n from to via run.0 run.1 (cut-of nw st n from to via valid h run.0 run.1) (valid-good nw st valid n n run.0 (omega arith) run.1).train.used small a.agrees

-- an event that stands on neither side of it is known from the events between
apart-mid : (front mid back : List Event) (x : Event) → AllPairs AreApart (front ++ (mid ++ back)) → Contains front x ⊎ Contains back x → All (λ v. node_of v.key ≢ node_of x.key) mid
apart-mid front mid back x apart (inl h) =
    let all = All-left (AreApart x) mid back (All-contains (λ x. All (AreApart x) (mid ++ back)) front x (pairs-across AreApart front _ apart) h) in λ i d l e. all i d l (sym e)
apart-mid front mid back x apart (inr h) = λ i d l. All-contains (AreApart (get_or mid i d)) back x (pairs-across AreApart mid back (pairs-right AreApart front _ apart) i d l) h

-- no event of a name that none of these has is among them
not-there : (es : List Event) (x : Event) → All (λ v. node_of v.key ≢ node_of x.key) es → is_among es (node_of x.key) ≡ false
not-there es x h = list_any_none (is_event (node_of x.key)) es (λ i d l. false_from_ne_true _ (λ same. h i d l (same_node-is _ (node_of x.key) same)))

module _ (nw : Network) (st new : State) (n from to : ℕ) (via : List NewCall) (s : IsSwap st n from to via) (trains : new.trains ≡ change_train n (rerouted from to via) st.trains) (before : IsValid nw st) (after : IsValid nw new) where
  abbrev back : List Event
  back = s.next ∷ s.rest

  -- the two have different names
  abbrev Apart : Event → Event → Type 0
  Apart x v = node_of v.key ≢ node_of x.key

  Beside : Event → Type 0
  Beside x = Contains s.front x ⊎ Contains back x

  is_old : events st ≡ s.front ++ (s.mid ++ back)
  unfolding events
  is_old = s.old

  is_new : events new ≡ s.front ++ (s.made ++ back)
  unfolding events
  is_new = ap (events_from 0) trains ∙ s.new

  apart-old : (x : Event) → Beside x → All (Apart x) s.mid
  unfolding Beside
  apart-old x at = apart-mid s.front s.mid back x (rw is_old at (events-apart st before.trains)) at

  apart-new : (x : Event) → Beside x → All (Apart x) s.made
  unfolding Beside
  apart-new x at = apart-mid s.front s.made back x (rw is_new at (events-apart new after.trains)) at

  side : (x : Event) → Contains (events new) x → (Contains s.made x → ⊥) → Beside x
  unfolding Beside
  side x h out = beside s.front s.made back x (rw is_new at h) out

  was : (x : Event) → Beside x → Contains (events st) x
  unfolding Beside
  was x at = rw is_old (around s.front s.mid back x at)

  -- no new event has the key of an old one
  unfresh : (u v : Event) → Contains (events st) u → Contains s.made v → u.key ≡ v.key → ⊥
  unfolding Beside
  unfresh u v hu hv key =
      let high = All-contains (λ v. s.train.next_label ≤ v.key.label) s.made v s.above hv in
      let same : u.key.label ≡ v.key.label = ap (λ (k : Key). k.label) key in
      let at = beside s.front s.mid back u (rw is_old at hu) (λ between. let low = All-contains (λ v. v.key.label < s.train.next_label) s.mid u s.below between in absurd (omega arith)) in
      All-contains (Apart u) s.made v (apart-new u at) hv (ap node_of (sym key))

  -- an old event that is there after is not between the two calls
  not-mid : (k : Key) → IsLiveAt (events st) k → IsLiveAt (events new) k → is_among s.mid (node_of k) ≡ false
  not-mid k at on =
      let x = on.0 in
      rw on.2 at (not-there s.mid x (apart-old x (side x on.1 (λ c. unfresh at.0 x at.1 c (at.2 ∙ sym on.2)))))

  -- the line of the train that is rerouted
  lines : (i : ℕ) (t : Train) → i ≡ 0 + n → slice_get st.trains n ≡ Some t → (events_of i t ≡ s.head ++ (s.mid ++ s.next ∷ s.tail)) × (events_of i (rerouted from to via t) ≡ s.head ++ (s.made ++ s.next ∷ s.tail))
  lines i t at got = let own : i ≡ n = omega arith in let is = same_Some t s.train (sym got ∙ s.got) in (rw (own, is) s.line_old, rw (own, is) s.line_new)

  swapped-left : (w : Event) → Contains (events new) w → All (Apart w) s.made → node_of s.next.key ≢ node_of w.key → ((p : Connection) → is_among s.mid p.arrival ≡ false → is_among s.mid p.departure ≡ false → get st.overrides p ≡ get new.overrides p) → IsLeft nw st new w
  swapped-left w hw apart_made not_next overrides =
      let o = nw.opts in
      let f = rerouted from to via in
      let aside = side w hw (λ c. All-contains (Apart w) s.made w apart_made c refl) in
      let apart_mid = apart-old w aside in
      let leads : (e : Edge) → e.to ≡ w.key → (vs : List Event) → All (Apart w) vs → All (λ v. e.to ≢ v.key) vs = λ e to vs ne i d l is. ne i d l (ap node_of (sym is ∙ to)) in
      let to_next : (e : Edge) → e.to ≡ w.key → e.to ≢ s.next.key = λ e to is. not_next (ap node_of (sym is ∙ to)) in
      left-by nw st new w before after (was w aside) hw (λ _.
      rw (is_old, is_new) (cap-swap s.front s.mid s.made back w s.silent_mid s.silent_made (apart-keys s.mid w apart_mid) (apart-keys s.made w apart_made))) (record {
        trains_stay = λ e c to _. rw trains (along-change o e f 0 n st.trains (λ i t at got c.
            let l = lines i t at got in rw l.1 (along-swap o e s.head s.mid s.made s.next s.tail (leads e to s.mid apart_mid) (to_next e to) (rw l.0 at c))) c);
        trains_come = λ e c to _. along-back o e f 0 n st.trains (λ i t at got c.
            let l = lines i t at got in rw l.0 (along-swap o e s.head s.made s.mid s.next s.tail (leads e to s.made apart_made) (to_next e to) (rw l.1 at c))) (rw trains at c);
        alike = λ u v hu hv key _ _. alike-itself u v ((valid-graph nw st before).one u v hu (was v (side v hv (λ c. unfresh u v hu c key))) key);
        choices = λ k at on. overrides (connection (node_of k) (node_of w.key)) (not-mid k at on) (not-there s.mid w apart_mid);
      })

pub reroute-left : (nw : Network) (st : State) (n from to : ℕ) (via : List NewCall) → IsValid nw st → All IsSmallCall via → refusal nw st (Reroute n from to via) ≡ None → (w : Event) → Contains (events (effect st (Reroute n from to via))) w → All (λ k. k ≢ node_of w.key) (named st (Reroute n from to via)) → IsLeft nw st (effect st (Reroute n from to via)) w
unfolding effect
reroute-left nw st n from to via valid small h w hw free =
    let s = swap-of nw st n from to via valid small h in
    let Free : Node → Type 0 = λ k. k ≢ node_of w.key in
    let end = node_at n to false in
    let names = names_of (new_events st n via) in
    let at_end : end ≢ node_of w.key = All-head Free end [] (All-right Free names (end ∷ []) free) in
    swapped-left nw st (effect st (Reroute n from to via)) n from to via s refl valid (reroute-valid nw st n from to via valid small h) w hw
    (names-apart s.made w (rw s.is_made at (All-left Free names (end ∷ []) free))) (λ e. at_end (sym s.is_next ∙ e)) (λ p arrival departure.
    override-stays st.overrides (events_between st n from to) p (rw s.is_mid arrival) (rw s.is_mid departure))
