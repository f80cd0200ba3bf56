-- After a message what stands beside each departure is right again.
use Rattle.state_laws.proofs.Words.{◌≡◌, ℕ, ◌<◌, ◌⊎◌, Bool, true, false, not, ◌||◌, cond, List, [], ◌∷◌, Option, Some, None, length, refl, sym, ◌∙◌, ap, subst, arith, inl, inr, cases_Bool, false_from_ne_true, and_parts, eqb-true, nat_eq, is_some, same_Some, All, All-contains, All-contains_itself, Contains, find, list_any, option_map, option_map_or, get_or}
use Rattle.std.specs.List.{filter}
use Rattle.state_laws.proofs.Words.{Key, Node, node_of, Network, State, Event, Call, Message, events, calls_of, is_call, is_live_key, node_at, IsTrain, event_time, is_before}
use Rattle.delay_model.proofs.Ends.{IsLiveAt}
use Rattle.state_laws.proofs.Changed.{Contains-map}
use Rattle.state_laws.proofs.Mappings.{contains-unmap}
use Rattle.state_laws.proofs.Values.{any-there}
use Rattle.delay_model.proofs.Lists.{Contains-filter}
use Rattle.std.proofs.lemmas.List.Sorted.{Contains-permutation, IsPermutation-sym}
use Rattle.train_nodes.specs.Calls.{call_named, has_call, label_after, label_before, values_of}
use Rattle.train_nodes.specs.Times.{StoredTimes}
use Rattle.propagate.proofs.{Named.any-from, Ordered.filtered, Ordered.keyed-live, Ordered.live-keyed, Sorted.in_order-moves, StepListed.another-is}
use Rattle.propagate.specs.LiveKeys.{has_another, key_order, live_keys, time_change_at}
use Rattle.propagate.specs.declared.time_changes.TimeChange.{TimeChange}
use Rattle.dep_order.specs.declared.departure.Departure.{Departure}
use Rattle.dep_order.specs.declared.departure.Onward.{Onward}
use Rattle.dep_order.specs.Departing.{departures_in_order, held}
use Rattle.dep_order.specs.Ordered.{Ordered, is_of_call, number_or_past, onward_at}
use Rattle.timetable.specs.Carried.{IsCarried, IsCarriedTo, IsHeldStill, IsNoted}
use Rattle.timetable.specs.Departures.{IsDeparture}
use Rattle.timetable.specs.Linking.{AreRenewed, CanBeLinked, HasItsCall, HasRejoined, alighting_stop, gone_on, is_relinked, with_arrival, with_arrivals, with_onward_renewed, with_shape_linked}
use Rattle.timetable.specs.Marking.{IsStateAfter}
use Rattle.timetable.specs.Moved.{time_changes_of}
use Rattle.timetable.specs.Onward.{IsDepartureOrder, IsOnward}
use Rattle.timetable.proofs.CarriedLemmas.{AreNumbered, GoesOn, goes-on, held-live, named-live, numbered-next}
use Rattle.timetable.proofs.GoneOn.{given-within, is_given}
use Rattle.timetable.proofs.HeldLemmas.{held-past, is-of-call}
use Rattle.timetable.proofs.Lines.{IsBesideLeft, IsCallLeft, IsNextCall, after-before, before-after, beside-left, came-from, is_rejoined, linked-by, live-before, next-call, next-found, own-line, rejoined-by}
use Rattle.timetable.proofs.LinkLemmas.{arrivals-none, arrivals-some, is_noted_at, renewed-then}
use Rattle.timetable.proofs.LiveCalls.{IsOfCall, call-event, event-call, is-live, key_at, live-is, named-label}
use Rattle.timetable.proofs.ShapeLinks.{before-of, noted-links, shape-arrival, shape-linked, shape-noted, shape-passed}

-- the events that get other times
module _ (nw : Network) (st : State) (times : StoredTimes) where
  -- a live event that gets another time, and the one that it gets
  pub record IsAnother (r : TimeChange) : Type 0 where
    pub live : IsLiveAt (events st) r.key
    pub another : has_another nw st times r.key ≡ true
    pub time : r.is ≡ event_time nw st r.key

  in-order-live : (k : Key) → Contains (key_order (events st)) k → IsLiveAt (events st) k
  in-order-live k h = keyed-live (events st) k (Contains-permutation (key_order (events st)) (live_keys (events st)) k (IsPermutation-sym (live_keys (events st)) (key_order (events st)) (in_order-moves is_before (live_keys (events st)))) h)

  pub changes-each : All IsAnother (time_changes_of nw st times)
  changes-each = λ i d l.
      let changes = time_changes_of nw st times in
      let r = get_or changes i d in
      let k = contains-unmap (time_change_at nw st times) (filter (has_another nw st times) (key_order (events st))) r (All-contains_itself changes i d l) in
      let f = filtered (has_another nw st times) (key_order (events st)) k.0 k.1 in
      subst IsAnother k.2 (record { live = in-order-live k.0 f.0; another = f.1; time = refl })

  pub changes-there : (k : Key) → IsLiveAt (events st) k → has_another nw st times k ≡ true → Contains (time_changes_of nw st times) (time_change_at nw st times k)
  changes-there k live another =
      let keys = live_keys (events st) in
      Contains-map (time_change_at nw st times) (filter (has_another nw st times) (key_order (events st))) k
      (Contains-filter (has_another nw st times) (key_order (events st)) k (Contains-permutation keys (key_order (events st)) k (in_order-moves is_before keys) (live-keyed (events st) k live)) another)

-- the calls of events that get other times are there
pub changes-called : (nw : Network) (st : State) (times : StoredTimes) → All IsTrain st.trains → All (HasItsCall st) (time_changes_of nw st times)
changes-called nw st times trains = λ i d l.
    let at = (changes-each nw st times i d l).live in
    let e = event-call st trains at.0 at.1 in
    subst (λ (k : Key). has_call st k.train k.label ≡ true) at.2 (ap is_some e.found)

mapped-of : {X Y : Type 0} (f : X → Y) (o : Option X) (y : Y) → option_map f o ≡ Some y → (x : X) × (o ≡ Some x) × (f x ≡ y)
mapped-of f None y h = absurd (cc)
mapped-of f (Some x) y h = (x, refl, same_Some (f x) y h)

name-by : (o : Option Departure) (k : Key) → option_map (λ (e : Departure). e.key) o ≡ Some k → option_map (λ (e : Departure). node_of e.key) o ≡ Some (node_of k)
name-by None k h = absurd (cc)
name-by (Some e) k h = ap (option_map node_of) h

none-by : (o : Option Departure) → ((e : Departure) → o ≡ Some e → ⊥) → o ≡ None
none-by None h = refl
none-by (Some e) h = absurd (h e refl)

differ-live : (a b : Bool) → a ≡ true → b ≡ false → a ≡ b → ⊥
differ-live a b h k e = absurd (cc)

-- a name where nothing is live is nobody's
cond-some : (b : Bool) (n m : Node) → Some n ≡ cond b (Some m) None → (b ≡ true) × (n ≡ m)
cond-some true n m h = (refl, same_Some n m h)
cond-some false n m h = absurd (cc)

stored-same : (a b : Bool) → not a || not b ≡ false → (a ≡ true) × (b ≡ true)
stored-same a b h = grind arith

name-of : (k : Key) → k.dep ≡ true → node_of k ≡ node_at k.train k.label true
name-of k departs = cc

left-stop : (a b : Call) (past : ℕ) → IsCallLeft a b → cond b.alight b.stop past ≡ cond a.alight a.stop past
left-stop a b past h = rw (h.alight, h.stop) refl

noted-here : (st : State) (d : Departure) (b : Call) → label_before (calls_of st d.key.train) b.label ≡ Some d.key.label → option_map_or (λ before. is_of_call d.key.train before d) (label_before (calls_of st d.key.train) b.label) false ≡ true
noted-here st d b before = rw before (is-of-call d.key.train d.key.label d refl refl)

-- the call of the event of a key
record IsOfCallOf (st : State) (k : Key) : Type 0 where
  call : Call
  found : call_named st k.train k.label ≡ Some call
  key : k ≡ key_at k.train k.dep call

of-event : (st : State) {v : Event} → IsOfCall st v → IsOfCallOf st v.key
of-event st h = record { call = h.call; found = h.found; key = h.key }

-- so of that of a live arrival
record IsLiveCallOf (st : State) (k : Key) : Type 0 where
  call : Call
  found : call_named st k.train k.label ≡ Some call
  key : k ≡ key_at k.train k.dep call
  live : (values_of k.dep call).live ≡ true

of-live : (st : State) (k : Key) (at : IsLiveAt (events st) k) → IsOfCall st at.0 → IsLiveCallOf st k
of-live st k at h = subst (IsLiveCallOf st) at.2 (record { call = h.call; found = h.found; key = h.key; live = sym h.live ∙ at.3 })

not-true : (b : Bool) → not b ≡ true → b ≡ false
not-true true h = absurd (cc)
not-true false h = refl

change-links : (st : State) (r : TimeChange) (d : Departure) (o : Onward) → ((cond r.key.dep o (with_arrival st r.key.train r.key.label r.is d o)).to ≡ o.to) × ((cond r.key.dep o (with_arrival st r.key.train r.key.label r.is d o)).next ≡ o.next)
change-links st r d o = elim (cases_Bool r.key.dep) [ inl leaves ↦ rw leaves (refl, refl) | inr comes ↦ rw comes (noted-links st r.key.train r.key.label r.is d o) ]

module _ (nw : Network) (old new : State) (m : Message) (times : StoredTimes) (before now : Ordered) (c : IsCarried nw old new m times before now) (numbered : AreNumbered now) where
  beside : (t l : ℕ) (d : Call) → is_relinked new m t l ≡ false → IsNextCall (calls_of new t) l d → IsBesideLeft (calls_of old t) (calls_of new t) l d
  beside t l d =
      (subst (λ s. All IsTrain s.trains → is_relinked s m t l ≡ false → IsNextCall (calls_of s t) l d → IsBesideLeft (calls_of old t) (calls_of s t) l d) (sym c.step.made) (λ now. beside-left nw old m c.step.valid.trains now c.step.accepted t l d)) c.prepared.valid.trains

  came : (t l k : ℕ) → label_after (calls_of new t) l ≡ Some k → has_call old t k ≡ true → (label_after (calls_of old t) l ≡ Some k) ⊎ (is_rejoined m t k ≡ true)
  came t l k = subst (λ s. label_after (calls_of s t) l ≡ Some k → has_call old t k ≡ true → (label_after (calls_of old t) l ≡ Some k) ⊎ (is_rejoined m t k ≡ true)) (sym c.step.made) (came-from nw old m c.step.valid.trains c.step.accepted t l k)

  came-stays : (t l k : ℕ) → label_after (calls_of new t) l ≡ Some k → has_call old t k ≡ true → is_rejoined m t k ≡ false → label_after (calls_of old t) l ≡ Some k
  came-stays t l k next there apart =
      elim (came t l k next there) [
        | inl stays ↦ stays
        | inr joins ↦ absurd (differ-live (is_rejoined m t k) (is_rejoined m t k) joins apart refl)
      ]

  is-now : (n : ℕ) (d : Departure) → held now.entries n ≡ Some d → IsDeparture nw new d
  is-now n d there = held-live nw new now numbered.all c.departures n d there

  was-held : (n : ℕ) (d : Departure) → held before.entries n ≡ Some d → IsDeparture nw old d
  was-held n d there = held-live nw old before c.order_before.entries c.order_before.departures n d there

  goes : (n : ℕ) (d : Departure) → held now.entries n ≡ Some d → GoesOn new d.key
  goes n d there =
      let h = is-now n d there in
      subst (GoesOn new) h.key (goes-on new c.prepared.valid.trains h.event h.there h.live (ap (λ (k : Key). k.dep) h.key ∙ h.departs))

  -- a departure that was live has its number still
  still : (n : ℕ) (d : Departure) → held now.entries n ≡ Some d → is_live_key (events old) d.key ≡ true → IsHeldStill before now n d
  still n d there live =
      elim (c.numbers.kept n d there) [
        | inl kept ↦ kept
        | inr put ↦ absurd (differ-live (is_live_key (events old) d.key) (is_live_key (events old) d.key) live put.new refl)
      ]

  was-onward : (n : ℕ) (d : Departure) → (h : IsHeldStill before now n d) → IsOnward nw old before.entries d.key (onward_at before n)
  was-onward n d h = subst (λ k. IsOnward nw old before.entries k (onward_at before n)) h.key (c.order_before.onward n h.departure h.held_before)

  given-before : (n : ℕ) (d : Departure) → IsHeldStill before now n d → is_given before (onward_at before n)
  given-before n d h = c.order_before.given n h.departure h.held_before

  -- the number of the departure after an arrival is that still
  next-still : (x t l : ℕ) (a b : Call) → call_named new t l ≡ Some b → (b.departure.live ≡ true → a.departure.live ≡ true) → option_map (λ (d : Departure). node_of d.key) (held before.entries x) ≡ cond a.departure.live (Some (node_at t l true)) None → is_given before (record { arrival = 0; to = 0; next = x }) → option_map (λ (d : Departure). node_of d.key) (held now.entries x) ≡ cond b.departure.live (Some (node_at t l true)) None
  next-still x t l a b found departs was given =
      elim (cases_Bool b.departure.live) [
        | inl live ↦
            let w = mapped-of (λ (d : Departure). node_of d.key) (held before.entries x) (node_at t l true) (was ∙ ap (λ b. cond b (Some (node_at t l true)) None) (departs live)) in
            let e = call-event new t l true b found in
            let v = was-held x w.0 w.1 in
            let name : node_of e.event.key ≡ node_of v.event.key = ap node_of e.key ∙ ap (λ l. node_at t l true) (named-label new t l b found) ∙ sym w.2 ∙ ap node_of (sym v.key) in
            let key : e.event.key ≡ w.0.key = c.prepared.names v.event e.event v.there e.there (e.live ∙ live) name ∙ v.key in
            let stays = c.numbers.stays x w.0 w.1 (is-live (events new) w.0.key (e.event, e.there, key, e.live ∙ live)) in
            rw live (name-by (held now.entries x) w.0.key stays ∙ ap Some w.2)
        | inr dead ↦ rw dead (ap (option_map (λ (d : Departure). node_of d.key)) (none-by (held now.entries x) (λ e there.
            elim (c.numbers.kept x e there) [
              | inl kept ↦
                  let p = cond-some a.departure.live (node_of kept.departure.key) (node_at t l true) (ap (option_map (λ (d : Departure). node_of d.key)) (sym kept.held_before) ∙ was) in
                  let h = is-now x e there in
                  differ-live h.event.live b.departure.live h.live dead (named-live new c.prepared.valid.trains h.event h.there t l true b (ap node_of (h.key ∙ sym kept.key) ∙ p.1) found)
              | inr put ↦ elim given [
                | inl less ↦ absurd (omega (arith, put.fresh))
                | inr past ↦ let none = held-past now.entries x (past ∙ sym c.numbers.lengths) in absurd (cc)
              ]
            ])))
      ]

  -- what stands beside a departure leads on from its call to the next
  record IsLinked (t : ℕ) (b : Call) (w : Onward) : Type 0 where
    to : w.to ≡ cond b.alight b.stop (length nw.stops)
    next : option_map (λ (d : Departure). node_of d.key) (held now.entries w.next) ≡ cond b.departure.live (Some (node_at t b.label true)) None
    given : is_given now w

  given-still : (w : Onward) → is_given before w → is_given now w
  given-still w (inl less) = inl (omega (arith, c.numbers.used))
  given-still w (inr past) = inr (past ∙ sym c.numbers.lengths)

  stop-named : (t l : ℕ) (b : Call) → call_named new t l ≡ Some b → alighting_stop nw new t l ≡ cond b.alight b.stop (length nw.stops)
  stop-named t l b found = ap (λ o. option_map_or (λ (c : Call). cond c.alight c.stop (length nw.stops)) o 0) found

  -- so it is where its call is linked
  linked-anew : (noted : Option ℕ) (n : ℕ) (d : Departure) (there : held now.entries n ≡ Some d) → is_relinked new m d.key.train d.key.label ≡ true → IsLinked d.key.train (goes n d there).next (with_shape_linked nw new now.entries m noted d (onward_at now n))
  linked-anew noted n d there hit =
      let g = goes n d there in
      let t = d.key.train in
      let l = g.next.label in
      let o = onward_at now n in
      let links = shape-linked nw new now.entries noted d o m hit in
      let after : label_after (calls_of new t) d.key.label ≡ Some l = ap (option_map (λ (c : Call). c.label)) g.after in
      let on : gone_on nw new now.entries t d.key.label o ≡ record o { to = alighting_stop nw new t l; next = number_or_past now.entries t l } = rw after refl in
      let to = links.0 ∙ ap (λ (w : Onward). w.to) on in
      let next = links.1 ∙ ap (λ (w : Onward). w.next) on in
      let number = numbered-next nw new c.prepared.valid.trains now numbered c.departures t l g.next g.next_found in
      record {
        to = to ∙ stop-named t l g.next g.next_found;
        next = ap (λ x. option_map (λ (d : Departure). node_of d.key) (held now.entries x)) next ∙ number.next;
        given = subst (λ x. (x < now.used) ⊎ (x ≡ length now.entries)) (sym next) number.given;
      }

  -- and where it is not
  linked-still : (n : ℕ) (d : Departure) (there : held now.entries n ≡ Some d) → is_relinked new m d.key.train d.key.label ≡ false → IsLinked d.key.train (goes n d there).next (onward_at now n)
  linked-still n d there miss =
      let g = goes n d there in
      let t = d.key.train in
      let l = g.next.label in
      let line = beside t d.key.label g.next miss g.after in
      let h = is-now n d there in
      let a = line.calls d.key.label g.call (inl refl) g.found in
      let alive : g.call.departure.live ≡ true = sym (named-live new c.prepared.valid.trains h.event h.there t d.key.label true g.call (ap node_of h.key ∙ name-of d.key h.departs) g.found) ∙ h.live in
      let v = call-event old t d.key.label true a.0 a.1 in
      let name : node_of h.event.key ≡ node_of v.event.key = ap node_of h.key ∙ name-of d.key h.departs ∙ sym (ap node_of v.key ∙ ap (λ l. node_at t l true) (named-label old t d.key.label a.0 a.1)) in
      let key : v.event.key ≡ d.key = sym (c.prepared.names v.event h.event v.there h.there h.live name) ∙ h.key in
      let kept = still n d there (is-live (events old) d.key (v.event, v.there, key, v.live ∙ a.2.departs alive)) in
      let was = was-onward n d kept in
      let label : was.label ≡ l = same_Some was.label l (sym was.is_next ∙ line.after) in
      let b = line.calls l g.next (inr refl) g.next_found in
      let call : was.call ≡ b.0 = same_Some was.call b.0 (sym was.found ∙ ap (call_named old t) label ∙ b.1) in
      let o = onward_at before n in
      let to : o.to ≡ cond g.next.alight g.next.stop (length nw.stops) = was.to ∙ ap (λ (c : Call). cond c.alight c.stop (length nw.stops)) call ∙ sym (left-stop b.0 g.next (length nw.stops) b.2) in
      let next = was.next ∙ ap (λ (c : Call). cond c.departure.live (Some (node_at t was.label true)) None) call ∙ ap (λ l. cond b.0.departure.live (Some (node_at t l true)) None) label in
      let given = given-before n d kept in
      let same = kept.onward in
      record {
        to = ap (λ (w : Onward). w.to) same ∙ to;
        next = ap (λ (w : Onward). option_map (λ (d : Departure). node_of d.key) (held now.entries w.next)) same ∙ next-still o.next t l b.0 g.next g.next_found b.2.departs next given;
        given = subst (is_given now) (sym same) (given-still o given);
      }

  -- which two links tell
  linked-same : (t : ℕ) (b : Call) (o w : Onward) → (w.to ≡ o.to) × (w.next ≡ o.next) → IsLinked t b o → IsLinked t b w
  linked-same t b o w same h = record {
    to = same.0 ∙ h.to;
    next = ap (λ x. option_map (λ (d : Departure). node_of d.key) (held now.entries x)) same.1 ∙ h.next;
    given = subst (λ x. (x < now.used) ⊎ (x ≡ length now.entries)) (sym same.1) h.given;
  }

  links : (noted : Option ℕ) (n : ℕ) (d : Departure) (there : held now.entries n ≡ Some d) → IsLinked d.key.train (goes n d there).next (with_shape_linked nw new now.entries m noted d (onward_at now n))
  links noted n d there =
      elim (cases_Bool (is_relinked new m d.key.train d.key.label)) [
        | inl hit ↦ linked-anew noted n d there hit
        | inr miss ↦ linked-same d.key.train (goes n d there).next (onward_at now n) (with_shape_linked nw new now.entries m noted d (onward_at now n)) (shape-passed nw new now.entries noted d (onward_at now n) m miss) (linked-still n d there miss)
      ]

  -- the arrival that a change notes beside a departure is the next one
  noted-next : (n : ℕ) (d : Departure) (there : held now.entries n ≡ Some d) (r : TimeChange) → IsLiveAt (events new) r.key → is_noted_at new d r ≡ true → r.key ≡ key_at d.key.train false (goes n d there).next
  noted-next n d there r live noted =
      let g = goes n d there in
      let p = and_parts (not r.key.dep) (option_map_or (λ before. is_of_call r.key.train before d) (label_before (calls_of new r.key.train) r.key.label) false) noted in
      let b = before-of d r.key.train (label_before (calls_of new r.key.train) r.key.label) p.1 in
      let at : IsOfCallOf new r.key = subst (IsOfCallOf new) live.2 (of-event new (event-call new c.prepared.valid.trains live.0 live.1)) in
      let own = own-line new c.prepared.valid.trains r.key.train in
      let label = named-label new r.key.train r.key.label at.call at.found in
      let after : IsNextCall (calls_of new r.key.train) d.key.label at.call = before-after (calls_of new r.key.train) d.key.label at.call own.0 (subst (λ l. find (is_call l) (calls_of new r.key.train) ≡ Some at.call) (sym label) at.found) (ap (label_before (calls_of new r.key.train)) label ∙ b.1) in
      let same : g.next ≡ at.call = same_Some g.next at.call (sym g.after ∙ subst (λ t. IsNextCall (calls_of new t) d.key.label at.call) (sym b.0) after) in
      at.key ∙ ap (λ dep. key_at r.key.train dep at.call) (not-true r.key.dep p.0) ∙ ap (λ t. key_at t false at.call) (sym b.0) ∙ ap (key_at d.key.train false) (sym same)

  -- the departure of a call whose next arrival was live was live with it, and had its number
  kept-by : (n : ℕ) (d : Departure) → held now.entries n ≡ Some d → (a : Call) → IsNextCall (calls_of old d.key.train) d.key.label a → a.arrival.live ≡ true → IsHeldStill before now n d
  kept-by n d there a next live =
      let line = own-line old c.step.valid.trains d.key.train in
      let b = live-before false (calls_of old d.key.train) d.key.label a line.1 line.0 next live in
      let e = call-event old d.key.train d.key.label true b.0 b.1 in
      let h = is-now n d there in
      let name : node_of h.event.key ≡ node_of e.event.key = ap node_of h.key ∙ name-of d.key h.departs ∙ sym (ap node_of e.key ∙ ap (λ l. node_at d.key.train l true) (named-label old d.key.train d.key.label b.0 b.1)) in
      let key : e.event.key ≡ d.key = sym (c.prepared.names e.event h.event e.there h.there h.live name) ∙ h.key in
      still n d there (is-live (events old) d.key (e.event, e.there, key, e.live ∙ b.2))

  -- and the time of that arrival stands beside it still
  arrival-kept : (n : ℕ) (d : Departure) → held now.entries n ≡ Some d → (l : ℕ) (a : Call) → label_after (calls_of old d.key.train) d.key.label ≡ Some l → call_named old d.key.train l ≡ Some a → a.arrival.live ≡ true → (onward_at now n).arrival ≡ event_time nw old (key_at d.key.train false a)
  arrival-kept n d there l a after found live =
      let line = own-line old c.step.valid.trains d.key.train in
      let next = next-call (calls_of old d.key.train) d.key.label l after in
      let own = next-found (calls_of old d.key.train) d.key.label next.0 line.0 next.1 in
      let same : next.0 ≡ a = same_Some next.0 a (sym own ∙ ap (call_named old d.key.train) next.2 ∙ found) in
      let kept = kept-by n d there a (next.1 ∙ ap Some same) live in
      let onward = was-onward n d kept in
      let label : onward.label ≡ l = same_Some onward.label l (sym onward.is_next ∙ after) in
      let call : onward.call ≡ a = same_Some onward.call a (sym onward.found ∙ ap (call_named old d.key.train) label ∙ found) in
      ap (λ (w : Onward). w.arrival) kept.onward ∙ onward.arrival ∙ ap (λ c. event_time nw old (key_at d.key.train false c)) call

  -- an arrival for which no other time is stored was live, at the same time
  time-kept : (k : Key) → IsLiveAt (events new) k → has_another nw new times k ≡ false → (IsLiveCallOf old k) × (event_time nw old k ≡ event_time nw new k)
  time-kept k at none =
      let p = stored-same (is_live_key (events old) k) (nat_eq (event_time nw old k) (event_time nw new k)) (sym (another-is nw old new c.prepared.valid times c.prepared.stored k at) ∙ none) in
      let v = live-is (events old) k p.0 in
      (of-live old k (v.0, v.1, v.2, v.3) (event-call old c.step.valid.trains v.0 v.1), eqb-true (event_time nw old k) (event_time nw new k) p.1)

  -- where no other time is stored for the next arrival, what stands beside the departure is its time
  arrives-still : (noted : Option ℕ) → IsNoted nw old m noted → HasRejoined new m → (n : ℕ) (d : Departure) → held now.entries n ≡ Some d → (b : Call) → IsNextCall (calls_of new d.key.train) d.key.label b → IsLiveAt (events new) (key_at d.key.train false b) → has_another nw new times (key_at d.key.train false b) ≡ false → (with_shape_linked nw new now.entries m noted d (onward_at now n)).arrival ≡ event_time nw new (key_at d.key.train false b)
  arrives-still noted is_noted joined n d there b next at none =
      let kept = time-kept (key_at d.key.train false b) at none in
      let own = own-line new c.prepared.valid.trains d.key.train in
      let was = kept.0 in
      elim (cases_Bool (is_rejoined m d.key.train b.label)) [
        | inl joins ↦ shape-noted nw new now.entries noted d (onward_at now n) old m d.key.train b.label was.call joins (after-before (calls_of new d.key.train) d.key.label b own.0 next) refl is_noted was.found ∙ ap (event_time nw old) (sym was.key) ∙ kept.1
        | inr apart ↦
            let after = came-stays d.key.train d.key.label b.label (ap (option_map (λ (c : Call). c.label)) next) (ap is_some was.found) apart in
            shape-arrival nw new now.entries noted d (onward_at now n) m b c.prepared.valid.trains next joined apart
            ∙ arrival-kept n d there b.label was.call after was.found was.live ∙ ap (event_time nw old) (sym was.key) ∙ kept.1
      ]

  arrives-by : (noted : Option ℕ) → IsNoted nw old m noted → HasRejoined new m → (n : ℕ) (d : Departure) → held now.entries n ≡ Some d → (b : Call) → ((r : TimeChange) → IsLiveAt (events new) r.key → is_noted_at new d r ≡ true → r.key ≡ key_at d.key.train false b) → IsNextCall (calls_of new d.key.train) d.key.label b → call_named new d.key.train b.label ≡ Some b → b.arrival.live ≡ true → (with_onward_renewed nw new now.entries m noted (time_changes_of nw new times) d (onward_at now n)).arrival ≡ event_time nw new (key_at d.key.train false b)
  arrives-by noted is_noted joined n d there b only next found live =
      let k = key_at d.key.train false b in
      let changes = time_changes_of nw new times in
      let o = with_shape_linked nw new now.entries m noted d (onward_at now n) in
      let e = call-event new d.key.train b.label false b found in
      let at : IsLiveAt (events new) k = (e.event, e.there, e.key, e.live ∙ live) in
      elim (cases_Bool (has_another nw new times k)) [
        | inl another ↦
            let own = own-line new c.prepared.valid.trains d.key.train in
            let hit : is_noted_at new d (time_change_at nw new times k) ≡ true = noted-here new d b (after-before (calls_of new d.key.train) d.key.label b own.0 next) in
            let each : All (λ r. is_noted_at new d r ≡ true → r.is ≡ event_time nw new k) changes = λ i r l noted_is. let a = changes-each nw new times i r l in a.time ∙ ap (event_time nw new) (only (get_or changes i r) a.live noted_is) in
            ap (λ (w : Onward). w.arrival) (arrivals-some new changes d o (event_time nw new k) each (any-from (is_noted_at new d) changes (time_change_at nw new times k) (changes-there nw new times k at another) hit))
        | inr none ↦
            let apart : list_any (is_noted_at new d) changes ≡ false = false_from_ne_true (list_any (is_noted_at new d) changes) (λ any.
            let r = any-there (is_noted_at new d) changes any in
            let a = All-contains (IsAnother nw new times) changes r.0 (changes-each nw new times) r.1 in
            differ-live (has_another nw new times r.0.key) (has_another nw new times k) a.another none (ap (has_another nw new times) (only r.0 a.live r.2))) in
            ap (λ (w : Onward). w.arrival) (arrivals-none new changes d o apart) ∙ arrives-still noted is_noted joined n d there b next at none
      ]

  -- after all arrivals are noted it is its time in any case
  arrives : (noted : Option ℕ) → IsNoted nw old m noted → HasRejoined new m → (n : ℕ) (d : Departure) (there : held now.entries n ≡ Some d) → (with_onward_renewed nw new now.entries m noted (time_changes_of nw new times) d (onward_at now n)).arrival ≡ event_time nw new (key_at d.key.train false (goes n d there).next)
  arrives noted is_noted joined n d there = arrives-by noted is_noted joined n d there (goes n d there).next (noted-next n d there) (goes n d there).after (goes n d there).next_found (goes n d there).arrives

  arrivals-links : (st : State) (rs : List TimeChange) (d : Departure) (o : Onward) → ((with_arrivals st rs d o).to ≡ o.to) × ((with_arrivals st rs d o).next ≡ o.next)
  arrivals-links st [] d o = (refl, refl)
  arrivals-links st (r ∷ rs) d o =
      let rest = arrivals-links st rs d (cond r.key.dep o (with_arrival st r.key.train r.key.label r.is d o)) in
      let one = change-links st r d o in
      (rest.0 ∙ one.0, rest.1 ∙ one.1)

  -- so what stands beside a departure is right
  one-right : (noted : Option ℕ) → IsNoted nw old m noted → HasRejoined new m → (n : ℕ) (d : Departure) (there : held now.entries n ≡ Some d) (w : Onward) → w ≡ with_onward_renewed nw new now.entries m noted (time_changes_of nw new times) d (onward_at now n) → IsOnward nw new now.entries d.key w × is_given now w
  one-right noted is_noted joined n d there w is =
      let g = goes n d there in
      let linked = links noted n d there in
      let rest = arrivals-links new (time_changes_of nw new times) d (with_shape_linked nw new now.entries m noted d (onward_at now n)) in
      let to = ap (λ (w : Onward). w.to) is ∙ rest.0 in
      let next = ap (λ (w : Onward). w.next) is ∙ rest.1 in
      let given : is_given now w = subst (λ x. (x < now.used) ⊎ (x ≡ length now.entries)) (sym next) linked.given in (
        record {
          label = g.next.label;
          is_next = ap (option_map (λ (c : Call). c.label)) g.after;
          call = g.next;
          found = g.next_found;
          arrives = g.arrives;
          arrival = ap (λ (w : Onward). w.arrival) is ∙ arrives noted is_noted joined n d there;
          to = to ∙ linked.to;
          next = ap (λ x. option_map (λ (d : Departure). node_of d.key) (held now.entries x)) next ∙ linked.next;
          within = given-within now w numbered.used given;
        },
        given,
      )

  pub all-right : (noted : Option ℕ) → IsNoted nw old m noted → HasRejoined new m → (after : Ordered) → AreRenewed (with_onward_renewed nw new now.entries m noted (time_changes_of nw new times)) now after → IsDepartureOrder nw new after
  all-right noted is_noted joined after h =
      let back : (n : ℕ) (d : Departure) → held after.entries n ≡ Some d → held now.entries n ≡ Some d = λ n d there. ap (λ es. held es n) (sym h.entries) ∙ there in
      let right : (n : ℕ) (d : Departure) → held after.entries n ≡ Some d → IsOnward nw new now.entries d.key (onward_at after n) × is_given now (onward_at after n) = λ n d there. one-right noted is_noted joined n d (back n d there) (onward_at after n) (h.onwards n d (back n d there)) in
      record {
        departures = h.departures ∙ c.departures;
        entries = h.departures ∙ numbered.all ∙ ap departures_in_order (sym h.entries);
        onward = λ n d there. subst (λ es. IsOnward nw new es d.key (onward_at after n)) (sym h.entries) (right n d there).0;
        given = λ n d there. subst (λ es. ((onward_at after n).next < after.used) ⊎ ((onward_at after n).next ≡ length es)) (sym h.entries) (subst (λ used. ((onward_at after n).next < used) ⊎ ((onward_at after n).next ≡ length now.entries)) (sym h.used) (right n d there).1);
      }

-- the call to which new calls lead is there afterwards
pub rejoined-there : (nw : Network) (old new : State) (m : Message) → IsStateAfter nw old new m → HasRejoined new m
rejoined-there nw old new m step = subst (λ s. HasRejoined s m) (sym step.made) (rejoined-by nw old m step.accepted)

-- and what it makes can be linked
pub linked-there : (nw : Network) (old new : State) (m : Message) → IsStateAfter nw old new m → CanBeLinked new m
linked-there nw old new m step = subst (λ s. CanBeLinked s m) (sym step.made) (linked-by nw old m step.accepted)

-- so it is after both steps
pub renewed-right : (nw : Network) (new : State) (m : Message) (noted : Option ℕ) (changes : List TimeChange) (now : Ordered) → IsCarriedTo nw new m noted changes now → AreNumbered now → (linked after : Ordered) → AreRenewed (with_shape_linked nw new now.entries m noted) now linked → AreRenewed (with_arrivals new changes) linked after → IsDepartureOrder nw new after
renewed-right nw new m noted changes now h numbered linked after one two =
    let all = renewed-then (with_shape_linked nw new now.entries m noted) (with_arrivals new changes) (with_onward_renewed nw new now.entries m noted changes) now linked after (λ d o. refl) one two in
    all-right nw h.old new m h.times h.before now h.carried numbered noted h.is_noted (rejoined-there nw h.old new m h.carried.step) after (subst (λ changes. AreRenewed (with_onward_renewed nw new now.entries m noted changes) now after) h.changes_are all)
