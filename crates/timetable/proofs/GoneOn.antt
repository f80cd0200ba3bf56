-- What stands beside each departure at first, by the times that are stored.
use Rattle.state_laws.proofs.Words.{◌≡◌, ◌≢◌, ℕ, ◌+◌, ◌<◌, ◌≤◌, ◌⊎◌, true, false, cond, List, Option, Some, None, length, refl, sym, ◌∙◌, ap, subst, arith, inl, inr, cases_Bool, cases_eq, false_from_ne_true, All-contains, option_map, option_map_or, is_some, same_Some, Key, node_of, Network, State, Call, events, calls_of, node_at, event_time}
use Rattle.std.proofs.Common.{unwrap_or}
use Rattle.train_nodes.specs.Calls.{has_call, label_after}
use Rattle.train_nodes.specs.Times.{StoredTimes, time_of}
use Rattle.dep_order.specs.declared.departure.Departure.{Departure}
use Rattle.dep_order.specs.declared.departure.Onward.{Onward}
use Rattle.dep_order.specs.Departing.{departures_in_order, held}
use Rattle.dep_order.specs.Ordered.{KeepsRoom, Ordered, is_of_call, number_or_past, onward_at}
use Rattle.timetable.specs.Departures.{live_departures}
use Rattle.timetable.specs.Linking.{AreRenewed, HasNextTime, alighting_stop, with_stored}
use Rattle.timetable.specs.Onward.{IsDepartureOrder, IsOnward}
use Rattle.timetable.specs.Settled.{HasItsTime, IsSettled, live_keys}
use Rattle.propagate.proofs.{Ordered.live-keyed}
use Rattle.timetable.proofs.CarriedLemmas.{AreNumbered, GoesOn, goes-on, held-live, numbered-next}
use Rattle.timetable.proofs.HeldLemmas.{held-within, of-call, is-of-call}
use Rattle.timetable.proofs.LinkLemmas.{room-same, room-then}
use Rattle.timetable.proofs.LiveCalls.{call-event, key_at}

-- a number that stands beside a departure was given, or no departure ever has it
abbrev pub is_given : Ordered → Onward → Type 0
is_given o w = (w.next < o.used) ⊎ (w.next ≡ length o.entries)

-- what stands beside the departures of the first so many numbers is right, and nothing else changed
pub record HaveGoneOn (nw : Network) (st : State) (old : Ordered) (count : ℕ) (now : Ordered) : Type 0 where
  pub onward : (n : ℕ) (d : Departure) → n < count → held old.entries n ≡ Some d → IsOnward nw st old.entries d.key (onward_at now n)
  pub given : (n : ℕ) (d : Departure) → n < count → held old.entries n ≡ Some d → is_given old (onward_at now n)
  pub departures : now.departures ≡ old.departures
  pub entries : now.entries ≡ old.entries
  pub used : now.used ≡ old.used
  pub room : KeepsRoom old now

pub none-gone : (nw : Network) (st : State) (o : Ordered) → HaveGoneOn nw st o 0 o
none-gone nw st o = record { onward = λ n d less there. absurd (omega arith); given = λ n d less there. absurd (omega arith); departures = refl; entries = refl; used = refl; room = room-same o }

-- what is no departure is none
pub is-none : (o : Option Departure) → ((d : Departure) → o ≡ Some d → ⊥) → o ≡ None
is-none None h = refl
is-none (Some d) h = absurd (h d refl)

some-none : (d : Departure) → Some d ≡ None → ⊥
some-none d h = absurd (cc)

below-of : (n count : ℕ) → n < count + 1 → n ≢ count → n < count
below-of n count less differs = omega arith

pub given-within : (o : Ordered) (w : Onward) → o.used ≤ length o.entries → is_given o w → w.next ≤ length o.entries
given-within o w fits (inl less) = omega arith
given-within o w fits (inr same) = omega arith

-- so what stands beside the departure of a call is renewed
pub stored-one : (nw : Network) (st : State) (times : StoredTimes) (t l next time to : ℕ) (a b : Ordered) → label_after (calls_of st t) l ≡ Some next → time_of times (node_at t next false) ≡ Some time → to ≡ alighting_stop nw st t next
    → AreRenewed (λ d o. cond (is_of_call t l d) (record { arrival = time; to = to; next = number_or_past a.entries t next }) o) a b → AreRenewed (with_stored nw st times a.entries t l) a b
stored-one nw st times t l next time to a b after stored stop told = record {
  onwards = λ n d there. told.onwards n d there ∙ elim (cases_Bool (is_of_call t l d)) [
    | inl hit ↦ rw (after, hit, stored, stop) refl
    | inr miss ↦ rw (after, miss) refl
  ];
  departures = told.departures;
  entries = told.entries;
  used = told.used;
  room = told.room;
}

stored-other : (nw : Network) (st : State) (times : StoredTimes) (es : List (Option Departure)) (t l : ℕ) (d : Departure) (o : Onward) → is_of_call t l d ≡ false → with_stored nw st times es t l d o ≡ o
stored-other nw st times es t l d o miss = grind arith

-- one departure more
module _ (nw : Network) (st : State) (times : StoredTimes) (settled : IsSettled nw st times) (old : Ordered) (numbered : AreNumbered old) (departures : old.departures ≡ live_departures nw st) where
  -- a departure's train goes on
  pub going : (n : ℕ) (d : Departure) → held old.entries n ≡ Some d → GoesOn st d.key
  going n d there =
      let h = held-live nw st old numbered.all departures n d there in
      subst (GoesOn st) h.key (goes-on st settled.valid.trains h.event h.there h.live (ap (λ (k : Key). k.dep) h.key ∙ h.departs))

  -- and the time of the next arrival is stored
  pub next-time : (k : Key) (g : GoesOn st k) → time_of times (node_at k.train g.next.label false) ≡ Some (event_time nw st (key_at k.train false g.next))
  next-time k g =
      let e = call-event st k.train g.next.label false g.next g.next_found in
      All-contains (HasItsTime nw st times) (live_keys (events st)) (key_at k.train false g.next) settled.times (live-keyed (events st) (key_at k.train false g.next) (e.event, e.there, e.key, e.live ∙ g.arrives))

  pub has-call : (n : ℕ) (d : Departure) → held old.entries n ≡ Some d → has_call st d.key.train d.key.label ≡ true
  has-call n d there = ap is_some (going n d there).found

  pub has-next : (n : ℕ) (d : Departure) → held old.entries n ≡ Some d → HasNextTime st times d.key.train d.key.label
  has-next n d there = λ next after.
      let g = going n d there in
      let label : g.next.label ≡ next = same_Some g.next.label next (sym (ap (option_map (λ (c : Call). c.label)) g.after) ∙ after) in
      ap is_some (subst (λ next. time_of times (node_at d.key.train next false) ≡ Some (event_time nw st (key_at d.key.train false g.next))) label (next-time d.key g))

  -- what is stored is right
  stored-right : (n : ℕ) (d : Departure) → held old.entries n ≡ Some d → (o w : Onward) → w ≡ with_stored nw st times old.entries d.key.train d.key.label d o → IsOnward nw st old.entries d.key w × is_given old w
  stored-right n d there o w is =
      let g = going n d there in
      let after : label_after (calls_of st d.key.train) d.key.label ≡ Some g.next.label = ap (option_map (λ (c : Call). c.label)) g.after in
      let own = is-of-call d.key.train d.key.label d refl refl in
      let m = g.next.label in
      let all : Onward = record { arrival = unwrap_or (time_of times (node_at d.key.train m false)) 0; to = alighting_stop nw st d.key.train m; next = number_or_past old.entries d.key.train m } in
      let same : w ≡ all = is ∙ rw (after, own) refl in
      let number = numbered-next nw st settled.valid.trains old numbered departures d.key.train m g.next g.next_found in
      let fits = numbered.used in
      let given : is_given old w = subst (is_given old) (sym same) number.given in (
        record {
          label = m;
          is_next = after;
          call = g.next;
          found = g.next_found;
          arrives = g.arrives;
          arrival = ap (λ (w : Onward). w.arrival) same ∙ ap (λ o. unwrap_or o 0) (next-time d.key g);
          to = ap (λ (w : Onward). w.to) same ∙ ap (λ o. option_map_or (λ (c : Call). cond c.alight c.stop (length nw.stops)) o 0) g.next_found;
          next = ap (λ (w : Onward). option_map (λ (d : Departure). node_of d.key) (held old.entries w.next)) same ∙ number.next;
          within = given-within old w fits given;
        },
        given,
      )

  pub gone-more : (count : ℕ) (now next : Ordered) (d : Departure) → held now.entries count ≡ Some d → HaveGoneOn nw st old count now → AreRenewed (with_stored nw st times now.entries d.key.train d.key.label) now next → HaveGoneOn nw st old (count + 1) next
  gone-more count now next d at h one =
      let there : held old.entries count ≡ Some d = ap (λ es. held es count) (sym h.entries) ∙ at in
      let each : (n : ℕ) (e : Departure) → n < count + 1 → held old.entries n ≡ Some e → IsOnward nw st old.entries e.key (onward_at next n) × is_given old (onward_at next n) = λ n e less held_is.
      let becomes : onward_at next n ≡ with_stored nw st times old.entries d.key.train d.key.label e (onward_at now n) = one.onwards n e (ap (λ es. held es n) h.entries ∙ held_is) ∙ ap (λ es. with_stored nw st times es d.key.train d.key.label e (onward_at now n)) h.entries in
      elim (cases_eq n count) [
        | inl same ↦
            let is : d ≡ e = same_Some d e (sym there ∙ ap (held old.entries) (sym same) ∙ held_is) in
            stored-right n e held_is (onward_at now n) (onward_at next n) (becomes ∙ ap (λ (q : Departure). with_stored nw st times old.entries q.key.train q.key.label e (onward_at now n)) is)
        | inr differs ↦
            let miss : is_of_call d.key.train d.key.label e ≡ false = false_from_ne_true (is_of_call d.key.train d.key.label e) (λ hit. let p = of-call d.key.train d.key.label e hit in differs (numbered.calls n count e d held_is there p.0 p.1)) in
            let stays : onward_at next n ≡ onward_at now n = becomes ∙ stored-other nw st times old.entries d.key.train d.key.label e (onward_at now n) miss in
            let below : n < count = below-of n count less differs in
            (subst (IsOnward nw st old.entries e.key) (sym stays) (h.onward n e below held_is), subst (is_given old) (sym stays) (h.given n e below held_is))
      ] in
      record {
        onward = λ n e less held_is. (each n e less held_is).0;
        given = λ n e less held_is. (each n e less held_is).1;
        departures = one.departures ∙ h.departures;
        entries = one.entries ∙ h.entries;
        used = one.used ∙ h.used;
        room = room-then old now next h.room one.room;
      }

-- a number that no departure has
pub gone-past : (nw : Network) (st : State) (old : Ordered) (count : ℕ) (now : Ordered) → held now.entries count ≡ None → HaveGoneOn nw st old count now → HaveGoneOn nw st old (count + 1) now
gone-past nw st old count now none h =
    let below : (n : ℕ) (e : Departure) → n < count + 1 → held old.entries n ≡ Some e → n < count = λ n e less held_is.
    below-of n count less (λ same. some-none e (sym held_is ∙ ap (held old.entries) same ∙ ap (λ es. held es count) (sym h.entries) ∙ none)) in
    record { onward = λ n e less held_is. h.onward n e (below n e less held_is) held_is; given = λ n e less held_is. h.given n e (below n e less held_is) held_is; departures = h.departures; entries = h.entries; used = h.used; room = h.room }

-- at the end all is right
pub gone-all : (nw : Network) (st : State) (old : Ordered) (count : ℕ) (now : Ordered) → AreNumbered old → old.departures ≡ live_departures nw st → length old.entries ≤ count → HaveGoneOn nw st old count now → IsDepartureOrder nw st now
gone-all nw st old count now numbered departures past h =
    let back : (n : ℕ) (d : Departure) → held now.entries n ≡ Some d → held old.entries n ≡ Some d = λ n d there. ap (λ es. held es n) (sym h.entries) ∙ there in
    let less : (n : ℕ) (d : Departure) → held now.entries n ≡ Some d → n < count = λ n d there. omega (arith, held-within old.entries n d (back n d there)) in
    record {
      departures = h.departures ∙ departures;
      entries = h.departures ∙ numbered.all ∙ ap departures_in_order (sym h.entries);
      onward = λ n d there. subst (λ es. IsOnward nw st es d.key (onward_at now n)) (sym h.entries) (h.onward n d (less n d there) (back n d there));
      given = λ n d there. subst (λ es. ((onward_at now n).next < now.used) ⊎ ((onward_at now n).next ≡ length es)) (sym h.entries) (subst (λ used. ((onward_at now n).next < used) ⊎ ((onward_at now n).next ≡ length old.entries)) (sym h.used) (h.given n d (less n d there) (back n d there)));
    }
