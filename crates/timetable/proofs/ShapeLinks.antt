-- What stands beside a departure once the calls of a train are linked and the time of an arrival noted.
use Rattle.state_laws.proofs.Words.{◌≡◌, ◌≢◌, ℕ, true, false, List, Option, Some, None, refl, sym, ◌∙◌, ap, subst, arith, false_from_ne_true, and_from, and_parts, eqb-true, eq-eqb, nat_eq, is_some, same_Some, All, find, option_map, option_map_or, length}
use Rattle.state_laws.proofs.Words.{Network, State, Call, Message, Reroute, Extra, calls_of, is_call, IsTrain, event_time}
use Rattle.train_nodes.specs.Calls.{call_named, has_call, label_before}
use Rattle.dep_order.specs.declared.departure.Departure.{Departure}
use Rattle.dep_order.specs.declared.departure.Onward.{Onward}
use Rattle.dep_order.specs.Ordered.{is_of_call}
use Rattle.timetable.specs.Carried.{IsNoted}
use Rattle.timetable.specs.Linking.{HasRejoined, gone_on, is_relinked, used_labels, with_arrival, with_made_linked, with_shape_linked}
use Rattle.timetable.proofs.HeldLemmas.{is-of-call, of-call}
use Rattle.timetable.proofs.Lines.{IsNextCall, before-after, is_rejoined, own-line}
use Rattle.timetable.proofs.LinkLemmas.{labels-arrival, labels-linked, labels-passed, made-arrival, made-linked, made-passed}
use Rattle.timetable.proofs.LiveCalls.{key_at, named-label}

-- a noted arrival leaves the links
pub noted-links : (st : State) (t l time : ℕ) (d : Departure) (o : Onward) → ((with_arrival st t l time d o).to ≡ o.to) × ((with_arrival st t l time d o).next ≡ o.next)
noted-links st t l time d o = grind arith

differ-by : (a b : ℕ) → nat_eq a b ≡ false → a ≢ b
differ-by a b h e = let same = eq-eqb a b e in absurd (cc)

arrival-missed : (st : State) (t l time : ℕ) (d : Departure) (o : Onward) → option_map_or (λ before. is_of_call t before d) (label_before (calls_of st t) l) false ≡ false → with_arrival st t l time d o ≡ o
arrival-missed st t l time d o miss = grind arith

pub before-of : (d : Departure) (t : ℕ) (q : Option ℕ) → option_map_or (λ before. is_of_call t before d) q false ≡ true → (d.key.train ≡ t) × (q ≡ Some d.key.label)
before-of d t None hit = absurd (cc)
before-of d t (Some b) hit = let p = of-call t b d hit in (p.0, ap Some (sym p.1))

some-of : {X : Type 0} (o : Option X) → is_some o ≡ true → (x : X) × (o ≡ Some x)
some-of None h = absurd (cc)
some-of (Some x) h = (x, refl)

named-by : (st : State) (t l : ℕ) → has_call st t l ≡ true → (c : Call) × (call_named st t l ≡ Some c)
named-by st t l h = some-of (call_named st t l) h

module _ (nw : Network) (st : State) (es : List (Option Departure)) (noted : Option ℕ) (d : Departure) (o : Onward) where
  rejoined-links : (t to : ℕ) (q : Option ℕ) (linked : Onward) → let w = option_map_or (λ time. with_arrival st t to time d linked) q linked in (w.to ≡ linked.to) × (w.next ≡ linked.next)
  rejoined-links t to None linked = (refl, refl)
  rejoined-links t to (Some time) linked = noted-links st t to time d linked

  -- the departures of new calls are linked, and that before them
  pub shape-linked : (m : Message) → is_relinked st m d.key.train d.key.label ≡ true → let w = with_shape_linked nw st es m noted d o in let linked = gone_on nw st es d.key.train d.key.label o in (w.to ≡ linked.to) × (w.next ≡ linked.next)
  shape-linked (Reroute n from to via) hit =
      let all = made-linked nw st es n from (length via) d o hit in
      let links = rejoined-links n to noted (with_made_linked nw st es n from (length via) d o) in
      (links.0 ∙ ap (λ (w : Onward). w.to) all, links.1 ∙ ap (λ (w : Onward). w.next) all)
  shape-linked (Extra n day route cs) hit =
      let all = labels-linked nw st es n d o hit in (ap (λ (w : Onward). w.to) all, ap (λ (w : Onward). w.next) all)
  shape-linked m hit = absurd (cc)

  -- all others stay
  pub shape-passed : (m : Message) → is_relinked st m d.key.train d.key.label ≡ false → let w = with_shape_linked nw st es m noted d o in (w.to ≡ o.to) × (w.next ≡ o.next)
  shape-passed (Reroute n from to via) miss =
      let all = made-passed nw st es n from (length via) d o miss in
      let links = rejoined-links n to noted (with_made_linked nw st es n from (length via) d o) in
      (links.0 ∙ ap (λ (w : Onward). w.to) all, links.1 ∙ ap (λ (w : Onward). w.next) all)
  shape-passed (Extra n day route cs) miss =
      let all = labels-passed nw st es n d o miss in (ap (λ (w : Onward). w.to) all, ap (λ (w : Onward). w.next) all)
  shape-passed m miss = (refl, refl)

  -- the time that was noted stands before the arrival to which new calls lead
  pub shape-noted : (old : State) (m : Message) (t l : ℕ) (c : Call) → is_rejoined m t l ≡ true → label_before (calls_of st t) l ≡ Some d.key.label → d.key.train ≡ t → IsNoted nw old m noted → call_named old t l ≡ Some c → (with_shape_linked nw st es m noted d o).arrival ≡ event_time nw old (key_at t false c)
  shape-noted old (Reroute n from to via) t l c joins before own is found =
      let p = and_parts (nat_eq t n) (nat_eq l to) joins in
      let train = eqb-true t n p.0 in
      let label = eqb-true l to p.1 in
      let was : call_named old n to ≡ Some c = subst (λ l. call_named old n l ≡ Some c) label (subst (λ t. call_named old t l ≡ Some c) train found) in
      let at : label_before (calls_of st n) to ≡ Some d.key.label = subst (λ l. label_before (calls_of st n) l ≡ Some d.key.label) label (subst (λ t. label_before (calls_of st t) l ≡ Some d.key.label) train before) in
      let time : noted ≡ Some (event_time nw old (key_at n false c)) = sym is ∙ ap (option_map (λ (c : Call). event_time nw old (key_at n false c))) was in
      let hit = is-of-call n d.key.label d (own ∙ train) refl in
      rw (time, at, hit) (ap (λ t. event_time nw old (key_at t false c)) (sym train))
  shape-noted old m t l c joins before own is found = absurd (cc)

  rejoined-arrival : (t to : ℕ) (q : Option ℕ) (linked : Onward) → option_map_or (λ before. is_of_call t before d) (label_before (calls_of st t) to) false ≡ false → (option_map_or (λ time. with_arrival st t to time d linked) q linked).arrival ≡ linked.arrival
  rejoined-arrival t to None linked miss = refl
  rejoined-arrival t to (Some time) linked miss = ap (λ (w : Onward). w.arrival) (arrival-missed st t to time d linked miss)

  -- other arrivals stay
  pub shape-arrival : (m : Message) (c : Call) → All IsTrain st.trains → IsNextCall (calls_of st d.key.train) d.key.label c → HasRejoined st m → is_rejoined m d.key.train c.label ≡ false → (with_shape_linked nw st es m noted d o).arrival ≡ o.arrival
  shape-arrival (Reroute n from to via) c trains next joined apart =
      let miss : option_map_or (λ before. is_of_call n before d) (label_before (calls_of st n) to) false ≡ false = false_from_ne_true _ (λ hit.
      let b = before-of d n (label_before (calls_of st n) to) hit in
      let r = named-by st n to joined in
      let own = own-line st trains n in
      let label = named-label st n to r.0 r.1 in
      let after : IsNextCall (calls_of st n) d.key.label r.0 = before-after (calls_of st n) d.key.label r.0 own.0 (subst (λ l. find (is_call l) (calls_of st n) ≡ Some r.0) (sym label) r.1) (ap (label_before (calls_of st n)) label ∙ b.1) in
      let same : c ≡ r.0 = same_Some c r.0 (sym next ∙ subst (λ t. IsNextCall (calls_of st t) d.key.label r.0) (sym b.0) after) in
      let joins = and_from (nat_eq d.key.train n) (nat_eq c.label to) (eq-eqb d.key.train n b.0) (eq-eqb c.label to (ap (λ (c : Call). c.label) same ∙ label)) in
      absurd (cc)) in
      rejoined-arrival n to noted (with_made_linked nw st es n from (length via) d o) miss ∙ made-arrival nw st es n from (length via) d o
  shape-arrival (Extra n day route cs) c trains next joined apart = labels-arrival nw st es n 0 (used_labels st n) d o
  shape-arrival m c trains next joined apart = refl
