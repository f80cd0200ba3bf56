-- What is noted before a rerouting is the time of the arrival to which the new calls lead.
use Rattle.state_laws.proofs.Words.{◌≡◌, ℕ, true, false, List, Option, Some, None, refl, sym, ◌∙◌, ap, subst, same_Some, find, option_map, option_map_or, Key, Network, State, Call, Reroute, NewCall, calls_of, is_call, node_at, IsValid, event_time, refusal, option_and_then}
use Rattle.train_nodes.proofs.EventLemmas.{live-named}
use Rattle.train_nodes.specs.Calls.{call_named, label_after, label_before, values_of}
use Rattle.dep_order.specs.Ordered.{Ordered, number_of, onward_at}
use Rattle.timetable.specs.Carried.{IsNoted}
use Rattle.timetable.specs.Departures.{departing}
use Rattle.timetable.specs.Linking.{arrival_beside}
use Rattle.timetable.specs.Onward.{IsDepartureOrder}
use Rattle.timetable.proofs.CarriedLemmas.{live-held}
use Rattle.timetable.proofs.HeldLemmas.{IsNumberOf, is-of-call, number-is, of-call}
use Rattle.timetable.proofs.Lines.{IsNextCall, before-after, first-arrival, live-before, own-line, rejoined-live}
use Rattle.timetable.proofs.LiveCalls.{call-event, key_at, named-label}

live-call : (o : Option Call) → option_map_or (λ (c : Call). (values_of false c).live) o false ≡ true → (c : Call) × (o ≡ Some c) × (c.arrival.live ≡ true)
live-call None h = absurd (cc)
live-call (Some c) h = (c, refl, h)

module _ (nw : Network) (st : State) (valid : IsValid nw st) (o : Ordered) (order : IsDepartureOrder nw st o) (t l : ℕ) (a : Call) (found : call_named st t l ≡ Some a) (live : a.arrival.live ≡ true) where
  label : a.label ≡ l
  label = named-label st t l a found

  noted-by : (b : ℕ) → IsNextCall (calls_of st t) b a → (p : Call) → call_named st t b ≡ Some p → p.departure.live ≡ true → (q : Option ℕ) → IsNumberOf o.entries t b q → Some (event_time nw st (key_at t false a)) ≡ option_map (λ n. (onward_at o n).arrival) q
  noted-by b next p there departs None is =
      let e = call-event st t b true p there in
      let n = live-held nw st o order.entries order.departures e.event e.there (e.live ∙ departs) (ap (λ (k : Key). k.dep) e.key) in
      let other = is n.0 (departing nw st e.event.key) n.1 in
      let own = is-of-call t b (departing nw st e.event.key) (ap (λ (k : Key). k.train) e.key) (ap (λ (k : Key). k.label) e.key ∙ named-label st t b p there) in
      absurd (cc)
  noted-by b next p there departs (Some n) is =
      let d = is.0 in
      let at = of-call t b d is.2 in
      let onward = order.onward n d is.1 in
      let after : label_after (calls_of st t) b ≡ Some onward.label = ap (λ t. label_after (calls_of st t) b) (sym at.0) ∙ ap (label_after (calls_of st d.key.train)) (sym at.1) ∙ onward.is_next in
      let same : a.label ≡ onward.label = same_Some a.label onward.label (sym (ap (option_map (λ (c : Call). c.label)) next) ∙ after) in
      let call : onward.call ≡ a = same_Some onward.call a (sym onward.found ∙ ap (λ t. call_named st t onward.label) at.0 ∙ ap (call_named st t) (sym same ∙ label) ∙ found) in
      ap Some (sym (onward.arrival ∙ ap (λ t. event_time nw st (key_at t false onward.call)) at.0 ∙ ap (λ c. event_time nw st (key_at t false c)) call))

  -- beside the departure before it
  noted-at : (b : ℕ) → label_before (calls_of st t) l ≡ Some b → (q : Option ℕ) → IsNumberOf o.entries t b q → Some (event_time nw st (key_at t false a)) ≡ option_map (λ n. (onward_at o n).arrival) q
  noted-at b before q is =
      let line = own-line st valid.trains t in
      let next = before-after (calls_of st t) b a line.0 (subst (λ l. find (is_call l) (calls_of st t) ≡ Some a) (sym label) found) (ap (label_before (calls_of st t)) label ∙ before) in
      let p = live-before false (calls_of st t) b a line.1 line.0 next live in
      noted-by b next p.0 p.1 p.2 q is

  pub noted-beside : (q : Option ℕ) → label_before (calls_of st t) l ≡ q → Some (event_time nw st (key_at t false a)) ≡ option_and_then (λ before. option_map (λ n. (onward_at o n).arrival) (number_of o.entries t before)) q
  noted-beside None before =
      let line = own-line st valid.trains t in
      let dead = first-arrival false (calls_of st t) l a line.1 found before in
      absurd (cc)
  noted-beside (Some b) before = noted-at b before (number_of o.entries t b) (number-is o.entries t b)

pub noted-is : (nw : Network) (st : State) (o : Ordered) (n from to : ℕ) (via : List NewCall) → IsValid nw st → refusal nw st (Reroute n from to via) ≡ None → IsDepartureOrder nw st o → IsNoted nw st (Reroute n from to via) (arrival_beside o st n to)
noted-is nw st o n from to via valid accepted order =
    let line = own-line st valid.trains n in
    let alive = sym (live-named st (node_at n to false) line.0) ∙ rejoined-live nw st (Reroute n from to via) accepted in
    let a = live-call (call_named st n to) alive in
    ap (option_map (λ (c : Call). event_time nw st (key_at n false c))) a.1 ∙ noted-beside nw st valid o order n to a.0 a.1 a.2 (label_before (calls_of st n) to) refl
