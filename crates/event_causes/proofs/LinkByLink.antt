-- A chain is told link by link.
use Rattle.std.proofs.Common.{◌≡◌, ◌≤◌, ◌+◌, ◌++◌, ◌∷◌, append_assoc, arith, ℕ, true, List, [], Option, Some, None, refl, sym, ◌∙◌, ap, subst, inl, inr}
use Rattle.std.proofs.lemmas.Bool.{cases_Bool}
use Rattle.std.specs.Option.{option_map, option_to_list}
use Rattle.mt_base.specs.declared.keys.Node.{Node}
use Rattle.mt_base.specs.Order.{node_of}
use Rattle.delay_model.specs.declared.network.Network.{Network}
use Rattle.delay_model.specs.declared.state.State.{State}
use Rattle.delay_model.specs.declared.state.Event.{Event}
use Rattle.delay_model.specs.Events.{events, event_named, is_live}
use Rattle.delay_model.specs.Edges.{edges}
use Rattle.delay_model.specs.Timing.{event_time}
use Rattle.delay_model.specs.Valid.{IsValid}
use Rattle.delay_model.proofs.Solve.{valid-graph}
use Rattle.edge_rules.proofs.Neighbours.{named-there}
use Rattle.train_nodes.specs.Calls.{has_event}
use Rattle.propagate.proofs.Named.{event-found}
use Rattle.timetable.proofs.Named.{live-event, live_time-none}
use Rattle.timetable.specs.LiveTimes.{live_time}
use Rattle.cause_laws.specs.declared.causes.Cause.{Cause}
use Rattle.cause_laws.specs.declared.causes.Link.{Link}
use Rattle.cause_laws.specs.Causes.{cause, edges_by_rule}
use Rattle.cause_laws.specs.Chains.{IsChain, chain, origin, why}
use Rattle.cause_laws.proofs.Chained.{rest-cases, state-chain}
use Rattle.cause_laws.proofs.InStates.{state-named, state-nameless, state-unique}
use Rattle.event_causes.specs.Asking.{TakesPlace}
use Rattle.event_causes.specs.Following.{links_from, reads_of, why_after}
use Rattle.event_causes.proofs.Decided.{live-timed}

-- the live event of a name that has a time
pub record IsTimed (nw : Network) (st : State) (n : Node) (time : ℕ) : Type 0 where
  pub event : Event
  pub live : event.live ≡ true
  pub name : node_of event.key ≡ n
  pub found : event_named st n ≡ Some event
  pub takes_place : TakesPlace nw st event time

-- what has a time is live
pub timed : (nw : Network) (st : State) → IsValid nw st → (n : Node) (time : ℕ) → Some time ≡ live_time nw st n → IsTimed nw st n time
timed nw st valid n time h =
    elim (cases_Bool (is_live st n)) [
      | inr dead ↦ absurd (let none = live_time-none nw st n dead in cc)
      | inl live ↦
          let r = live-event st n live in
          let own = event-found st r.event valid.trains r.there in
          let at : live_time nw st n ≡ Some (event_time nw st r.event.key) = ap (option_map (λ (v : Event). event_time nw st v.key)) r.found in
          record {
            event = r.event;
            live = r.live;
            name = r.name;
            found = ap (event_named st) (sym r.name) ∙ own;
            takes_place = record { named = own; there = r.there; live = ap (is_live st) r.name ∙ live; at = cc };
          }
    ]

-- an event that has a time is there
pub timed-there : (nw : Network) (st : State) → IsValid nw st → (n : Node) (time : ℕ) → Some time ≡ live_time nw st n → has_event st n ≡ true
timed-there nw st valid n time h = let r = timed nw st valid n time h in named-there st n r.event r.found

-- the event that is found by the name takes place then
pub found-takes_place : (nw : Network) (st : State) → IsValid nw st → (n : Node) (time : ℕ) (v : Event) → Some time ≡ live_time nw st n
    → event_named st n ≡ Some v → TakesPlace nw st v time
found-takes_place nw st valid n time v h found =
    let r = timed nw st valid n time h in
    let is = r.found in
    let same : r.event ≡ v = cc in
    subst (λ v. TakesPlace nw st v time) same r.takes_place

-- what has no time has no chain
pub untimed : (nw : Network) (st : State) → IsValid nw st → (n : Node) → None ≡ live_time nw st n → why nw st n ≡ []
untimed nw st valid n h =
    state-nameless nw st n (λ v there live name.
    let at : live_time nw st n ≡ Some (event_time nw st v.key) = subst (λ n. live_time nw st n ≡ Some (event_time nw st v.key)) name
    (live-timed nw st valid v there live) in
    absurd (cc))

link-agree : (l m : Link) → l.event ≡ m.event → l.time ≡ m.time → l.cause ≡ m.cause → l ≡ m
link-agree l m p q r = λ i. record { event = p i; time = q i; cause = r i }

first-by : (nw : Network) (st : State) → IsValid nw st → (v : Event) (c : Cause) → cause nw st v ≡ Some c → (ls : List Link) → IsChain nw st v ls
    → ls ≡ record { event = v.key; time = event_time nw st v.key; cause = c } ∷ why_after nw st (origin c)
first-by nw st valid v c is [] h = absurd h
first-by nw st valid v c is (l ∷ ls) h =
    let t = event_time nw st in
    let told = h.2 in
    let own : l.cause ≡ c = cc in
    let same = link-agree l (record { event = v.key; time = t v.key; cause = c }) h.0 h.1 own in
    let rest : ls ≡ why_after nw st (origin l.cause) =
    elim (rest-cases (events st) (edges nw st) (valid-graph nw st valid) (edges_by_rule nw st) t v l ls h) [
      | inl none ↦ none.1 ∙ sym (ap (why_after nw st) none.0)
      | inr some ↦
          let u = some.0 in
          let next = some.1 in
          state-unique nw st valid u ls next.there some.2 ∙ sym (state-named nw st valid u next.there next.live) ∙ sym (ap (why_after nw st) next.names)
    ]
    in
    λ i. same i ∷ (rest ∙ ap (λ c. why_after nw st (origin c)) own) i

-- the chain of a name begins with the event of the name, and goes on with what its cause names
pub first-is : (nw : Network) (st : State) → IsValid nw st → (n : Node) (time : ℕ) (v : Event) (c : Cause) → Some time ≡ live_time nw st n
    → event_named st n ≡ Some v → cause nw st v ≡ Some c → why nw st n ≡ record { event = v.key; time = time; cause = c } ∷ why_after nw st (origin c)
first-is nw st valid n time v c h found is =
    let r = timed nw st valid n time h in
    let named = r.found in
    let same : r.event ≡ v = cc in
    let u = r.event in
    let own : cause nw st u ≡ Some c = ap (cause nw st) same ∙ is in
    let name : why nw st n ≡ chain nw st u = ap (why nw st) (sym r.name) ∙ state-named nw st valid u r.takes_place.there r.live in
    let first = first-by nw st valid u c own (chain nw st u) (state-chain nw st valid u r.takes_place.there) in
    let link = link-agree (record { event = u.key; time = event_time nw st u.key; cause = c }) (record { event = v.key; time = time; cause = c })
    (ap (λ (e : Event). e.key) same) r.takes_place.at refl in
    name ∙ first ∙ ap (λ l. l ∷ why_after nw st (origin c)) link

reads-append : (nw : Network) (st : State) (ls ms : List Link)
    → reads_of nw st (ls ++ ms) ≡ reads_of nw st ls + reads_of nw st ms
reads-append nw st [] ms = omega arith
reads-append nw st (l ∷ ls) ms = let rest = reads-append nw st ls ms in omega arith

-- with one more link, the links so far and those that are still to come are the same chain, and what is read for it is counted
pub one-more-link : (nw : Network) (st : State) (ls more : List Link) (l : Link) (next : Option Link) (all : List Link) (old steps now : ℕ)
    → more ≡ ls ++ l ∷ [] → why_after nw st (origin l.cause) ≡ links_from nw st next
    → ls ++ l ∷ why_after nw st (origin l.cause) ≡ all
    → steps ≤ old + reads_of nw st (ls ++ l ∷ []) → now ≤ steps + reads_of nw st (option_to_list next)
    → (more ++ links_from nw st next ≡ all) × (now ≤ old + reads_of nw st (more ++ option_to_list next))
one-more-link nw st ls more l next all old steps now is rest whole before after =
    let sums = reads-append nw st more (option_to_list next) in
    let same = ap (reads_of nw st) is in (
      ap (λ xs. xs ++ links_from nw st next) is
          ∙ append_assoc ls (l ∷ []) (links_from nw st next)
          ∙ ap (λ xs. ls ++ l ∷ xs) (sym rest) ∙ whole,
      omega arith,
    )
