-- What decides the time of an event, by what the edges to it ask for.
use Rattle.std.proofs.Common.{◌≡◌, ℕ, ◌+◌, ◌<◌, Bool, true, false, nat_eq, List, [], Option, Some, None, is_some, unwrap_or, refl, sym, ◌∙◌, ap, subst}
use Rattle.std.proofs.Common.{arith, inl, inr}
use Rattle.std.specs.List.{All, Contains, fold, filter}
use Rattle.std.specs.List.Sorted.{IsPermutation}
use Rattle.std.specs.Option.{option_map, option_map_or}
use Rattle.std.proofs.lemmas.Bool.{cases_Bool, cases_lt, and_parts, eq-eqb, eqb-true, lt-ltb}
use Rattle.std.proofs.lemmas.List.Elements.{All-contains_itself}
use Rattle.std.proofs.lemmas.List.Sorted.{Contains-permutation, IsPermutation-sym}
use Rattle.mt_base.specs.declared.keys.Key.{Key}
use Rattle.mt_base.specs.Order.{is_same, node_of}
use Rattle.mt_base.proofs.KeyLemmas.{same-is, same-itself}
use Rattle.delay_model.specs.declared.network.Network.{Network}
use Rattle.delay_model.specs.declared.state.State.{State}
use Rattle.delay_model.specs.declared.state.Event.{Event}
use Rattle.delay_model.specs.declared.state.Edge.{Edge}
use Rattle.delay_model.specs.Events.{events, event_named}
use Rattle.delay_model.specs.Edges.{edges}
use Rattle.delay_model.specs.Timing.{after_key, cap, capped, counts, event_time, floor_of, incoming, local}
use Rattle.delay_model.specs.Valid.{IsValid}
use Rattle.delay_model.proofs.Bounds.{fold-same, fold-up, incoming-fit}
use Rattle.delay_model.proofs.Solve.{incoming-leads, incoming-there, time-local, valid-graph}
use Rattle.edge_rules.proofs.Neighbours.{named-there}
use Rattle.edge_rules.specs.AtEvent.{edges_to}
use Rattle.edge_rules.specs.GraphState.{GraphState}
use Rattle.train_nodes.specs.Calls.{has_event}
use Rattle.propagate.proofs.Named.{event-found, event-live}
use Rattle.timetable.proofs.Named.{live-event}
use Rattle.timetable.specs.LiveTimes.{live_time}
use Rattle.delay_model.proofs.Apart.{events-unique}
use Rattle.cause_laws.specs.declared.causes.Cause.TheVariants.{Capped, Report}
use Rattle.cause_laws.specs.Causes.{IsDecidedBy, asks_for, by_cap, by_edges, by_floor, by_report, capper, cause, cause_over, due, edge_cause, edges_by_rule}
use Rattle.cause_laws.specs.Causes.{floor_cause, holds_by_rule, is_along}
use Rattle.cause_laws.proofs.Deciding.{edge-explains, pick-1, pick-2, pick-3, unreported}
use Rattle.cause_laws.proofs.Exact.{state-exact}
use Rattle.cause_laws.proofs.Firsts.{filtered, first-cases, fold-reached}
use Rattle.event_causes.specs.declared.cause.Candidate.{Candidate}
use Rattle.event_causes.specs.declared.cause.Due.{Due}
use Rattle.event_causes.specs.Asking.{AsksInTime, by_rule, cause_of, cause_of_due, with_edge}
use Rattle.event_causes.proofs.Gathered.{IsNamedOf, all-named, gathered-named, gathered-time, named_step}
use Rattle.event_causes.proofs.Ruled.{by-rule, first-agree}

-- a live event has its time by its name
pub live-timed : (nw : Network) (st : State) → IsValid nw st → (u : Event) → Contains (events st) u → u.live ≡ true
    → live_time nw st (node_of u.key) ≡ Some (event_time nw st u.key)
live-timed nw st valid u there live =
    let r = live-event st (node_of u.key) (event-live st u there live) in
    let same : r.event ≡ u = events-unique st valid.trains r.event u r.there there r.name in
    ap (option_map (λ (v : Event). event_time nw st v.key)) r.found ∙ ap (λ (v : Event). Some (event_time nw st v.key)) same

-- the edges to an event ask in time
pub ask-in-time : (nw : Network) (st : State) → IsValid nw st → (v : Event) → Contains (events st) v → All (AsksInTime nw st) (incoming (edges nw st) v.key)
unfolding event_time
ask-in-time nw st valid v there = λ i d l.
    let graph = valid-graph nw st valid in
    let end = (incoming-leads (events st) (edges nw st) graph v.key i d l).from_end in
    let u = end.0 in
    let key = end.2 in
    record {
      there = ap (λ k. has_event st (node_of k)) (sym key)
          ∙ named-there st (node_of u.key) u (event-found st u valid.trains end.1);
      time = subst (λ k. live_time nw st (node_of k) ≡ Some (event_time nw st k)) key (live-timed nw st valid u end.1 end.3);
      fits = incoming-fit (events st) (edges nw st) graph valid.small (event_time nw st) v there (λ _ _ _. refl) i d l;
    }

-- the edges that lead to the event of a name
pub to-event : (g : GraphState) (nw : Network) (st : State) (v : Event) (xs : List Edge) → g.network ≡ nw → g.state ≡ st
    → event_named st (node_of v.key) ≡ Some v → IsPermutation xs (edges_to g (node_of v.key)) → IsPermutation xs (incoming (edges nw st) v.key)
to-event g nw st v xs p q named h =
    let n = node_of v.key in
    let is : edges_to g n ≡ incoming (edges nw st) v.key =
    ap (λ x. option_map_or (λ (v : Event). incoming (edges x g.state) v.key) (event_named g.state n) []) p
    ∙ ap (λ s. option_map_or (λ (v : Event). incoming (edges nw s) v.key) (event_named s n) []) q
    ∙ ap (λ o. option_map_or (λ (v : Event). incoming (edges nw st) v.key) o []) named
    in
    subst (IsPermutation xs) is h

-- a report decides
pub report-cause : (nw : Network) (st : State) (v : Event) → is_some v.report ≡ true → cause nw st v ≡ Some Report
unfolding cause_over
report-cause nw st v reported =
    let t = event_time nw st in
    let gs = edges nw st in
    let at : by_report v ≡ Some Report = rw reported refl in
    pick-1 (by_report v) (by_cap (due gs t v) (capper (events st) v)) (by_floor (t v.key) v)
    (by_edges (holds_by_rule (edges_by_rule nw st) (t v.key)) (filter (asks_for t (t v.key)) (incoming gs v.key))) Report at

pub no-report : (o : Option ℕ) → is_some o ≡ false → o ≡ None
no-report None h = refl
no-report (Some r) h = absurd (cc)

same-cause : (e : Edge) (a b : Bool) → (is_along e.kind ≡ false → a ≡ b) → edge_cause e a ≡ edge_cause e b
same-cause e a b h =
    elim (cases_Bool (is_along e.kind)) [
      | inl along ↦ rw along refl
      | inr between ↦ ap (edge_cause e) (h between)
    ]

module _ (nw : Network) (st : State) (valid : IsValid nw st) (v : Event) (there : Contains (events st) v) (none : v.report ≡ None) (xs : List Edge)
    (all : IsPermutation xs (incoming (edges nw st) v.key)) where
  -- an event is due when the edges to it say, in any order
  due-is : (time : ℕ) (d : Due) → d ≡ fold (with_edge nw st v time) (record { time = floor_of v; named = None }) xs
      → d.time ≡ due (edges nw st) (event_time nw st) v
  unfolding due
  due-is time d is =
      let t = event_time nw st in
      let ys = incoming (edges nw st) v.key in
      ap (λ (d : Due). d.time) is
      ∙ gathered-time nw st v time xs (record { time = floor_of v; named = None })
      ∙ fold-same t (floor_of v) xs ys (λ i d l. Contains-permutation xs ys _ all (All-contains_itself xs i d l))
      (λ i d l. Contains-permutation ys xs _ (IsPermutation-sym xs ys all) (All-contains_itself ys i d l))

  -- a report before the event is due decides
  pub cap-cause : (time : ℕ) (d : Due) (k : Key) → d ≡ fold (with_edge nw st v time) (record { time = floor_of v; named = None }) xs
      → Some (Capped k) ≡ by_cap d.time (capper (events st) v) → cause nw st v ≡ Some (Capped k)
  unfolding cause_over
  cap-cause time d k is capped =
      let t = event_time nw st in
      let gs = edges nw st in
      pick-2 (by_report v) (by_cap (due gs t v) (capper (events st) v)) (by_floor (t v.key) v)
      (by_edges (holds_by_rule (edges_by_rule nw st) (t v.key)) (filter (asks_for t (t v.key)) (incoming gs v.key))) (Capped k) (unreported v none)
      (ap (λ x. by_cap x (capper (events st) v)) (sym (due-is time d is)) ∙ sym capped)

  -- without a cap the event takes place when it is due
  as-due : by_cap (due (edges nw st) (event_time nw st) v) (capper (events st) v) ≡ None → event_time nw st v.key ≡ due (edges nw st) (event_time nw st) v
  unfolding event_time local due cap capper
  as-due free =
      let es = events st in
      let gs = edges nw st in
      let t = event_time nw st in
      let is : t v.key ≡ unwrap_or v.report (capped (cap es v) (due gs t v)) = time-local es gs (valid-graph nw st valid) v there in
      let at : t v.key ≡ capped (cap es v) (due gs t v) = is ∙ ap (λ o. unwrap_or o (capped (cap es v) (due gs t v))) none in
      elim (first-cases v.key.train (after_key v.key es)) [
        | inl nothing ↦ at ∙ ap (λ o. capped o (due gs t v)) nothing.1
        | inr some ↦
            let r = some.1 in
            let least : t v.key ≡ capped (Some r) (due gs t v) = at ∙ ap (λ o. capped o (due gs t v)) some.2.cap in
            elim (cases_lt r (due gs t v)) [
              | inl less ↦
                  let before : by_cap (due gs t v) (Some some.0) ≡ Some (Capped some.0.key) = rw (some.2.report, lt-ltb r (due gs t v) less) refl in
                  absurd (let named = ap (by_cap (due gs t v)) some.2.named in let no : Some (Capped some.0.key) ≡ None = sym before ∙ sym named ∙ free in cc)
              | inr ge ↦ omega arith
            ]
      ]

  -- the edge that is named decides
  edge-decides : (c : Candidate)
      → IsNamedOf (by_rule nw st v (event_time nw st v.key)) (asks_for (event_time nw st) (event_time nw st v.key)) (Contains xs) c
      → floor_of v < event_time nw st v.key → event_time nw st v.key ≡ due (edges nw st) (event_time nw st) v → cause nw st v ≡ Some (cause_of c)
  unfolding incoming
  edge-decides c h late is =
      let t = event_time nw st in
      let time = t v.key in
      let gs = edges nw st in
      let ys = incoming gs v.key in
      let rule = edges_by_rule nw st in
      let e = c.edge in
      let leads = filtered (λ (g : Edge). is_same g.to v.key) gs e (Contains-permutation xs ys e all h.there) in
      let to = same-is e.to v.key leads.1 in
      let asks = and_parts (nat_eq (t e.from + e.weight) time) (counts e.kind e.to.time time) h.asking in
      let ruled : is_along e.kind ≡ false → by_rule nw st v time e ≡ holds_by_rule rule time e = by-rule nw st valid v time e there to leads.0 asks.1 in
      let by : IsDecidedBy gs rule t v e.from e =
      record {
        there = leads.0;
        from = refl;
        to = to;
        counting = asks.1;
        time = sym (eqb-true _ _ asks.0);
        first = λ d here leads_to asking.
            let counting = (and_parts (nat_eq (t d.from + d.weight) time) (counts d.kind d.to.time time) asking).1 in
            sym (first-agree (by_rule nw st v time) (holds_by_rule rule time) d e (by-rule nw st valid v time d there leads_to here counting) ruled)
            ∙ h.first d
            (Contains-permutation ys xs d (IsPermutation-sym xs ys all)
            (incoming-there gs v.key d here (ap (λ k. is_same k v.key) leads_to ∙ same-itself v.key))) asking;
        floor = late;
        as_due = is;
      }
      in
      let named : cause_of c ≡ edge_cause e (holds_by_rule rule time e) = ap (edge_cause e) h.by_rule ∙ same-cause e _ _ ruled in
      state-exact nw st valid v (edge_cause e (holds_by_rule rule time e)) there (edge-explains (events st) gs rule t v e none by) ∙ ap Some (sym named)

  -- the floor decides
  floor-decides : by_cap (due (edges nw st) (event_time nw st) v) (capper (events st) v) ≡ None → nat_eq (floor_of v) (event_time nw st v.key) ≡ true
      → cause nw st v ≡ Some (floor_cause v)
  unfolding cause_over
  floor-decides free hit =
      let t = event_time nw st in
      let gs = edges nw st in
      let at : by_floor (t v.key) v ≡ Some (floor_cause v) = rw hit refl in
      pick-3 (by_report v) (by_cap (due gs t v) (capper (events st) v)) (by_floor (t v.key) v)
      (by_edges (holds_by_rule (edges_by_rule nw st) (t v.key)) (filter (asks_for t (t v.key)) (incoming gs v.key))) (floor_cause v)
      (unreported v none) free at

  own-time : (d : Due) → d ≡ fold (with_edge nw st v (event_time nw st v.key)) (record { time = floor_of v; named = None }) xs
      → None ≡ by_cap d.time (capper (events st) v) → cause nw st v ≡ Some (cause_of_due v (event_time nw st v.key) d)
  unfolding due
  own-time d is capped =
      let t = event_time nw st in
      let time = t v.key in
      let gs = edges nw st in
      let ys = incoming gs v.key in
      let free : by_cap (due gs t v) (capper (events st) v) ≡ None = ap (λ x. by_cap x (capper (events st) v)) (sym (due-is time d is)) ∙ sym capped in
      let now = as-due free in
      let up = fold-up t ys (floor_of v) in
      let named : d.named ≡ fold (named_step (by_rule nw st v time) (asks_for t time)) None xs =
      ap (λ (d : Due). d.named) is ∙ gathered-named nw st v time xs (record { time = floor_of v; named = None })
      in
      elim (cases_Bool (nat_eq (floor_of v) time)) [
        | inl hit ↦ rw hit (floor-decides free hit)
        | inr miss ↦
            elim (cases_lt (floor_of v) time) [
              | inr ge ↦ absurd (let same = eq-eqb (floor_of v) time (omega arith) in cc)
              | inl late ↦
                  elim (all-named (by_rule nw st v time) (asks_for t time) xs) [
                    | inl nothing ↦
                        let reached = fold-reached t ys (floor_of v) time (sym now) late in
                        absurd (nothing.1 reached.0 (Contains-permutation ys xs reached.0 (IsPermutation-sym xs ys all) reached.1) reached.2)
                    | inr some ↦ edge-decides some.0 some.2 late now ∙ ap Some (rw (miss, named, some.1) refl)
                  ]
            ]
      ]

  -- the floor decides where it is the event's time, and else the edge that is named
  pub due-decides : (time : ℕ) (d : Due) → event_time nw st v.key ≡ time → d ≡ fold (with_edge nw st v time) (record { time = floor_of v; named = None }) xs
      → None ≡ by_cap d.time (capper (events st) v) → cause nw st v ≡ Some (cause_of_due v time d)
  due-decides time d at =
      subst
      (λ time. d ≡ fold (with_edge nw st v time) (record { time = floor_of v; named = None }) xs → None ≡ by_cap d.time
      (capper (events st) v) → cause nw st v ≡ Some (cause_of_due v time d)) at (own-time d)
