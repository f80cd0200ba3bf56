-- Each live event of a graph has a cause, which says how it comes to its time.
use Rattle.std.proofs.Common.{◌≡◌, ℕ, ◌+◌, ◌<◌, Bool, true, false, cond, List, Option, Some, None, is_some, unwrap_or, max, nat_eq, nat_le, filter, refl, sym, ◌∙◌, ap, arith, ◌⊎◌, inl, inr}
use Rattle.std.specs.List.{Contains}
use Rattle.std.specs.Option.{option_or, option_map}
use Rattle.std.proofs.lemmas.Bool.{cases_lt, cond_both, and_parts, eqb-true, eq-eqb, ne_eqb, lt-ltb, le-ltb, le-leb, lt-leb}
use Rattle.std.proofs.lemmas.List.Elements.{All-contains}
use Rattle.mt_base.specs.declared.keys.Key.{Key}
use Rattle.mt_base.specs.Order.{is_same}
use Rattle.mt_base.proofs.KeyLemmas.{same-is, same-itself}
use Rattle.delay_model.specs.declared.network.Network.{Network}
use Rattle.delay_model.specs.declared.state.State.{State}
use Rattle.delay_model.specs.declared.state.Event.{Event}
use Rattle.delay_model.specs.declared.state.Edge.{Edge}
use Rattle.delay_model.specs.Events.{events}
use Rattle.delay_model.specs.Edges.{edges}
use Rattle.delay_model.specs.Timing.{incoming, after_key, cap, floor_of, counts, capped, local, time, event_time}
use Rattle.delay_model.specs.Valid.{IsValid}
use Rattle.delay_model.proofs.Lists.{Contains-filter}
use Rattle.delay_model.proofs.Solve.{IsGraph, valid-graph, time-local}
use Rattle.delay_model.proofs.Bounds.{fold-up}
use Rattle.cause_laws.specs.declared.causes.Cause.{Cause}
use Rattle.cause_laws.specs.declared.causes.Cause.TheVariants.{Report, Capped, Schedule, Forecast, Run, Stop, Hold, Kept}
use Rattle.cause_laws.specs.Causes.{due, capper, by_report, by_cap, floor_cause, by_floor, asks_for, is_along, goes_first, holds_by_rule, edge_cause, by_edges, cause_over, edges_by_rule, IsDecidedBy, IsByFloor, Explains, cause, IsExplained}
use Rattle.cause_laws.proofs.Firsts.{IsFirst, FirstCases, first-cases, contains-after, filtered, fold-reached, named-there}

-- the event has a cause, which says how it comes to its time
abbrev pub HasCause : List Event → List Edge → List Edge → (Key → ℕ) → Event → Type 0
HasCause es gs rule t v = (c : Cause) × (cause_over es gs rule t v ≡ Some c) × Explains es gs rule t v c

pub pick-1 : (a b c d : Option Cause) (x : Cause) → a ≡ Some x → option_or a (option_or b (option_or c d)) ≡ Some x
pick-1 a b c d x h = rw h refl

pub pick-2 : (a b c d : Option Cause) (x : Cause) → a ≡ None → b ≡ Some x → option_or a (option_or b (option_or c d)) ≡ Some x
pick-2 a b c d x h k = rw (h, k) refl

pub pick-3 : (a b c d : Option Cause) (x : Cause) → a ≡ None → b ≡ None → c ≡ Some x → option_or a (option_or b (option_or c d)) ≡ Some x
pick-3 a b c d x h k l = rw (h, k, l) refl

pub pick-4 : (a b c d : Option Cause) (x : Cause) → a ≡ None → b ≡ None → c ≡ None → d ≡ Some x → option_or a (option_or b (option_or c d)) ≡ Some x
pick-4 a b c d x h k l m = rw (h, k, l, m) refl

pub unreported : (v : Event) → v.report ≡ None → by_report v ≡ None
unreported v none = rw none refl

-- the word of a floor, and what it says
abbrev pub FloorCases : Cause → Bool → ℕ → Option ℕ → ℕ → Type 0
FloorCases c dep s f x = ((c ≡ Schedule) × (s ≡ x) × (dep ≡ false → f ≡ None)) ⊎ ((c ≡ Forecast) × (f ≡ Some x) × (dep ≡ true → s < x))

floor-by : (dep : Bool) (s : ℕ) (f : Option ℕ) (x : ℕ) → cond dep (max s (unwrap_or f 0)) (unwrap_or f s) ≡ x → FloorCases (cond dep (cond (nat_le (unwrap_or f 0) s) Schedule Forecast) (cond (is_some f) Forecast Schedule)) dep s f x
floor-by true s None x h = inl (ap (λ b. cond b Schedule Forecast) (le-leb 0 s (omega arith)), omega arith, λ _. refl)
floor-by true s (Some f) x h =
    elim (cases_lt s f) [
      | inl late ↦ let same : f ≡ x = omega arith in inr (ap (λ b. cond b Schedule Forecast) (lt-leb f s late), ap Some same, λ _. omega arith)
      | inr early ↦ inl (ap (λ b. cond b Schedule Forecast) (le-leb f s early), omega arith, λ arrival. absurd (cc))
    ]
floor-by false s None x h = inl (refl, h, λ _. refl)
floor-by false s (Some f) x h = inr (refl, ap Some h, λ departure. absurd (cc))

pub floor-is : (v : Event) (x : ℕ) → floor_of v ≡ x → FloorCases (floor_cause v) v.key.dep v.key.time v.forecast x
floor-is v x h = floor-by v.key.dep v.key.time v.forecast x h

pub edge-explains : (es : List Event) (gs rule : List Edge) (t : Key → ℕ) (v : Event) (e : Edge) → v.report ≡ None → IsDecidedBy gs rule t v e.from e → Explains es gs rule t v (edge_cause e (holds_by_rule rule (t v.key) e))
edge-explains es gs rule t v e none by =
    let hit = holds_by_rule rule (t v.key) e in
    cond_both (is_along e.kind) (cond e.from.dep (Run e.from) (Stop e.from)) (cond hit (Hold e.from) (Kept e.from)) (Explains es gs rule t v)
    (λ along. cond_both e.from.dep (Run e.from) (Stop e.from) (Explains es gs rule t v) (λ dep. (none, (e, by, along, dep))) (λ arr. (none, (e, by, along, arr))))
    (λ between. cond_both hit (Hold e.from) (Kept e.from) (Explains es gs rule t v) (λ holds. (none, (e, by, between, holds))) (λ not. (none, (e, by, between, not))))

module _ (es : List Event) (gs : List Edge) (rule : List Edge) (t : Key → ℕ) (v : Event) (none : v.report ≡ None) where
  -- an edge decides
  by-edge : by_cap (due gs t v) (capper es v) ≡ None → t v.key ≡ due gs t v → floor_of v < t v.key → HasCause es gs rule t v
  unfolding cause_over due incoming
  by-edge free is late =
      let reached = fold-reached t (incoming gs v.key) (floor_of v) (t v.key) (sym is) late in
      let asking = filter (asks_for t (t v.key)) (incoming gs v.key) in
      let ruled = holds_by_rule rule (t v.key) in
      let found = named-there ruled asking reached.0 (Contains-filter (asks_for t (t v.key)) (incoming gs v.key) reached.0 reached.1 reached.2) in
      let e = found.0 in
      let among = filtered (asks_for t (t v.key)) (incoming gs v.key) e found.1.there in
      let leads = filtered (λ (g : Edge). is_same g.to v.key) gs e among.0 in
      let asks = and_parts (nat_eq (t e.from + e.weight) (t v.key)) (counts e.kind e.to.time (t v.key)) among.1 in
      let by : IsDecidedBy gs rule t v e.from e =
      record {
        there = leads.0;
        from = refl;
        to = same-is e.to v.key leads.1;
        counting = asks.1;
        time = sym (eqb-true _ _ asks.0);
        first = λ d there to passes.
            All-contains (λ d. goes_first ruled d e ≡ false) asking d found.1.first
            (Contains-filter (asks_for t (t v.key)) (incoming gs v.key) d (Contains-filter (λ g. is_same g.to v.key) gs d there (ap (λ k. is_same k v.key) to ∙ same-itself v.key)) passes);
        floor = late;
        as_due = is;
      }
      in
      let past : by_floor (t v.key) v ≡ None = rw (ne_eqb (floor_of v) (t v.key) (λ same. absurd (omega arith))) refl in (
        edge_cause e (ruled e),
        pick-4 (by_report v) (by_cap (due gs t v) (capper es v)) (by_floor (t v.key) v) (by_edges ruled asking) _ (unreported v none) free past
            (ap (option_map (λ (e : Edge). edge_cause e (ruled e))) found.1.is),
        edge-explains es gs rule t v e none by,
      )

  -- the floor decides
  by-floor : by_cap (due gs t v) (capper es v) ≡ None → floor_of v ≡ t v.key → t v.key ≡ due gs t v → HasCause es gs rule t v
  unfolding cause_over
  by-floor free same is =
      let by : IsByFloor gs t v = record { unreported = none; floor = same; as_due = is } in
      let d = by_edges (holds_by_rule rule (t v.key)) (filter (asks_for t (t v.key)) (incoming gs v.key)) in
      let at : by_floor (t v.key) v ≡ Some (floor_cause v) = rw (eq-eqb (floor_of v) (t v.key) same) refl in
      let chosen : cause_over es gs rule t v ≡ Some (floor_cause v) = pick-3 (by_report v) (by_cap (due gs t v) (capper es v)) (by_floor (t v.key) v) d (floor_cause v) (unreported v none) free at in
      elim (floor-is v (t v.key) same) [
        | inl s ↦ (Schedule, chosen ∙ ap Some s.0, (by, s.1, s.2))
        | inr f ↦ (Forecast, chosen ∙ ap Some f.0, (by, f.1, f.2))
      ]

  -- no report is before what the event is due
  by-due : by_cap (due gs t v) (capper es v) ≡ None → t v.key ≡ due gs t v → HasCause es gs rule t v
  unfolding due
  by-due free is =
      let up = fold-up t (incoming gs v.key) (floor_of v) in
      elim (cases_lt (floor_of v) (t v.key)) [
        | inl late ↦ by-edge free is late
        | inr not_late ↦ by-floor free (omega arith) is
      ]

  -- a report is
  by-report : (u : Event) (r : ℕ) → IsFirst v.key.train (after_key v.key es) u r → t v.key ≡ r → r < due gs t v → HasCause es gs rule t v
  unfolding cause_over capper
  by-report u r first is less =
      let c = by_floor (t v.key) v in
      let d = by_edges (holds_by_rule rule (t v.key)) (filter (asks_for t (t v.key)) (incoming gs v.key)) in
      let before : by_cap (due gs t v) (Some u) ≡ Some (Capped u.key) = rw (first.report, lt-ltb r (due gs t v) less) refl in (
        Capped u.key,
        pick-2 (by_report v) (by_cap (due gs t v) (capper es v)) c d (Capped u.key) (unreported v none) (ap (by_cap (due gs t v)) first.named ∙ before),
        (
          none,
          (
            u,
            record {
              there = contains-after (λ (w : Event). is_same w.key v.key) es u first.there;
              named = refl;
              live = first.live;
              train = first.train_is;
              next = first.named;
              report = first.report ∙ ap Some (sym is);
              early = omega arith;
            },
          ),
        ),
      )

  by-cap : FirstCases v.key.train (after_key v.key es) → t v.key ≡ capped (cap es v) (due gs t v) → HasCause es gs rule t v
  unfolding cap capper
  by-cap (inl free) is = by-due (ap (by_cap (due gs t v)) free.0) (is ∙ ap (λ o. capped o (due gs t v)) free.1)
  by-cap (inr (u, r, first)) is =
      let at : t v.key ≡ capped (Some r) (due gs t v) = is ∙ ap (λ o. capped o (due gs t v)) first.cap in
      elim (cases_lt r (due gs t v)) [
        | inl less ↦ by-report u r first (omega arith) less
        | inr ge ↦
            let past : by_cap (due gs t v) (Some u) ≡ None = rw (first.report, le-ltb r (due gs t v) ge) refl in
            by-due (ap (by_cap (due gs t v)) first.named ∙ past) (omega arith)
      ]

reported : (es : List Event) (gs rule : List Edge) (t : Key → ℕ) (v : Event) (r : ℕ) → v.report ≡ Some r → t v.key ≡ r → HasCause es gs rule t v
unfolding cause_over
reported es gs rule t v r report is =
    let at : by_report v ≡ Some Report = rw report refl in
    let a = by_cap (due gs t v) (capper es v) in
    let b = by_floor (t v.key) v in
    let c = by_edges (holds_by_rule rule (t v.key)) (filter (asks_for t (t v.key)) (incoming gs v.key)) in
    (Report, pick-1 (by_report v) a b c Report at, report ∙ ap Some (sym is))

by-rule : (es : List Event) (gs rule : List Edge) (t : Key → ℕ) (v : Event) (o : Option ℕ) → v.report ≡ o → t v.key ≡ unwrap_or o (capped (cap es v) (due gs t v)) → HasCause es gs rule t v
by-rule es gs rule t v (Some r) report is = reported es gs rule t v r report is
by-rule es gs rule t v None report is = by-cap es gs rule t v report (first-cases v.key.train (after_key v.key es)) is

-- an event of a graph has a cause
pub has-cause : (es : List Event) (gs : List Edge) → IsGraph es gs → (rule : List Edge) (v : Event) → Contains es v → HasCause es gs rule (time es gs) v
unfolding local due
has-cause es gs graph rule v there = by-rule es gs rule (time es gs) v v.report refl (time-local es gs graph v there)

-- an event of a valid state has a cause
pub state-cause : (nw : Network) (st : State) → IsValid nw st → (v : Event) → Contains (events st) v → (c : Cause) × (cause nw st v ≡ Some c) × IsExplained nw st v c
unfolding event_time
state-cause nw st valid v there = has-cause (events st) (edges nw st) (valid-graph nw st valid) (edges_by_rule nw st) v there
