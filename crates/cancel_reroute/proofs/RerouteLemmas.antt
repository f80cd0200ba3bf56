-- The events of a rerouted train.
use Rattle.std.proofs.Common.{◌≡◌, ℕ, zero, suc, ◌<◌, Bool, true, false, List, [], ◌∷◌, ◌++◌, append_assoc, Option, Some, None, length, refl, ◌∙◌, ap, arith, inl, inr, All}
use Rattle.std.proofs.lemmas.Bool.{cases_Bool}
use Rattle.std.proofs.lemmas.Bool.Decides.{nat_tests}
use Rattle.mt_base.specs.declared.keys.Node.{Node}
use Rattle.delay_model.specs.Timing.{first_report}
use Rattle.state_laws.proofs.Words.{events_at-train}
use Rattle.state_laws.proofs.Changed.{train_events-each}
use Rattle.train_nodes.specs.Reports.{report_after}
use Rattle.std.specs.List.{slice_get}
use Rattle.std.specs.Option.{option_map, option_map_or, option_or}
use Rattle.std.proofs.lemmas.Option.{slice_get_within}
use Rattle.mt_base.specs.declared.options.Opts.{Opts}
use Rattle.mt_base.specs.declared.new_calls.NewCall.{NewCall}
use Rattle.delay_model.specs.declared.messages.Message.TheVariants.{Reroute}
use Rattle.delay_model.specs.declared.state.Call.{Call}
use Rattle.delay_model.specs.declared.state.Train.{Train}
use Rattle.delay_model.specs.declared.state.State.{State}
use Rattle.delay_model.specs.declared.state.Event.{Event}
use Rattle.delay_model.specs.declared.network.Network.{Network}
use Rattle.delay_model.specs.Valid.{IsValid}
use Rattle.delay_model.specs.Cuts as Cuts
use Rattle.delay_model.specs.Cuts.{after, up_to}
use Rattle.delay_model.specs.Effect.{effect, change_train, is_call, new_calls, node_at, rerouted}
use Rattle.delay_model.specs.Events.{arrival_of, departure_of, calls_of, event_named, events_at, events_of, is_event, train_events}
use Rattle.delay_model.specs.Edges.{edges_along}
use Rattle.delay_model.specs.Refusals.{any_reported, first_against_rank, stands_before}
use Rattle.delay_model.specs.Touched.{new_events}
use Rattle.train_nodes.proofs.EventLemmas.{name-test}
use Rattle.edge_rules.proofs.Words.{events-append}
use Rattle.cancel_reroute.specs.Ranks.{rank_along, rank_to, last_of}
use Rattle.cancel_reroute.proofs.RankLemmas.{along-parts, back-clear, front-clear, front-last, train-clear}

module _ (n route l : ℕ) where
  front-step : (c : Call) (cs : List Call) (b : Bool) → is_call l c ≡ b → events_at n route (up_to (is_call l) cs) ≡ up_to (is_event (node_at n l true)) (events_at n route cs) → events_at n route (up_to (is_call l) (c ∷ cs)) ≡ up_to (is_event (node_at n l true)) (events_at n route (c ∷ cs))
  front-step c cs true e h = rw (e, name-test n l c.label false true true e, name-test n l c.label true true true e) refl
  front-step c cs false e h =
      rw (e, name-test n l c.label false true false e, name-test n l c.label true true false e) (ap (λ es. arrival_of n route c ∷ departure_of n route c ∷ es) h)

  -- the events of the calls up to one are those up to its departure
  front : (cs : List Call) → events_at n route (up_to (is_call l) cs) ≡ up_to (is_event (node_at n l true)) (events_at n route cs)
  front [] = refl
  front (c ∷ cs) = front-step c cs (is_call l c) refl (front cs)

  back-step : (c : Call) (cs : List Call) (b : Bool) → is_call l c ≡ b → events_at n route (Cuts.from (is_call l) cs) ≡ Cuts.from (is_event (node_at n l false)) (events_at n route cs) → events_at n route (Cuts.from (is_call l) (c ∷ cs)) ≡ Cuts.from (is_event (node_at n l false)) (events_at n route (c ∷ cs))
  back-step c cs true e h = rw (e, name-test n l c.label false false true e) refl
  back-step c cs false e h = rw (e, name-test n l c.label false false false e, name-test n l c.label true false false e) h

  -- the events of the calls from one on are those from its arrival on
  back : (cs : List Call) → events_at n route (Cuts.from (is_call l) cs) ≡ Cuts.from (is_event (node_at n l false)) (events_at n route cs)
  back [] = refl
  back (c ∷ cs) = back-step c cs (is_call l c) refl (back cs)

get-changed : (f : Train → Train) (n : ℕ) (ts : List Train) → slice_get (change_train n f ts) n ≡ option_map f (slice_get ts n)
get-changed f n [] = refl
get-changed f zero (t ∷ ts) = refl
get-changed f (suc n) (t ∷ ts) = get-changed f n ts

module _ (n from to : ℕ) (via : List NewCall) where
  abbrev leaves : Event → Bool
  leaves = is_event (node_at n from true)

  abbrev comes : Event → Bool
  comes = is_event (node_at n to false)

  parts : (o : Option Train) → option_map_or (events_of n) (option_map (rerouted from to via) o) [] ≡ up_to leaves (option_map_or (events_of n) o []) ++ (option_map_or (λ (t : Train). events_at n t.route (new_calls t.next_label via)) o [] ++ Cuts.from comes (option_map_or (events_of n) o []))
  parts None = refl
  parts (Some t) =
      let head = up_to (is_call from) t.calls in
      let new = new_calls t.next_label via in
      let tail = Cuts.from (is_call to) t.calls in
      ap (events_at n t.route) (append_assoc head new tail)
      ∙ events-append n t.route head (new ++ tail)
      ∙ ap (λ es. events_at n t.route head ++ es) (events-append n t.route new tail)
      ∙ ap (λ es. es ++ (events_at n t.route new ++ events_at n t.route tail)) (front n t.route from t.calls)
      ∙ ap (λ es. up_to leaves (events_of n t) ++ (events_at n t.route new ++ es)) (back n t.route to t.calls)

  -- the events up to the departure of the one call, those of the new calls, and those from the arrival of the other on
  rerouted-events : (st : State) → train_events (effect st (Reroute n from to via)) n ≡ up_to leaves (train_events st n) ++ (new_events st n via ++ Cuts.from comes (train_events st n))
  unfolding effect
  rerouted-events st =
      ap (λ x. option_map_or (events_of n) x []) (get-changed (rerouted from to via) n st.trains) ∙ parts (slice_get st.trains n)

  -- the first edge against rank along the rerouted train
  pub rerouted_rank : (o : Opts) (st : State) → let xs = up_to leaves (train_events st n) in let ys = new_events st n via in first_against_rank (edges_along o (train_events (effect st (Reroute n from to via)) n)) ≡ option_or (rank_along o None xs) (option_or (rank_along o (last_of None xs) ys) (rank_along o (last_of (last_of None xs) ys) (Cuts.from comes (train_events st n))))
  rerouted_rank o st =
      ap (λ es. first_against_rank (edges_along o es)) (rerouted-events st)
      ∙ along-parts o (up_to leaves (train_events st n)) (new_events st n via) (Cuts.from comes (train_events st n))

  -- the same of a valid state: only the edges at the new calls can be
  pub joined_rank : (nw : Network) (st : State) (u v : Event) → IsValid nw st → event_named st (node_at n from true) ≡ Some u → event_named st (node_at n to false) ≡ Some v → let ys = new_events st n via in first_against_rank (edges_along nw.opts (train_events (effect st (Reroute n from to via)) n)) ≡ option_or (rank_along nw.opts (Some u) ys) (rank_to nw.opts (last_of (Some u) ys) v)
  joined_rank nw st u v valid leaving coming =
      let all = train_events st n in
      let clear = train-clear nw st n valid in
      rerouted_rank nw.opts st
      ∙ rw (front-clear nw.opts leaves None all clear, front-last leaves None all u leaving, back-clear nw.opts comes None (last_of (Some u) (new_events st n via)) all v clear coming) refl

  -- the events of the new calls, by the route of the train and its next label
  pub new-made : (route label : ℕ) (o : Option Train) → option_map (λ (t : Train). t.route) o ≡ Some route → option_map (λ (t : Train). t.next_label) o ≡ Some label → option_map_or (λ (t : Train). events_at n t.route (new_calls t.next_label via)) o [] ≡ events_at n route (new_calls label via)
  new-made route label None e f = absurd (cc)
  new-made route label (Some t) e f = cc

there-by : (st : State) (n from to : ℕ) (o : Option Train) → slice_get st.trains n ≡ o → stands_before from to (option_map_or (λ (t : Train). t.calls) o []) ≡ true → n < length st.trains
there-by st n from to None e h = absurd (cc)
there-by st n from to (Some t) e h = slice_get_within st.trains n t e

-- a train that makes two calls is there
pub train_there : (st : State) (n from to : ℕ) → stands_before from to (calls_of st n) ≡ true → n < length st.trains
train_there st n from to h = there-by st n from to (slice_get st.trains n) refl h

-- where no live event of a train behind one has a report, none is shown
none-reported : (t : ℕ) (vs : List Event) → All (λ v. v.key.train ≡ t) vs → first_report t vs ≡ None → any_reported vs ≡ None
none-reported t [] own h = refl
none-reported t (v ∷ vs) own h = grind (arith, nat_tests, own 0 v (omega arith), none-reported t vs (λ i d l. own (suc i) d (omega arith)))

none-after : (t : ℕ) (p : Event → Bool) (vs : List Event) → All (λ v. v.key.train ≡ t) vs → first_report t (after p vs) ≡ None → any_reported (after p vs) ≡ None
none-after t p [] own h = refl
none-after t p (v ∷ vs) own h =
    let rest : All (λ v. v.key.train ≡ t) vs = λ i d l. own (suc i) d (omega arith) in
    elim (cases_Bool (p v)) [
      | inl hit ↦ rw hit (none-reported t vs rest (rw hit at h))
      | inr miss ↦ rw miss (none-after t p vs rest (rw miss at h))
    ]

pub none-behind : (st : State) (n : Node) → report_after st n ≡ None → any_reported (after (is_event n) (train_events st n.train)) ≡ None
none-behind st n h =
    none-after n.train (is_event n) (train_events st n.train) (train_events-each st n.train (λ v. v.key.train ≡ n.train) (λ r e. events_at-train n.train r.route r.calls)) h
