-- Refusals of connections, and the edge of a kept one.
use Rattle.std.proofs.Common.{◌≡◌, ℕ, ◌&&◌, ◌||◌, Bool, true, false, cond, not, nat_eq, List, [], ◌∷◌, Option, Some, None, find, slice_get, is_none, inl, inr, refl, sym, ◌∙◌, ap}
use Rattle.std.specs.List.{All, AllPairs, list_any}
use Rattle.std.specs.Option.{option_map_or, option_or}
use Rattle.std.proofs.lemmas.Bool.{and_parts, or_cases, false_from_ne_true}
use Rattle.std.proofs.lemmas.List.Elements.{All-weaker}
use Rattle.std.proofs.lemmas.List.Folds.{list_any_none}
use Rattle.mt_base.specs.declared.keys.Node.{Node}
use Rattle.mt_base.proofs.KeyLemmas.{same_node-is}
use Rattle.delay_model.specs.declared.messages.Refusal.TheVariants.{Unknown, NoConnection}
use Rattle.delay_model.specs.declared.network.Network.{Network}
use Rattle.delay_model.specs.declared.overrides.Override.TheVariants.{Keep}
use Rattle.delay_model.specs.declared.state.EdgeKind.TheVariants.{Kept}
use Rattle.delay_model.specs.declared.state.Train.{Train}
use Rattle.delay_model.specs.declared.state.State.{State}
use Rattle.delay_model.specs.declared.state.Event.{Event}
use Rattle.delay_model.specs.Changes.{change}
use Rattle.delay_model.specs.Edges.{may_connect, change_between, edge_by_change, transfer}
use Rattle.delay_model.specs.Events.{events_of, event_named, is_event, is_live}
use Rattle.delay_model.specs.Refusals.{refused_if, is_no_connection, kept_edge}
use Rattle.delay_model.proofs.Apart.{AreApart, events_at-apart}
use Rattle.delay_model.proofs.Lists.{AllPairs-after, AllPairs-tail}
use Rattle.change_times.specs.ChangeTables.{ChangeTables}
use Rattle.edge_rules.specs.Inside.{HasOwnLabels}
use Rattle.edge_rules.proofs.Neighbours.{named-is, own-labels}

module _ (n : Node) (v : Event) where
  live : List Event → Bool
  live es = list_any (λ w. is_event n w && w.live) es

  live-step : (e : Event) (es : List Event) (b : Bool) → is_event n e ≡ b → All (AreApart e) es → (find (is_event n) es ≡ Some v → live es ≡ true → v.live ≡ true) → cond b (Some e) (find (is_event n) es) ≡ Some v → ((b && e.live) || live es) ≡ true → v.live ≡ true
  unfolding live
  live-step e es true is apart rest found h =
      let same : e ≡ v = cc in
      let no_other : live es ≡ false =
      list_any_none _ es (All-weaker (AreApart e) (λ w. (is_event n w && w.live) ≡ false) (λ w differ. false_from_ne_true _ (λ p. differ (same_node-is _ n is ∙ sym (same_node-is _ n (and_parts _ _ p).0)))) es apart) in
      elim (or_cases e.live (live es) h) [ inl here ↦ ap (λ (v : Event). v.live) (sym same) ∙ here | inr other ↦ absurd (cc) ]
  live-step e es false is apart rest found h = rest found h

  -- an event that is found by a live name among events that differ by name is live
  live-found : (es : List Event) → AllPairs AreApart es → find (is_event n) es ≡ Some v → live es ≡ true → v.live ≡ true
  unfolding live
  live-found [] apart found h = absurd (cc)
  live-found (e ∷ es) apart found h =
      live-step e es (is_event n e) refl (AllPairs-after AreApart [] e es apart) (live-found es (AllPairs-tail AreApart e es apart)) found h

  live-on : (o : Option Train) → ((t : Train) → o ≡ Some t → AllPairs AreApart (events_of n.train t)) → find (is_event n) (option_map_or (events_of n.train) o []) ≡ Some v → live (option_map_or (events_of n.train) o []) ≡ true → v.live ≡ true
  live-on None apart found h = absurd (cc)
  live-on (Some t) apart found h = live-found (events_of n.train t) (apart t refl) found h

named-live : (st : State) (n : Node) (v : Event) → All HasOwnLabels st.trains → event_named st n ≡ Some v → is_live st n ≡ true → v.live ≡ true
unfolding live
named-live st n v labels found h =
    live-on n v (slice_get st.trains n.train) (λ t there. events_at-apart n.train t.route t.calls (own-labels st.trains n.train t labels there)) found h

-- an arrival and a departure of another train, both live, between whose stops a change takes this long, if it is possible
module _ (nw : Network) (st now : State) (m n : Node) (u v : Event) (o : Option ℕ) (ch : ChangeTables) (same : now ≡ st) (labels : All HasOwnLabels st.trains) (live_m : true ≡ is_live now m) (live_n : true ≡ is_live now n) (apart : false ≡ nat_eq m.train n.train) (at_u : event_named now m ≡ Some u) (at_v : event_named now n ≡ Some v) (stops : ch.stops ≡ nw.stops) (transfers : ch.transfers ≡ nw.transfers) (default : ch.default ≡ nw.opts.change) (seconds : o ≡ change ch.stops ch.transfers ch.default u.stop v.stop) where
  from_live : is_live st m ≡ true
  from_live = ap (λ s. is_live s m) (sym same) ∙ sym live_m

  to_live : is_live st n ≡ true
  to_live = ap (λ s. is_live s n) (sym same) ∙ sym live_n

  from_named : event_named st m ≡ Some u
  from_named = ap (λ s. event_named s m) (sym same) ∙ at_u

  to_named : event_named st n ≡ Some v
  to_named = ap (λ s. event_named s n) (sym same) ∙ at_v

  between : change_between nw u v ≡ o
  between = rw (sym stops, sym transfers, sym default) (sym seconds)

  -- it is refused only if no change is possible
  pub refused_is : refused_if (is_none o) NoConnection ≡ option_or (refused_if (not (is_live st m && is_live st n)) Unknown) (refused_if (is_no_connection nw st m n) NoConnection)
  refused_is = rw (from_live, to_live, sym apart, from_named, to_named, between) refl

  -- the edge, if it is kept
  pub edge_is : (w : ℕ) → m.dep ≡ false → n.dep ≡ true → o ≡ Some w → kept_edge nw st m n ≡ record { from = u.key; to = v.key; weight = w; kind = Kept } ∷ []
  unfolding transfer
  edge_is w dep_m dep_n possible =
      let is_m = named-is st m u from_named in
      let is_n = named-is st n v to_named in
      let may : may_connect u v ≡ true =
      rw (named-live st m u labels from_named from_live, named-live st n v labels to_named to_live, ap (λ (x : Node). x.dep) is_m ∙ dep_m, ap (λ (x : Node). x.dep) is_n ∙ dep_n, ap (λ (x : Node). x.train) is_m, ap (λ (x : Node). x.train) is_n, sym apart) refl in
      rw (from_named, to_named, may) (ap (edge_by_change nw (Some Keep) u v) (between ∙ possible))
