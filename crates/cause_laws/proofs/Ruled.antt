-- Whether the rules alone hold an edge between two events is told by the two.
use Rattle.std.proofs.Common.{◌≡◌, ℕ, ◌&&◌, Bool, true, false, List, [], ◌∷◌, None, refl, sym, ◌∙◌, ap, subst, arith, inl, inr}
use Rattle.std.specs.List.{All, Contains, list_any}
use Rattle.std.proofs.lemmas.Bool.{cases_Bool, and_from, and_parts}
use Rattle.std.proofs.lemmas.List.Folds.{list_any_at}
use Rattle.std.proofs.lemmas.List.Elements.{All-contains, All-weaker, All-contains_itself}
use Rattle.mt_base.specs.Order.{is_same}
use Rattle.mt_base.proofs.KeyLemmas.{same-is, same-itself}
use Rattle.delay_model.specs.declared.network.Network.{Network}
use Rattle.delay_model.specs.declared.state.State.{State}
use Rattle.delay_model.specs.declared.state.Event.{Event}
use Rattle.delay_model.specs.declared.state.Edge.{Edge}
use Rattle.delay_model.specs.Events.{events}
use Rattle.delay_model.specs.Edges.{transfer, transfers_from}
use Rattle.delay_model.specs.Timing.{counts}
use Rattle.delay_model.specs.Valid.{IsValid}
use Rattle.delay_model.proofs.Lists.{All-flat_map, Contains-there}
use Rattle.delay_model.proofs.Solve.{valid-graph}
use Rattle.cause_laws.specs.Causes.{edges_by_rule, holds_by_rule, waits_by_rule}
use Rattle.cause_laws.proofs.OfTrains.{contains-flat, transfer-ends}

-- where a test holds of one of a list, it holds of an element
any-there : {X : Type 0} (p : X → Bool) (xs : List X) → list_any p xs ≡ true → (x : X) × Contains xs x × (p x ≡ true)
any-there p [] h = absurd (cc)
any-there p (y ∷ ys) h =
    elim (cases_Bool (p y)) [
      | inl hit ↦ (y, (0, omega arith, refl), hit)
      | inr miss ↦ let rest = any-there p ys (rw miss at h) in (rest.0, Contains-there y ys rest.0 rest.1, rest.2)
    ]

-- where a test holds of an element, it holds of one of the list
any-of : {X : Type 0} (p : X → Bool) (xs : List X) (x : X) → Contains xs x → p x ≡ true → list_any p xs ≡ true
any-of p xs x there hit = list_any_at p xs there.0 x there.1 (ap p there.2 ∙ hit)

both-alike : (a b : Bool) → (a ≡ true → b ≡ true) → (b ≡ true → a ≡ true) → a ≡ b
both-alike true true f g = refl
both-alike true false f g = sym (f refl)
both-alike false true f g = g refl
both-alike false false f g = refl

module _ (nw : Network) (st : State) (valid : IsValid nw st) (u v : Event) (e : Edge) (time : ℕ) (hu : Contains (events st) u) (hv : Contains (events st) v) (from : e.from ≡ u.key) (to : e.to ≡ v.key) where
  test : Edge → Bool
  test g = is_same g.from e.from && (is_same g.to e.to && counts g.kind g.to.time time)

  counting : Edge → Bool
  counting g = counts g.kind g.to.time time

  -- an edge by rule that the two events make is one of all
  from-two : waits_by_rule nw u v time ≡ true → holds_by_rule (edges_by_rule nw st) time e ≡ true
  unfolding test counting
  from-two h =
      let es = events st in
      let found = any-there counting (transfer nw None u v) h in
      let g = found.0 in
      let ends = All-contains (λ (g : Edge). (g.from ≡ u.key) × (g.to ≡ v.key)) (transfer nw None u v) g (transfer-ends nw None u v) found.1 in
      let there = contains-flat (transfers_from nw (λ _ _. None) es) es u g hu (contains-flat (λ w. transfer nw None u w) es v g hv found.1) in
      let starts = ap (λ k. is_same k e.from) (ends.0 ∙ sym from) ∙ same-itself e.from in
      let leads = ap (λ k. is_same k e.to) (ends.1 ∙ sym to) ∙ same-itself e.to in
      any-of test (edges_by_rule nw st) g there (and_from _ _ starts (and_from _ _ leads found.2))

  -- an edge by rule from and to the same events is one that the two make
  IsOfTwo : Edge → Type 0
  IsOfTwo g = test g ≡ true → waits_by_rule nw u v time ≡ true

  each : All IsOfTwo (edges_by_rule nw st)
  unfolding test counting IsOfTwo
  each =
      let es = events st in
      All-flat_map IsOfTwo (transfers_from nw (λ _ _. None) es) es (All-weaker (Contains es) (λ a. All IsOfTwo (transfers_from nw (λ _ _. None) es a)) (λ a ha.
      All-flat_map IsOfTwo (λ b. transfer nw None a b) es (All-weaker (Contains es) (λ b. All IsOfTwo (transfer nw None a b)) (λ b hb.
      All-weaker (Contains (transfer nw None a b)) IsOfTwo (λ g hg hit.
      let ends = All-contains (λ (g : Edge). (g.from ≡ a.key) × (g.to ≡ b.key)) (transfer nw None a b) g (transfer-ends nw None a b) hg in
      let parts = and_parts (is_same g.from e.from) (is_same g.to e.to && counting g) hit in
      let rest = and_parts (is_same g.to e.to) (counting g) parts.1 in
      let graph = valid-graph nw st valid in
      let one : a ≡ u = graph.one a u ha hu (sym ends.0 ∙ same-is g.from e.from parts.0 ∙ from) in
      let other : b ≡ v = graph.one b v hb hv (sym ends.1 ∙ same-is g.to e.to rest.0 ∙ to) in
      any-of counting (transfer nw None u v) g (subst (λ x. Contains (transfer nw None x v) g) one (subst (λ x. Contains (transfer nw None a x) g) other hg)) rest.1)
      (transfer nw None a b) (All-contains_itself (transfer nw None a b))) es (All-contains_itself es))) es (All-contains_itself es))

  pub rule-of-two : holds_by_rule (edges_by_rule nw st) time e ≡ waits_by_rule nw u v time
  unfolding test IsOfTwo
  rule-of-two =
      both-alike _ _ (λ h. let found = any-there test (edges_by_rule nw st) h in All-contains IsOfTwo (edges_by_rule nw st) found.0 each found.1 found.2) from-two
