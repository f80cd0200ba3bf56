-- What the edges to an event ask for, and which of them is named.
use Rattle.std.proofs.Common.{◌≡◌, ℕ, ◌+◌, Bool, true, false, cond, List, [], ◌∷◌, Option, Some, None, refl, sym, ◌∙◌, ap, arith, ◌⊎◌, inl, inr}
use Rattle.std.specs.List.{Contains, fold}
use Rattle.std.proofs.lemmas.Bool.{cases_Bool}
use Rattle.delay_model.specs.declared.network.Network.{Network}
use Rattle.delay_model.specs.declared.state.State.{State}
use Rattle.delay_model.specs.declared.state.Event.{Event}
use Rattle.delay_model.specs.declared.state.Edge.{Edge}
use Rattle.delay_model.specs.Timing.{event_time, later}
use Rattle.delay_model.proofs.Lists.{Contains-cases, Contains-there}
use Rattle.cause_laws.specs.Causes.{asks_for, goes_first}
use Rattle.cause_laws.proofs.Firsts.{first-itself, first-asym, first-trans}
use Rattle.event_causes.specs.declared.cause.Candidate.{Candidate}
use Rattle.event_causes.specs.declared.cause.Due.{Due}
use Rattle.event_causes.specs.Asking.{by_rule, first_of, with_asked, with_edge}

-- the time is the latest that is asked for
pub gathered-time : (nw : Network) (st : State) (v : Event) (time : ℕ) (es : List Edge) (d : Due)
    → (fold (with_edge nw st v time) d es).time ≡ fold (later (event_time nw st)) d.time es
gathered-time nw st v time [] d = refl
gathered-time nw st v time (e ∷ es) d = gathered-time nw st v time es (with_edge nw st v time d e)

-- a candidate is one of some edges that ask, with what the rules say of it, and none of them goes first
pub record IsNamedOf (ruled asks : Edge → Bool) (P : Edge → Type 0) (c : Candidate) : Type 0 where
  pub there : P c.edge
  pub asking : asks c.edge ≡ true
  pub by_rule : c.by_rule ≡ ruled c.edge
  pub first : (d : Edge) → P d → asks d ≡ true → goes_first ruled d c.edge ≡ false

-- none of some edges asks, or one that does is named
abbrev pub NamedCases : (Edge → Bool) → (Edge → Bool) → (Edge → Type 0) → Option Candidate → Type 0
NamedCases ruled asks P o =
    ((o ≡ None) × ((d : Edge) → P d → asks d ≡ true → ⊥)) ⊎ ((c : Candidate) × (o ≡ Some c) × IsNamedOf ruled asks P c)

-- the candidate that is named after one more edge
abbrev pub named_step : (Edge → Bool) → (Edge → Bool) → Option Candidate → Edge → Option Candidate
named_step ruled asks o e = cond (asks e) (Some (first_of (record { edge = e; by_rule = ruled e }) o)) o

module _ (ruled asks : Edge → Bool) where
  -- the same cases over other edges that are the same
  same-cases : (P Q : Edge → Type 0) (o : Option Candidate) → ((d : Edge) → P d → Q d) → ((d : Edge) → Q d → P d) → NamedCases ruled asks P o
      → NamedCases ruled asks Q o
  same-cases P Q o to back (inl none) = inl (none.0, λ d h asking. none.1 d (back d h) asking)
  same-cases P Q o to back (inr (c, is, h)) =
      inr (c, is, record { there = to c.edge h.there; asking = h.asking; by_rule = h.by_rule; first = λ d there asking. h.first d (back d there) asking })

  -- an edge that asks nothing of the time changes nothing
  step-silent : (P : Edge → Type 0) (o : Option Candidate) (e : Edge) → asks e ≡ false → NamedCases ruled asks P o
      → NamedCases ruled asks (λ d. P d ⊎ (d ≡ e)) o
  step-silent P o e silent (inl none) =
      inl (
        none.0,
        λ d h asking. elim h [
          | inl before ↦ none.1 d before asking
          | inr same ↦ let a : asks d ≡ asks e = ap asks same in absurd (cc)
        ],
      )
  step-silent P o e silent (inr (c, is, h)) =
      inr (
        c,
        is,
        record {
          there = inl h.there;
          asking = h.asking;
          by_rule = h.by_rule;
          first = λ d there asking. elim there [
            | inl before ↦ h.first d before asking
            | inr same ↦ let a : asks d ≡ asks e = ap asks same in absurd (cc)
          ];
        },
      )

  -- the first that asks is named
  step-first : (P : Edge → Type 0) (e : Edge) → asks e ≡ true → ((d : Edge) → P d → asks d ≡ true → ⊥)
      → IsNamedOf ruled asks (λ d. P d ⊎ (d ≡ e)) (record { edge = e; by_rule = ruled e })
  step-first P e asking none =
      record {
        there = inr refl;
        asking = asking;
        by_rule = refl;
        first = λ d there passes. elim there [
          | inl before ↦ absurd (none d before passes)
          | inr same ↦ ap (λ x. goes_first ruled x e) same ∙ first-itself ruled e
        ];
      }

  -- of one more that asks and one that is named, the one that goes first is named
  step-next : (P : Edge → Type 0) (e : Edge) (c : Candidate) → asks e ≡ true → IsNamedOf ruled asks P c
      → IsNamedOf ruled asks (λ d. P d ⊎ (d ≡ e)) (first_of (record { edge = e; by_rule = ruled e }) (Some c))
  step-next P e c asking h =
      elim (cases_Bool (goes_first ruled e c.edge)) [
        | inl hit ↦ rw (h.by_rule, hit) (record {
          there = inr refl;
          asking = asking;
          by_rule = refl;
          first = λ d there passes. elim there [
            | inl before ↦ first-trans ruled d c.edge e (h.first d before passes) (first-asym ruled e c.edge hit)
            | inr same ↦ ap (λ x. goes_first ruled x e) same ∙ first-itself ruled e
          ];
        })
        | inr miss ↦ rw (h.by_rule, miss) (record {
          there = inl h.there;
          asking = h.asking;
          by_rule = refl;
          first = λ d there passes. elim there [
            | inl before ↦ h.first d before passes
            | inr same ↦ ap (λ x. goes_first ruled x c.edge) same ∙ miss
          ];
        })
      ]

  one-step : (P : Edge → Type 0) (o : Option Candidate) (e : Edge) → NamedCases ruled asks P o
      → NamedCases ruled asks (λ d. P d ⊎ (d ≡ e)) (named_step ruled asks o e)
  one-step P o e h =
      elim (cases_Bool (asks e)) [
        | inr silent ↦ rw silent (step-silent P o e silent h)
        | inl asking ↦ rw asking (elim h [
          | inl none ↦ inr (record { edge = e; by_rule = ruled e }, rw none.0 refl, step-first P e asking none.1)
          | inr some ↦ inr (first_of (record { edge = e; by_rule = ruled e }) (Some some.0), rw some.1 refl, step-next P e some.0 asking some.2)
        ])
      ]

  among-cons : (P : Edge → Type 0) (e : Edge) (es : List Edge) (d : Edge) → ((P d ⊎ (d ≡ e)) ⊎ Contains es d) → P d ⊎ Contains (e ∷ es) d
  among-cons P e es d (inl (inl before)) = inl before
  among-cons P e es d (inl (inr same)) = inr (0, omega arith, sym same)
  among-cons P e es d (inr later) = inr (Contains-there e es d later)

  cons-among : (P : Edge → Type 0) (e : Edge) (es : List Edge) (d : Edge) → (P d ⊎ Contains (e ∷ es) d) → (P d ⊎ (d ≡ e)) ⊎ Contains es d
  cons-among P e es d (inl before) = inl (inl before)
  cons-among P e es d (inr there) =
      elim (Contains-cases e es d there) [
        | inl same ↦ inl (inr (sym same))
        | inr later ↦ inr later
      ]

  -- over edges one after another
  all-steps : (es : List Edge) (P : Edge → Type 0) (o : Option Candidate) → NamedCases ruled asks P o
      → NamedCases ruled asks (λ d. P d ⊎ Contains es d) (fold (named_step ruled asks) o es)
  all-steps [] P o h = same-cases P (λ d. P d ⊎ Contains [] d) o (λ d p. inl p) (λ d q. elim q [
    | inl p ↦ p
    | inr there ↦ let l = there.1 in absurd (omega arith)
  ]) h
  all-steps (e ∷ es) P o h =
      let Q : Edge → Type 0 = λ d. P d ⊎ (d ≡ e) in
      let next = named_step ruled asks o e in
      same-cases (λ d. Q d ⊎ Contains es d) (λ d. P d ⊎ Contains (e ∷ es) d) (fold (named_step ruled asks) next es) (among-cons P e es) (cons-among P e es)
      (all-steps es Q next (one-step P o e h))

  -- over all edges
  pub all-named : (es : List Edge) → NamedCases ruled asks (Contains es) (fold (named_step ruled asks) None es)
  all-named es =
      same-cases (λ d. ⊥ ⊎ Contains es d) (Contains es) (fold (named_step ruled asks) None es) (λ d q. elim q [
        | inl none ↦ absurd none
        | inr there ↦ there
      ]) (λ d there. inr there) (all-steps es (λ d. ⊥) None (inl (refl, λ d none asking. none)))

-- the candidate that is named is that of the steps
pub gathered-named : (nw : Network) (st : State) (v : Event) (time : ℕ) (es : List Edge) (d : Due)
    → (fold (with_edge nw st v time) d es).named ≡ fold (named_step (by_rule nw st v time) (asks_for (event_time nw st) time)) d.named es
gathered-named nw st v time [] d = refl
gathered-named nw st v time (e ∷ es) d = gathered-named nw st v time es (with_edge nw st v time d e)

-- after one more edge, whose time was read, the edges that are left ask what they did before
pub one-more : (nw : Network) (st : State) (v : Event) (time from : ℕ) (d next all : Due) (e : Edge) (es : List Edge) → from ≡ event_time nw st e.from
    → next ≡ with_asked (by_rule nw st v time e) time (from + e.weight) d e → fold (with_edge nw st v time) d (e ∷ es) ≡ all
    → fold (with_edge nw st v time) next es ≡ all
one-more nw st v time from d next all e es read is h =
    ap (λ x. fold (with_edge nw st v time) x es) (is ∙ ap (λ x. with_asked (by_rule nw st v time e) time (x + e.weight) d e) read) ∙ h
