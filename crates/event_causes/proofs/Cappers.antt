-- The event whose report is the cap of another.
use Rattle.edge_rules.proofs.Words.{◌≡◌, ◌≢◌, ℕ, Bool, true, false, List, [], ◌∷◌, ◌++◌, ◌∙◌, sym, refl, ap, arith, Option, Some, None, find, is_some, All}
use Rattle.edge_rules.proofs.Words.{All-contains_itself, All-contains, Contains, Key, is_same, node_of, Train, State, Event, events, events_of}
use Rattle.edge_rules.proofs.Words.{events_at-train, event_named, is_event, train_events, report_after, same-itself, option_map, found-there}
use Rattle.std.proofs.Common.{◌&&◌, nat_lt, cond, inl, inr}
use Rattle.std.proofs.lemmas.List.Elements.{All-head, All-tail, All-weaker}
use Rattle.delay_model.specs.Timing.{after_key, cap}
use Rattle.delay_model.proofs.Lists.{Contains-cases}
use Rattle.state_laws.proofs.Caps.{after_key-skip}
use Rattle.state_laws.proofs.Placed.{placed, not-same}
use Rattle.edge_rules.proofs.Caps.{cap-is}
use Rattle.edge_rules.proofs.Neighbours.{named-at}
use Rattle.cause_laws.specs.declared.causes.Cause.TheVariants.{Capped}
use Rattle.cause_laws.specs.Causes.{by_cap, capper, first_reported}
use Rattle.cause_laws.proofs.Firsts.{first-cases, contains-after}

-- a live event that is reported
abbrev pub is_reported : Event → Bool
is_reported v = v.live && is_some v.report

-- the first reported event of these, or of those behind the one with a key
abbrev pub reported_from : Bool → Key → List Event → Option Event
reported_from true k es = find is_reported es
reported_from false k es = find is_reported (after_key k es)

after_key-within : (es ys : List Event) (w : Event) → Contains es w → after_key w.key (es ++ ys) ≡ after_key w.key es ++ ys
after_key-within [] ys w h = let l = h.1 in absurd (omega arith)
after_key-within (x ∷ xs) ys w h =
    elim (Contains-cases x xs w h) [
      | inl is ↦ let own : is_same x.key w.key ≡ true = ap (λ (e : Event). is_same e.key w.key) is ∙ same-itself w.key in rw own
      | inr there ↦ let rest = after_key-within xs ys w there in grind arith
    ]

none-reported : (train : ℕ) (ys : List Event) → All (λ v. v.key.train ≢ train) ys → first_reported train ys ≡ None
none-reported train [] h = refl
none-reported train (v ∷ vs) h =
    let P : Event → Type 0 = λ v. v.key.train ≢ train in
    let here = All-head P v vs h in let rest = none-reported train vs (All-tail P v vs h) in grind arith

-- the first reported event of a train among its own events, which stand before others
own-reported : (train : ℕ) (es ys : List Event) → All (λ v. v.key.train ≡ train) es → All (λ v. v.key.train ≢ train) ys
    → first_reported train (es ++ ys) ≡ find is_reported es
own-reported train [] ys h k = none-reported train ys k
own-reported train (v ∷ vs) ys h k =
    let P : Event → Type 0 = λ v. v.key.train ≡ train in
    let here = All-head P v vs h in let rest = own-reported train vs ys (All-tail P v vs h) k in grind arith

capper-within : (train : ℕ) (xs es ys : List Event) (w : Event) → w.key.train ≡ train → Contains es w → All (λ v. v.key.train ≢ train) xs
    → All (λ v. v.key.train ≡ train) es → All (λ v. v.key.train ≢ train) ys → capper (xs ++ (es ++ ys)) w ≡ find is_reported (after_key w.key es)
unfolding capper
capper-within train xs es ys w own h hx he hy =
    let P : Event → Type 0 = λ v. v.key.train ≡ train in
    let rest = All-weaker (Contains es) P (λ v there. All-contains P es v he there) in
    ap (λ train. first_reported train (after_key w.key (xs ++ (es ++ ys)))) own
    ∙ rw (after_key-skip w.key xs (es ++ ys) (not-same w.key train xs own hx), after_key-within es ys w h)
    (own-reported train (after_key w.key es) ys
    (All-weaker (Contains es) P (λ v there. All-contains P es v he there) (after_key w.key es)
    (λ i d l. contains-after (λ (v : Event). is_same v.key w.key) es _ (All-contains_itself (after_key w.key es) i d l))) hy)

-- the event whose report is the cap is found among those of the train
pub capper-is : (st : State) (v : Event) → event_named st (node_of v.key) ≡ Some v
    → capper (events st) v ≡ reported_from false v.key (train_events st v.key.train)
unfolding events
capper-is st v named =
    let at = named-at st (node_of v.key) v named in
    let p = placed (λ (t : Train). t) 0 v.key.train v.key.train st.trains at.train (omega arith) at.there in
    grind (
      arith,
      at.there,
      p.old,
      capper-within v.key.train p.before (events_of v.key.train at.train) p.after v,
      found-there (is_event (node_of v.key))
          (train_events st v.key.train) v,
      p.others_before,
      p.others_after,
      events_at-train v.key.train at.train.route at.train.calls,
    )

-- an event that is reported is the first of those that begin with it
found-first : (v : Event) (vs : List Event) → v.live ≡ true → is_some v.report ≡ true → find is_reported (v ∷ vs) ≡ Some v
found-first v vs live reported = rw (live, reported) refl

-- the walk ends at the event whose report is the cap
pub walk-found : (st : State) (v u : Event) (us : List Event) → event_named st (node_of v.key) ≡ Some v
    → reported_from true v.key (u ∷ us) ≡ reported_from false v.key (train_events st v.key.train) → u.live ≡ true → is_some u.report ≡ true
    → Some u.key ≡ option_map (λ (u : Event). u.key) (capper (events st) v)
walk-found st v u us named is live reported = ap (option_map (λ (u : Event). u.key)) (sym (found-first u us live reported) ∙ is ∙ sym (capper-is st v named))

nothing-left : (behind : Bool) (k : Key) → reported_from behind k [] ≡ None
nothing-left true k = refl
nothing-left false k = refl

-- or at the end, where there is none
pub walk-ended : (st : State) (v : Event) (behind : Bool) → event_named st (node_of v.key) ≡ Some v
    → reported_from behind v.key [] ≡ reported_from false v.key (train_events st v.key.train)
    → None ≡ option_map (λ (u : Event). u.key) (capper (events st) v)
walk-ended st v behind named is = ap (option_map (λ (u : Event). u.key)) (sym (nothing-left behind v.key) ∙ is ∙ sym (capper-is st v named))

-- without a later report nothing caps the event
pub cap-none : (st : State) (v : Event) (due : ℕ) → event_named st (node_of v.key) ≡ Some v → None ≡ report_after st (node_of v.key)
    → None ≡ by_cap due (capper (events st) v)
unfolding cap capper
cap-none st v due named none =
    let is = cap-is st (node_of v.key) v named in
    elim (first-cases v.key.train (after_key v.key (events st))) [
      | inl free ↦ sym (ap (by_cap due) free.0)
      | inr some ↦ absurd (let a = some.2.cap in cc)
    ]

-- a later report caps the event where it is before the event is due
pub cap-some : (st : State) (v : Event) (due r : ℕ) → event_named st (node_of v.key) ≡ Some v → Some r ≡ report_after st (node_of v.key)
    → cond (nat_lt r due) (option_map Capped (option_map (λ (u : Event). u.key) (capper (events st) v))) None ≡ by_cap due (capper (events st) v)
unfolding cap capper
cap-some st v due r named report =
    let is = cap-is st (node_of v.key) v named in
    elim (first-cases v.key.train (after_key v.key (events st))) [
      | inl free ↦ absurd (let a = free.1 in cc)
      | inr some ↦
          let a = some.2.cap in
          let same : some.1 ≡ r = cc in
          rw (some.2.named, some.2.report, same) refl
    ]
