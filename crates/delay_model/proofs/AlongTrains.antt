-- Along a train the times of live events do not fall.
use Rattle.std.proofs.Common.{◌≡◌, ℕ, ◌+◌, ◌≤◌, true, ◌&&◌, List, [], ◌∷◌, ◌++◌, Option, Some, None, nat_eq, is_some, unwrap_or, refl, sym, ◌∙◌, ap, subst, arith}
use Rattle.std.specs.List.{All, AllPairs, Contains, fold}
use Rattle.std.proofs.lemmas.Bool.{cond_both, cond-true, and_parts, and_from, eqb-true, eq-eqb}
use Rattle.std.proofs.lemmas.List.{append_assoc}
use Rattle.std.proofs.lemmas.List.Elements.{All-contains, All-head, All-tail, Contains-append_left, Contains-append_right, Contains-get_or}
use Rattle.mt_base.specs.declared.keys.Key.{Key}
use Rattle.mt_base.specs.declared.options.Opts.{Opts}
use Rattle.mt_base.specs.Order.{is_same, node_of}
use Rattle.mt_base.proofs.KeyLemmas.{same-is, same-itself}
use Rattle.delay_model.specs.declared.network.Network.{Network}
use Rattle.delay_model.specs.declared.state.State.{State}
use Rattle.delay_model.specs.declared.state.Event.{Event}
use Rattle.delay_model.specs.declared.state.Edge.{Edge}
use Rattle.delay_model.specs.Events.{events, live_report}
use Rattle.delay_model.specs.Edges.{edges, train_edges, transfer_edges, train_edge, override_of}
use Rattle.delay_model.specs.Timing.{incoming, first_report, after_key, cap, floor_of, later, capped, local, time, event_time}
use Rattle.delay_model.specs.Valid.{IsValid}
use Rattle.delay_model.proofs.Lists.{AllPairs-tail, AllPairs-after}
use Rattle.delay_model.proofs.Apart.{AreApart, RisesTo, events-apart, events-rise}
use Rattle.delay_model.proofs.Ends.{RunsOn, runs_on-from, runs_on-to, train_edges-each}
use Rattle.delay_model.proofs.Solve.{IsGraph, valid-graph, incoming-there, time-local}
use Rattle.delay_model.proofs.Bounds.{AsksUpTo, fold-asks}

-- what stands after an event with a key of its own is what follows it
pub after_key-at : (xs : List Event) (u : Event) (ys : List Event) → AllPairs AreApart (xs ++ u ∷ ys) → after_key u.key (xs ++ u ∷ ys) ≡ ys
after_key-at [] u ys apart = cond-true (is_same u.key u.key) ys (after_key u.key ys) (same-itself u.key)
after_key-at (x ∷ xs) u ys apart =
    let rest = xs ++ u ∷ ys in
    let among = Contains-append_right xs (u ∷ ys) u (0, omega arith, refl) in
    cond_both (is_same x.key u.key) rest (after_key u.key rest) (λ zs. zs ≡ ys) (λ alike. absurd (All-contains (AreApart x) rest u (AllPairs-after AreApart [] x rest apart) among (ap node_of (same-is x.key u.key alike))))
    (λ _. after_key-at xs u ys (AllPairs-tail AreApart x rest apart))

-- the cap of an event is the first report of its train after it
pub cap-at : (es xs : List Event) (u : Event) (ys : List Event) → es ≡ xs ++ u ∷ ys → AllPairs AreApart es → cap es u ≡ first_report u.key.train ys
unfolding cap
cap-at es xs u ys there apart =
    ap (first_report u.key.train) (ap (after_key u.key) there ∙ after_key-at xs u ys (subst (λ zs. AllPairs AreApart zs) there apart))

-- a reported event gives its train's first report from there on
pub first_report-reported : (v : Event) (vs : List Event) (r : ℕ) → live_report v ≡ Some r → first_report v.key.train (v ∷ vs) ≡ Some r
first_report-reported v vs r h =
    cond-true (nat_eq v.key.train v.key.train && is_some (live_report v)) (live_report v) (first_report v.key.train vs) (and_from _ _ (eq-eqb v.key.train v.key.train refl) (ap is_some h))
    ∙ h

-- an event that is not reported is passed over
pub first_report-passed : (train : ℕ) (v : Event) (vs : List Event) → live_report v ≡ None → first_report train (v ∷ vs) ≡ first_report train vs
first_report-passed train v vs h =
    cond_both (nat_eq v.key.train train && is_some (live_report v)) (live_report v) (first_report train vs) (λ o. o ≡ first_report train vs)
    (λ reported. let some : is_some (live_report v) ≡ true = (and_parts (nat_eq v.key.train train) (is_some (live_report v)) reported).1 in let none = ap is_some h in absurd (cc)) (λ _. refl)

-- what bounds each report of a train from below bounds the first
pub first_report-from : (s train : ℕ) (vs : List Event) → All (λ v. train ≡ v.key.train → (r : ℕ) → live_report v ≡ Some r → s ≤ r) vs → (c : ℕ) → first_report train vs ≡ Some c → s ≤ c
first_report-from s train [] h c = λ at. absurd (cc)
first_report-from s train (v ∷ vs) h c =
    let P : Event → Type 0 = λ v. train ≡ v.key.train → (r : ℕ) → live_report v ≡ Some r → s ≤ r in
    cond_both (nat_eq v.key.train train && is_some (live_report v)) (live_report v) (first_report train vs) (λ o. o ≡ Some c → s ≤ c)
    (λ reported at. All-head P v vs h (sym (eqb-true _ _ (and_parts _ _ reported).0)) c at)
    (λ _ at. first_report-from s train vs (All-tail P v vs h) c at)

capped-le-cap : (o : Option ℕ) (c x : ℕ) → o ≡ Some c → capped o x ≤ c
capped-le-cap None c x h = absurd (cc)
capped-le-cap (Some d) c x h = let e : d ≡ c = cc in omega arith

-- of two events, reported as a and b or not, the second is not earlier: where it is reported, that caps the first or is
-- no less than its report; where it isn't, they have one cap, which is no less than the first's report
settled-le : (a b p q : Option ℕ) (x y : ℕ) → ((s r : ℕ) → a ≡ Some s → b ≡ Some r → s ≤ r) → ((r : ℕ) → b ≡ Some r → p ≡ Some r) → (b ≡ None → p ≡ q) → ((s c : ℕ) → a ≡ Some s → q ≡ Some c → s ≤ c) → unwrap_or a (capped p x) ≤ y → unwrap_or a (capped p x) ≤ unwrap_or b (capped q y)
settled-le (Some s) (Some r) p q x y reports caps one low asked = reports s r refl refl
settled-le None (Some r) p q x y reports caps one low asked = capped-le-cap p r x (caps r refl)
settled-le a None p None x y reports caps one low asked = asked
settled-le (Some s) None p (Some c) x y reports caps one low asked = let k = low s c refl refl in omega arith
settled-le None None p (Some c) x y reports caps one low asked = let k = capped-le-cap p c x (one refl) in omega arith

-- what an edge along a train asks for is no more than the latest of what is asked for
asked-along : (o : Opts) (gs : List Edge) (t : Key → ℕ) (a : ℕ) (u v : Event) → Contains gs (train_edge o u v) → t u.key ≤ fold (later t) a (incoming gs v.key)
asked-along o gs t a u v there =
    let m = fold (later t) a (incoming gs v.key) in
    let e = train_edge o u v in
    let le : t u.key + e.weight ≤ m = All-contains (AsksUpTo t m) (incoming gs v.key) e (fold-asks t (incoming gs v.key) a) (incoming-there gs v.key e there (same-itself v.key)) refl in
    omega arith

step-rises : (o : Opts) (es : List Event) (gs : List Edge) → IsGraph es gs → AllPairs AreApart es → AllPairs RisesTo es → (u v : Event) → RunsOn es u v → Contains gs (train_edge o u v) → time es gs u.key ≤ time es gs v.key
unfolding local
step-rises o es gs graph apart rise u v on edge =
    let t = time es gs in
    let is_u = time-local es gs graph u (runs_on-from es u v on) in
    let is_v = time-local es gs graph v (runs_on-to es u v on) in
    let n = u.key.train in
    let ys = on.after in
    let p : cap es u ≡ first_report n (v ∷ ys) = cap-at es on.before u (v ∷ ys) on.there apart in
    let q : cap es v ≡ first_report n ys =
    cap-at es (on.before ++ u ∷ []) v ys (on.there ∙ sym (append_assoc on.before (u ∷ []) (v ∷ ys))) apart ∙ ap (λ m. first_report m ys) (sym on.train)
    in
    let later_reports = AllPairs-after RisesTo on.before u (v ∷ ys) (subst (λ zs. AllPairs RisesTo zs) on.there rise) in
    let x = fold (later t) (floor_of u) (incoming gs u.key) in
    let y = fold (later t) (floor_of v) (incoming gs v.key) in
    let at_u : live_report u ≡ u.report = cond-true u.live u.report None on.from_live in
    let at_v : live_report v ≡ v.report = cond-true v.live v.report None on.to_live in
    let asked = asked-along o gs t (floor_of v) u v edge in
    let le =
    settled-le u.report v.report (cap es u) (cap es v) x y (λ s r a b. All-head (RisesTo u) v ys later_reports on.train s r (at_u ∙ a) (at_v ∙ b))
    (λ r b. p ∙ ap (λ m. first_report m (v ∷ ys)) on.train ∙ first_report-reported v ys r (at_v ∙ b))
    (λ b. p ∙ first_report-passed n v ys (at_v ∙ b) ∙ sym q)
    (λ s c a b. first_report-from s n ys (All-tail (λ w. n ≡ w.key.train → (r : ℕ) → live_report w ≡ Some r → s ≤ r) v ys (λ k d l same r at. later_reports k d l same s r (at_u ∙ a) at)) c (sym q ∙ b)) (omega arith)
    in
    omega arith

-- in a valid state the times do not fall along the trains
pub times-rise : (nw : Network) (st : State) → IsValid nw st → All (λ e. event_time nw st e.from ≤ event_time nw st e.to) (train_edges nw.opts 0 st.trains)
unfolding edges event_time
times-rise nw st valid = λ k d l.
    let es = events st in
    let gs = edges nw st in
    let trains = train_edges nw.opts 0 st.trains in
    train_edges-each nw.opts st (λ e. Contains gs e → time es gs e.from ≤ time es gs e.to) (λ u v on edge.
    step-rises nw.opts es gs (valid-graph nw st valid) (events-apart st valid.trains) (events-rise st valid.trains) u v on edge) k d l
    (Contains-append_left trains (transfer_edges nw (override_of st) es) _ (Contains-get_or trains k d l))
