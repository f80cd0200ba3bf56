-- A train of the timetable is good in any place: its labels count up, its times do not fall, and nothing is known but the schedule.
use Rattle.schedule_build.proofs.Words.{not, nat_eq, ◌&&◌, ◌≡◌, ℕ, ◌+◌, ◌<◌, ◌≤◌, true, false, nat_lt, List, [], ◌∷◌, None, length, All, refl, arith, inl, inr, suc, ◌⊎◌, append-nil, common_steps, elements}
use Rattle.schedule_build.proofs.Words.{All-nil, All-append, Opts, Network, events_at, events_of, arrival_of, departure_of, live_report, TableCall, call_at, loaded_from, loaded_train}
use Rattle.schedule_build.proofs.Words.{DoNotFallFrom, loaded-is, IsGood, IsUnreported}
use Rattle.mt_base.specs.declared.keys.Key.{Key}
use Rattle.mt_base.specs.Order.{is_before}
use Rattle.delay_model.specs.declared.state.Event.{Event}
use Rattle.delay_model.specs.Edges.{edges_along, edge_on}
use Rattle.delay_model.specs.Valid.{HasDistinctLabels, IsForward, IsRun, IsSmall}
use Rattle.train_nodes.specs.Loaded.{DoNotFall}
use Rattle.state_laws.proofs.Extras.{IsFreshCall, fresh-each, fresh-small, none-live, silent-before}
use Rattle.schedule_build.proofs.SmallTimes.{HasSmallTimes}

calls-fresh : (count place : ℕ) (cs : List TableCall) → count ≡ place + length cs → All HasSmallTimes cs
    → All (IsFreshCall place count) (loaded_from count place cs) × HasDistinctLabels (loaded_from count place cs)
calls-fresh count place [] e h = (All-nil (IsFreshCall place count), tt)
calls-fresh count place (c ∷ cs) e h =
    let small = h 0 c (omega arith) in
    let rest = calls-fresh count (place + 1) cs (omega arith) (λ k d l. h (suc k) d (omega arith)) in
    (grind (arith, elements, small, rest.0), (λ k d l same. let f = rest.0 k d l in absurd (omega (arith, f.from)), rest.1))

runs-on : (count place : ℕ) (cs : List TableCall) → count ≡ place + length cs → IsRun (not (nat_eq place 0) && nat_lt place count) (loaded_from count place cs)
runs-on count place [] e = grind (arith, common_steps)
runs-on count place (c ∷ cs) e = grind (arith, common_steps, runs-on count (place + 1) cs)

-- an event of a train is settled before one that is not earlier, and later by label or the departure of the same call
before-by : (a b : Key) → a.time ≤ b.time → a.train ≡ b.train → (a.label < b.label) ⊎ ((a.label ≡ b.label) × (a.dep ≡ false) × (b.dep ≡ true)) → is_before a b ≡ true
unfolding is_before
before-by a b le same h = grind (arith, common_steps)

on-forward : (o : Opts) (u v : Event) (vs : List Event) → u.key.time ≤ v.key.time → u.key.train ≡ v.key.train
    → (u.key.label < v.key.label) ⊎ ((u.key.label ≡ v.key.label) × (u.key.dep ≡ false) × (v.key.dep ≡ true)) → All IsForward (edge_on o u (v ∷ vs))
on-forward o u v vs le same h = grind (arith, elements, before-by u.key v.key le same h)

-- the edges along a train whose times do not fall, from an event on
calls-forward : (o : Opts) (n route count place : ℕ) (v : Event) (cs : List TableCall) → v.key.train ≡ n → v.key.label < place → DoNotFallFrom v.key.time cs → All IsForward (edges_along o (v ∷ events_at n route (loaded_from count place cs)))
calls-forward o n route count place v [] e l h = All-nil IsForward
calls-forward o n route count place v (c ∷ cs) e l h =
    let a = arrival_of n route (call_at count place c) in
    let d = departure_of n route (call_at count place c) in
    let rest = events_at n route (loaded_from count (place + 1) cs) in
    All-append IsForward _ _ (on-forward o v a (d ∷ rest) h.0 e (inl l)) (All-append IsForward _ _ (on-forward o a d rest h.1 refl (inr (refl, refl, refl))) (calls-forward o n route count (place + 1) d cs refl (omega arith) h.2))

all-forward : (o : Opts) (n route : ℕ) (cs : List TableCall) → DoNotFall cs → All IsForward (edges_along o (events_at n route (loaded_from (length cs) 0 cs)))
all-forward o n route [] h = All-nil IsForward
all-forward o n route (c ∷ cs) h =
    let count = length (c ∷ cs) in
    let a = arrival_of n route (call_at count 0 c) in
    let d = departure_of n route (call_at count 0 c) in
    let rest = events_at n route (loaded_from count 1 cs) in
    All-append IsForward (edge_on o a (d ∷ rest)) _ (on-forward o a d rest h.1 refl (inr (refl, refl, refl))) (calls-forward o n route count 1 d cs refl (omega arith) h.2)

pub loaded-good : (nw : Network) (n day route : ℕ) (cs : List TableCall) → All HasSmallTimes cs → DoNotFall cs → IsGood nw n (loaded_train day route cs)
loaded-good nw n day route cs small h =
    let count = length cs in
    let calls = loaded_from count 0 cs in
    let made = calls-fresh count 0 cs (omega arith) small in
    let fresh = made.0 in
    rw (← loaded-is cs) (record {
      train = record {
        labels = made.1;
        used = λ k d l. (fresh k d l).below;
        run = runs-on count 0 cs (omega arith);
        reports = λ number.
            let es = events_at number route calls in
            rw (← append-nil es) (silent-before es [] (fresh-each (λ v. live_report v ≡ None) (λ v _ _ r. none-live v r) 0 count number route calls fresh) tt);
      };
      forward = all-forward nw.opts n route cs h;
      unreported = fresh-each IsUnreported (λ v _ _ r _. r) 0 count n route calls fresh;
      small = fresh-each IsSmall fresh-small 0 count n route calls fresh;
    })

pub loaded-silent : (n day route : ℕ) (cs : List TableCall) → All HasSmallTimes cs → All (λ v. v.report ≡ None) (events_of n (loaded_train day route cs))
loaded-silent n day route cs small =
    rw (← loaded-is cs) (fresh-each (λ v. v.report ≡ None) (λ v _ _ r. r) 0 (length cs) n route _ (calls-fresh (length cs) 0 cs (omega arith) small).0)
