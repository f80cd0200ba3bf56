-- The first ride that does not hold breaks a journey.
use Rattle.std.proofs.Common.{◌≡◌, ℕ, suc, ◌+◌, ◌-◌, ◌<◌, ◌≤◌, inl, inr, Bool, true, false, cond}
use Rattle.std.proofs.Common.{List, [], ◌∷◌, ◌++◌, Option, Some, None, MatchOption, find, length, slice_get, refl, sym, ◌∙◌, ap, subst, arith}
use Rattle.std.proofs.Math.Logic.{◌≢◌}
use Rattle.std.specs.List.{All}
use Rattle.std.specs.Option.{option_and_then, option_map, option_map_or}
use Rattle.std.proofs.lemmas.Bool.{both_ways, cases_lt, cond-true, eq-eqb, ne_eqb}
use Rattle.std.proofs.lemmas.List.Elements.{All-contains, All-head, All-tail, Contains-append_right}
use Rattle.std.proofs.lemmas.Option.{none-some, same_Some, slice_get_within}
use Rattle.mt_base.specs.declared.certificates.CertRide.{CertRide}
use Rattle.mt_base.specs.declared.journeys.PlanRide.{PlanRide}
use Rattle.mt_base.specs.declared.journeys.Query.{Query}
use Rattle.standing_laws.specs.declared.standings.Standing.{Standing}
use Rattle.standing_laws.specs.declared.standings.Standing.TheVariants.{Good, Broken}
use Rattle.delay_model.specs.declared.network.Network.{Network}
use Rattle.delay_model.specs.declared.state.Call.{Call}
use Rattle.delay_model.specs.declared.state.State.{State}
use Rattle.delay_model.specs.Cuts.{after}
use Rattle.delay_model.specs.Effect.{is_call}
use Rattle.delay_model.specs.Events.{calls_of}
use Rattle.delay_model.specs.Journeys.{IsInTime, MayBegin, StopsAndGoesOn}
use Rattle.delay_model.specs.Valid.{HasDistinctLabels, IsValid}
use Rattle.journey_laws.specs.Checked.{is_from_origin, is_in_time}
use Rattle.journey_laws.specs.Rides.{ride_between}
use Rattle.journey_laws.proofs.CheckedLemmas.{in_time-says, origin-says}
use Rattle.journey_laws.proofs.RideLemmas.{is-at, labelled}
use Rattle.journey_cert.proofs.CallLemmas.{calls-distinct}
use Rattle.standing_laws.specs.Standings.{reached_call, ride_from, ride_now, standing, standing_after}
use Rattle.journey_watch.specs.Holding.{Holds, IsLastArrival, RunsNow}
use Rattle.journey_watch.proofs.RideLemmas.{reached-split}

-- a call that the train reaches
reached : (between : List Call) (d : Call) (rest : List Call) → HasDistinctLabels (between ++ d ∷ rest) → All StopsAndGoesOn between → d.arrival.live ≡ true
    → reached_call d.label (between ++ d ∷ rest) ≡ Some d
reached [] d rest distinct passes arrives = rw (arrives, eq-eqb d.label d.label refl) refl
reached (c ∷ between) d rest distinct passes arrives =
    let lives = All-head StopsAndGoesOn c between passes in
    let there = Contains-append_right between (d ∷ rest) d (0, omega arith, refl) in
    let apart = ne_eqb c.label d.label (All-contains (λ (e : Call). c.label ≢ e.label) (between ++ d ∷ rest) d distinct.0 there) in
    rw (lives.0, apart, lives.1) (reached between d rest distinct.1 (All-tail StopsAndGoesOn c between passes) arrives)

distinct-after : (before : List Call) (c : Call) (cs : List Call) → HasDistinctLabels (before ++ c ∷ cs) → HasDistinctLabels cs
distinct-after [] c cs h = h.1
distinct-after (b ∷ before) c cs h = distinct-after before c cs h.1

-- the train's ride from a call to one that it reaches, by the calls' labels
taken : (nw : Network) (st : State) (name : CertRide) (cs rest : List Call) (c d : Call) → calls_of st name.train ≡ cs → find (is_call name.board) cs ≡ Some c
    → after (is_call name.board) cs ≡ rest → c.departure.live ≡ true → reached_call name.alight rest ≡ Some d → ride_now nw st name ≡ Some (ride_between nw st name.train 0 c d)
taken nw st name cs rest c d own found behind leaves to =
    let f = ride_between nw st name.train 0 c in
    rw (own, found, behind, to) (cond-true c.departure.live (Some (f d)) None leaves)

-- a standing is not both
good-broken : (t i : ℕ) → Good t ≡ Broken i → ⊥
good-broken t i same = absurd (cc)

broken-same : (n i : ℕ) → Broken n ≡ Broken i → n ≡ i
broken-same n i same = cc

good-same : (t at : ℕ) → Good t ≡ Good at → t ≡ at
good-same t at same = cc

module _ (nw : Network) (st : State) (valid : IsValid nw st) where
  -- a ride that runs is what its name finds
  ride-found : (name : CertRide) (r : PlanRide) → RunsNow nw st name r → ride_now nw st name ≡ Some r
  ride-found name r run =
      let c = run.boarded in
      let d = run.alighted in
      let rest = run.calls_between ++ d ∷ run.calls_after in
      let distinct = subst HasDistinctLabels run.are_calls (calls-distinct st valid.trains name.train) in
      let at = labelled run.calls_before c rest distinct in
      let to = reached run.calls_between d run.calls_after (distinct-after run.calls_before c rest distinct) run.passes run.arrives in
      let found = subst (λ l. find (is_call l) (run.calls_before ++ c ∷ rest) ≡ Some c) run.board_label at.0 in
      let behind = subst (λ l. after (is_call l) (run.calls_before ++ c ∷ rest) ≡ rest) run.board_label at.1 in
      let there = subst (λ l. reached_call l rest ≡ Some d) run.alight_label to in
      taken nw st name (run.calls_before ++ c ∷ rest) rest c d run.are_calls found behind run.departs there ∙ ap Some (sym run.ride_is)

  -- and what it finds runs
  runs-by : (name : CertRide) (r : PlanRide) (c : Call) → find (is_call name.board) (calls_of st name.train) ≡ Some c → (goes : Bool) → c.departure.live ≡ goes
      → (o : Option Call) → reached_call name.alight (after (is_call name.board) (calls_of st name.train)) ≡ o
      → cond goes (option_map (ride_between nw st name.train 0 c) o) None ≡ Some r → RunsNow nw st name r
  runs-by name r c found false leaves o to is = absurd (none-some r is)
  runs-by name r c found true leaves None to is = absurd (none-some r is)
  runs-by name r c found true leaves (Some d) to is =
      let at = is-at name.board (calls_of st name.train) c found in
      let on = reached-split name.alight (after (is_call name.board) (calls_of st name.train)) d to in
      record {
        calls_before = at.earlier;
        boarded = c;
        calls_between = on.earlier;
        alighted = d;
        calls_after = on.later;
        are_calls = at.split ∙ ap (λ es. at.earlier ++ c ∷ es) on.split;
        board_label = at.named;
        alight_label = on.label;
        departs = leaves;
        passes = on.passes;
        arrives = on.live;
        ride_is = sym (same_Some (ride_between nw st name.train 0 c d) r is);
      }

  found-runs : (name : CertRide) (r : PlanRide) → ride_now nw st name ≡ Some r → RunsNow nw st name r
  found-runs name r is = by (find (is_call name.board) (calls_of st name.train)) refl is
    where
      by : (o : Option Call) → find (is_call name.board) (calls_of st name.train) ≡ o
          → option_and_then (λ (c : Call). ride_from nw st name.train name.alight c (after (is_call name.board) (calls_of st name.train))) o ≡ Some r
          → RunsNow nw st name r
      by None found is = absurd (none-some r is)
      by (Some c) found is = runs-by name r c found c.departure.live refl (reached_call name.alight (after (is_call name.board) (calls_of st name.train))) refl is

  -- names at one place have one ride
  one-ride : (all : List CertRide) (i : ℕ) (a b : CertRide) (r s : PlanRide) → slice_get all i ≡ Some a
      → slice_get all i ≡ Some b → ride_now nw st a ≡ Some r → RunsNow nw st b s → r ≡ s
  one-ride all i a b r s at there is runs =
      let same : b ≡ a = same_Some b a (sym there ∙ at) in
      same_Some r s (sym is ∙ ap (ride_now nw st) (sym same) ∙ ride-found b s runs)

  module _ (q : Query) (all : List CertRide) where
    -- a place from which on the rides are these
    abbrev From : ℕ → List CertRide → Type 0
    From n rest = (k m : ℕ) → m ≡ n + k → slice_get all m ≡ slice_get rest k

    -- the ride at a place before
    record Before (n : ℕ) (r : PlanRide) : Type 0 where
      place : ℕ
      next : n ≡ suc place
      name : CertRide
      is : slice_get all place ≡ Some name
      ride : ride_now nw st name ≡ Some r

    abbrev HoldsAt : ℕ → Type 0
    HoldsAt i = Holds nw st q all i

    from-first : (n : ℕ) (c : CertRide) (cs : List CertRide) → From n (c ∷ cs) → slice_get all n ≡ Some c
    from-first n c cs from = from 0 n (omega arith)

    from-next : (n : ℕ) (c : CertRide) (cs : List CertRide) → From n (c ∷ cs) → From (n + 1) cs
    from-next n c cs from k m is = from (suc k) m (omega arith)

    before-next : (n : ℕ) (c : CertRide) (r : PlanRide) → slice_get all n ≡ Some c → ride_now nw st c ≡ Some r → Before (n + 1) r
    before-next n c r at is = record { place = n; next = omega arith; name = c; is = at; ride = is }

    -- a ride that runs and follows the one before holds
    holds-next : (n : ℕ) (a : PlanRide) → Before n a → (c : CertRide) (r : PlanRide) → slice_get all n ≡ Some c → ride_now nw st c ≡ Some r
        → is_in_time nw a.alight_stop a.alight_time r.board_stop r.board_time ≡ true → HoldsAt n
    holds-next n a before c r at is change =
        let next = before.next in
        let done = (in_time-says nw q a.alight_stop a.alight_time r.board_stop r.board_time).0 change in
        record {
          name = c;
          is = at;
          ride = r;
          runs = found-runs c r is;
          first = λ none. absurd (omega arith);
          follows = λ j b s i there runs.
              let same : before.place ≡ j = omega arith in
              let here : slice_get all before.place ≡ Some b = ap (slice_get all) same ∙ there in
              subst (λ (x : PlanRide). IsInTime nw x.alight_stop x.alight_time r.board_stop r.board_time) (one-ride all before.place before.name b a s before.is here before.ride runs) done;
        }

    -- one whose train does not run does not hold
    holds-runs : (n : ℕ) (c : CertRide) → slice_get all n ≡ Some c → ride_now nw st c ≡ None → HoldsAt n → ⊥
    holds-runs n c at none h =
        let same : h.name ≡ c = same_Some h.name c (sym h.is ∙ at) in
        none-some h.ride (sym none ∙ ap (ride_now nw st) (sym same) ∙ ride-found h.name h.ride h.runs)

    -- nor one that departs too soon
    holds-follows : (n : ℕ) (a : PlanRide) → Before n a → (c : CertRide) (r : PlanRide) → slice_get all n ≡ Some c → ride_now nw st c ≡ Some r
        → is_in_time nw a.alight_stop a.alight_time r.board_stop r.board_time ≡ false → HoldsAt n → ⊥
    holds-follows n a before c r at is late h =
        let same : h.ride ≡ r = sym (one-ride all n c h.name r h.ride at h.is is h.runs) in
        let done = h.follows before.place before.name a before.next before.is (found-runs before.name a before.ride) in
        let change = subst (λ (x : PlanRide). IsInTime nw a.alight_stop a.alight_time x.board_stop x.board_time) same done in
        both_ways (is_in_time nw a.alight_stop a.alight_time r.board_stop r.board_time) late ((in_time-says nw q a.alight_stop a.alight_time r.board_stop r.board_time).1 change)

    -- the same of the first ride
    holds-first : (c : CertRide) (r : PlanRide) → slice_get all 0 ≡ Some c → ride_now nw st c ≡ Some r → is_from_origin nw q r.board_stop r.board_time ≡ true → HoldsAt 0
    holds-first c r at is begins =
        let may = (origin-says nw q r.board_stop r.board_time).0 begins in
        record { name = c; is = at; ride = r; runs = found-runs c r is; first = λ _. may; follows = λ j b s i there runs. absurd (omega arith) }

    holds-begins : (c : CertRide) (r : PlanRide) → slice_get all 0 ≡ Some c → ride_now nw st c ≡ Some r → is_from_origin nw q r.board_stop r.board_time ≡ false → HoldsAt 0 → ⊥
    holds-begins c r at is late h =
        let same : h.ride ≡ r = sym (one-ride all 0 c h.name r h.ride at h.is is h.runs) in
        let may = subst (MayBegin nw q) same (h.first refl) in
        both_ways (is_from_origin nw q r.board_stop r.board_time) late ((origin-says nw q r.board_stop r.board_time).1 may)

    -- all from a place on hold, up to one that does not
    abbrev Breaks : ℕ → ℕ → Type 0
    Breaks n i = (n ≤ i) × (i < length all) × (HoldsAt i → ⊥) × ((j : ℕ) → n ≤ j → j < i → HoldsAt j)

    breaks-here : (n i : ℕ) (c : CertRide) → slice_get all n ≡ Some c → n ≡ i → (HoldsAt n → ⊥) → Breaks n i
    breaks-here n i c at same not =
        let within = slice_get_within all n c at in
        (omega arith, omega arith, subst (λ m. HoldsAt m → ⊥) same not, λ j from to. absurd (omega arith))

    breaks-later : (n i : ℕ) → HoldsAt n → Breaks (n + 1) i → Breaks n i
    breaks-later n i here later =
        let from = later.0 in (
          omega arith,
          later.1,
          later.2,
          λ j low high. elim (cases_lt n j) [
            | inl more ↦ later.3 j (omega arith) high
            | inr least ↦ let same : n ≡ j = omega arith in subst HoldsAt same here
          ],
        )

    -- all from a place on hold, and the last arrives then
    abbrev AllHold : ℕ → ℕ → Type 0
    AllHold n at = ((j : ℕ) → n ≤ j → j < length all → HoldsAt j) × IsLastArrival nw st q all at

    hold-later : (n at : ℕ) → HoldsAt n → AllHold (n + 1) at → AllHold n at
    hold-later n at here later = (
      λ j low high. elim (cases_lt n j) [
        | inl more ↦ later.0 j (omega arith) high
        | inr least ↦ let same : n ≡ j = omega arith in subst HoldsAt same here
      ],
      later.1,
    )

    hold-end : (n at : ℕ) (r : PlanRide) → Before n r → length all ≡ n → r.alight_time ≡ at → AllHold n at
    hold-end n at r before size arrives =
        let next = before.next in
        let last : before.place ≡ length all - 1 = omega arith in
        let is : slice_get all (length all - 1) ≡ Some before.name = ap (slice_get all) (sym last) ∙ before.is in (
          λ j low high. absurd (omega arith),
          subst (λ o. MatchOption o (q.time ≡ at) (λ name. (r : PlanRide) × RunsNow nw st name r × (r.alight_time ≡ at))) (sym is) (r, found-runs before.name r before.ride, arrives),
        )

    -- the standing of rides that are left, by whether the first of them holds
    module _ (n : ℕ) (c : CertRide) (cs : List CertRide) (here : slice_get all n ≡ Some c) (test : PlanRide → Bool)
        (passes : (r : PlanRide) → ride_now nw st c ≡ Some r → test r ≡ true → HoldsAt n)
        (fails : (r : PlanRide) → ride_now nw st c ≡ Some r → test r ≡ false → HoldsAt n → ⊥) where
      abbrev rest-of : PlanRide → Standing
      rest-of r = standing_after nw st r.alight_stop r.alight_time (n + 1) cs

      module _ (s : Standing) (P : Type 0) (goes : (r : PlanRide) → HoldsAt n → Before (n + 1) r → rest-of r ≡ s → P) (ends : (HoldsAt n → ⊥) → Broken n ≡ s → P) where
        by-test : (r : PlanRide) → ride_now nw st c ≡ Some r → (t : Bool) → test r ≡ t → cond t (rest-of r) (Broken n) ≡ s → P
        by-test r there true tested is = goes r (passes r there tested) (before-next n c r here there) is
        by-test r there false tested is = ends (fails r there tested) is

        by-ride : (o : Option PlanRide) → ride_now nw st c ≡ o → option_map_or (λ (r : PlanRide). cond (test r) (rest-of r) (Broken n)) o (Broken n) ≡ s → P
        by-ride None there is = ends (holds-runs n c here there) is
        by-ride (Some r) there is = by-test r there (test r) refl is

      -- as it is broken
      by-broken : (i : ℕ) → ((r : PlanRide) → Before (n + 1) r → rest-of r ≡ Broken i → Breaks (n + 1) i)
          → option_map_or (λ (r : PlanRide). cond (test r) (rest-of r) (Broken n)) (ride_now nw st c) (Broken n) ≡ Broken i → Breaks n i
      by-broken i more is =
          by-ride (Broken i) (Breaks n i) (λ r holds next rest. breaks-later n i holds (more r next rest)) (λ not same. breaks-here n i c here (broken-same n i same) not)
          (ride_now nw st c) refl is

      -- as it is good
      by-good : (at : ℕ) → ((r : PlanRide) → Before (n + 1) r → rest-of r ≡ Good at → AllHold (n + 1) at)
          → option_map_or (λ (r : PlanRide). cond (test r) (rest-of r) (Broken n)) (ride_now nw st c) (Broken n) ≡ Good at → AllHold n at
      by-good at more is =
          by-ride (Good at) (AllHold n at) (λ r holds next rest. hold-later n at holds (more r next rest)) (λ not same. absurd (good-broken at n (sym same)))
          (ride_now nw st c) refl is

    broken-after : (rest : List CertRide) (n i : ℕ) (a : PlanRide) → Before n a → From n rest → standing_after nw st a.alight_stop a.alight_time n rest ≡ Broken i → Breaks n i
    broken-after [] n i a before from is = absurd (good-broken a.alight_time i is)
    broken-after (c ∷ cs) n i a before from is =
        let here = from-first n c cs from in
        by-broken n c cs here (λ r. is_in_time nw a.alight_stop a.alight_time r.board_stop r.board_time)
        (λ r there test. holds-next n a before c r here there test) (λ r there test. holds-follows n a before c r here there test) i
        (λ r next rest. broken-after cs (n + 1) i r next (from-next n c cs from) rest) is

    good-after : (rest : List CertRide) (n at : ℕ) (a : PlanRide) → Before n a → From n rest → length all ≡ n + length rest
        → standing_after nw st a.alight_stop a.alight_time n rest ≡ Good at → AllHold n at
    good-after [] n at a before from size is = hold-end n at a before (omega arith) (good-same a.alight_time at is)
    good-after (c ∷ cs) n at a before from size is =
        let here = from-first n c cs from in
        by-good n c cs here (λ r. is_in_time nw a.alight_stop a.alight_time r.board_stop r.board_time)
        (λ r there test. holds-next n a before c r here there test) (λ r there test. holds-follows n a before c r here there test) at
        (λ r next rest. good-after cs (n + 1) at r next (from-next n c cs from) (omega arith) rest) is

    -- all are those from the first place on
    from-all : From 0 all
    from-all k m is = let same : m ≡ k = omega arith in ap (slice_get all) same

  -- a broken standing is the first ride that does not hold
  pub breaks : (q : Query) (rides : List CertRide) (i : ℕ) → standing nw st q rides ≡ Broken i
      → (i < length rides) × (Holds nw st q rides i → ⊥) × ((j : ℕ) → j < i → Holds nw st q rides j)
  breaks q [] i is = absurd (good-broken q.time i is)
  breaks q (c ∷ cs) i is =
      let all = c ∷ cs in
      let first = by-broken q all 0 c cs refl (λ r. is_from_origin nw q r.board_stop r.board_time) (λ r there test. holds-first q all c r refl there test)
      (λ r there test. holds-begins q all c r refl there test) i
      (λ r next rest. broken-after q all cs 1 i r next (from-next q all 0 c cs (from-all q all)) rest) is in
      (first.1, first.2, λ j less. first.3 j (omega arith) less)

  -- with a good one all hold, and the last arrives then
  pub is-good : (q : Query) (rides : List CertRide) (at : ℕ) → standing nw st q rides ≡ Good at
      → ((j : ℕ) → j < length rides → Holds nw st q rides j) × IsLastArrival nw st q rides at
  is-good q [] at is = (λ j less. absurd (omega arith), good-same q.time at is)
  is-good q (c ∷ cs) at is =
      let all = c ∷ cs in
      let first = by-good q all 0 c cs refl (λ r. is_from_origin nw q r.board_stop r.board_time) (λ r there test. holds-first q all c r refl there test)
      (λ r there test. holds-begins q all c r refl there test) at
      (λ r next rest. good-after q all cs 1 at r next (from-next q all 0 c cs (from-all q all)) (omega arith) rest) is in
      (λ j less. first.0 j (omega arith) less, first.1)
