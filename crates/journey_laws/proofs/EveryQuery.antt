-- Every query has a good certificate: what a scan of all rides finds, in the order of their departures.
use Rattle.std.proofs.Common.{◌≡◌, ◌⊎◌, inl, inr, ℕ, zero, suc, ◌+◌, ◌≤◌, ◌<◌, true, false, List, [], ◌∷◌, ◌++◌, length, map, Option, Some, None, refl, sym, ◌∙◌, ap, subst, arith}
use Rattle.std.specs.List.{All, AllPairs, Contains}
use Rattle.std.specs.Option.{IfSome}
use Rattle.std.proofs.lemmas.Bool.{both_ways, cases_Bool, cases_eq, cases_lt}
use Rattle.std.proofs.lemmas.List.Elements.{All-cons, All-contains, All-get_or, All-head, All-nil, All-push, All-tail, All-weaker, Contains-append_left, Contains-push}
use Rattle.std.proofs.lemmas.List.Quantifiers.{all_pairs_push}
use Rattle.std.proofs.lemmas.Option.{none-some, same_Some}
use Rattle.mt_base.specs.declared.journeys.PlanRide.{PlanRide}
use Rattle.mt_base.specs.declared.journeys.Query.{Query}
use Rattle.mt_base.specs.declared.tables.StopRow.{StopRow}
use Rattle.delay_model.specs.declared.network.Network.{Network}
use Rattle.delay_model.specs.declared.state.State.{State}
use Rattle.delay_model.specs.Changes.{is_stop}
use Rattle.delay_model.specs.Journeys.{IsRide, is_one_station}
use Rattle.delay_model.specs.Valid.{IsValid}
use Rattle.delay_model.proofs.Lists.{AllPairs-nil, Contains-cases}
use Rattle.delay_model.specs.AtStops.{AreAtStops}
use Rattle.journey_laws.specs.Certificates.{AreRidesUntil, IsGoodCertificate, name_of, time_in}
use Rattle.journey_laws.specs.Reached.{IsEarly, IsFinished, IsOpen}
use Rattle.journey_laws.specs.Scans.{IsBestTaken, IsScanOf}
use Rattle.mt_base.specs.declared.certificates.CertRide.{CertRide}
use Rattle.mt_base.specs.declared.certificates.Cert.{Cert}
use Rattle.mt_base.specs.declared.certificates.Reach.{Reach}
use Rattle.journey_laws.proofs.Beginnings.{IsAfter, after-journey, after-ride, open-after}
use Rattle.journey_laws.proofs.BestArrivals.{Rises, all-found, cases-early, each-found, search-certified}
use Rattle.journey_laws.proofs.Decided.{arrived-cases, board-cases, cases-option, lowered, ride-taken}
use Rattle.journey_laws.proofs.Forward.{alights-at_stop, ride-forward}
use Rattle.journey_laws.proofs.RideLemmas.{ride-there, trains-rides}
use Rattle.journey_laws.specs.Rides.{rides_of_trains}
use Rattle.journey_laws.proofs.Scanning.{at_once-ends, scan-ends, scan-passes, scan-starts, scan-takes, taken-already}

-- a beginning of a journey ends at stop b at time t
abbrev pub Ends : Network → State → Query → ℕ → ℕ → Type 0
Ends nw st q b t = (k : ℕ) × (r : PlanRide) × IsAfter nw st q k r × (r.alight_stop ≡ b) × (r.alight_time ≡ t)

-- one ends in the destination's station at time t
abbrev pub EndsThere : Network → State → Query → ℕ → Type 0
EndsThere nw st q t = (k : ℕ) × (r : PlanRide) × IsAfter nw st q k r × (is_one_station nw r.alight_stop q.to_stop ≡ true) × (r.alight_time ≡ t)

-- a scan that has looked at the rides that are `Seen`, at stops below n: each time at a stop is found by the beginning of a journey, and so is the best arrival
record IsSearched (nw : Network) (st : State) (q : Query) (n : ℕ) (best : Option ℕ) (reached : ℕ → Option ℕ) (Seen : PlanRide → Type 0) : Type 0 where
  pub scan : IsScanOf nw st q best reached Seen
  pub within : (b : ℕ) → n ≤ b → reached b ≡ None
  pub found : (b t : ℕ) → reached b ≡ Some t → Ends nw st q b t
  pub best_found : IfSome best (EndsThere nw st q)

abbrev Searched : Network → State → Query → ℕ → (PlanRide → Type 0) → Type 0
Searched nw st q n Seen = (best : Option ℕ) × (reached : ℕ → Option ℕ) × IsSearched nw st q n best reached Seen

-- what is early is before the best arrival
pub early-lt : (best : Option ℕ) (t at : ℕ) → IsEarly best t → best ≡ Some at → t < at
early-lt best t at early is = subst (λ o. IsEarly o t) is early

-- no ride departs at or after some time
departs-before : (rs : List PlanRide) → (n : ℕ) × All (λ (r : PlanRide). r.board_time < n) rs
departs-before [] = (0, All-nil (λ (r : PlanRide). r.board_time < 0))
departs-before (r ∷ rs) =
    let rest = departs-before rs in
    let n = rest.0 + r.board_time + 1 in
    (n, All-cons (λ (r : PlanRide). r.board_time < n) r rs (omega arith) (All-weaker (λ (r : PlanRide). r.board_time < rest.0) (λ (r : PlanRide). r.board_time < n) (λ s lt. omega arith) rs rest.1))

module _ (nw : Network) (st : State) (q : Query) where
  searched-starts : (n : ℕ) → Searched nw st q n (λ r. ⊥)
  searched-starts n = (None, (λ b. None), record { scan = scan-starts nw st q; within = λ b past. refl; found = λ b t at. absurd (none-some t at); best_found = tt })

  searched-weaker : (n : ℕ) (Seen Now : PlanRide → Type 0) → ((r : PlanRide) → IsRide nw st r → Now r → Seen r) → Searched nw st q n Seen → Searched nw st q n Now
  searched-weaker n Seen Now rest h = (h.0, h.1, record { scan = scan-passes nw st q h.0 h.1 Seen Now (λ r ride now _. rest r ride now) h.2.scan; within = h.2.within; found = h.2.found; best_found = h.2.best_found })

  -- what a ride that ends a beginning of a journey makes of the best arrival
  best-better : (best : Option ℕ) → IfSome best (EndsThere nw st q) → (k : ℕ) (r : PlanRide) → IsAfter nw st q k r → (new : Option ℕ) × IsBestTaken nw q r.alight_stop r.alight_time best new × IfSome new (EndsThere nw st q)
  best-better best found k r after = elim (cases_Bool (is_one_station nw r.alight_stop q.to_stop)) [
    | inr apart ↦ (best, record { no_later = λ t h. h; there = λ one. absurd (both_ways _ apart one) }, found)
    | inl one ↦ elim (cases-early best r.alight_time) [
      | inr by ↦ (best, record { no_later = λ t h. h; there = λ _. by }, found)
      | inl early ↦ (
        Some r.alight_time,
        record { no_later = λ t h. let lt = early-lt best r.alight_time h.0 early h.1 in let le = h.2 in (r.alight_time, refl, omega arith); there = λ _. (r.alight_time, refl, omega arith) },
        (k, r, after, one, refl),
      )
    ]
  ]

  module _ (valid : IsValid nw st) (n : ℕ) (fits : (r : PlanRide) → IsRide nw st r → r.alight_stop < n) where
    -- one ride more
    searched-takes : (Seen : PlanRide → Type 0) (r : PlanRide) → IsRide nw st r → ((s : PlanRide) → Seen s → s.board_time ≤ r.board_time) → Searched nw st q n Seen → Searched nw st q n (λ s. Seen s ⊎ (s ≡ r))
    searched-takes Seen r ride before (best, reached, h) =
        let Now : PlanRide → Type 0 = λ s. Seen s ⊎ (s ≡ r) in
        elim (board-cases nw q reached r.board_stop r.board_time n h.within) [
          | inr shut ↦ (best, reached, record { scan = scan-passes nw st q best reached Seen Now (λ s goes now can. elim now [ inl seen ↦ seen | inr same ↦ absurd (shut (subst (IsOpen nw q reached) same can)) ]) h.scan; within = h.within; found = h.found; best_found = h.best_found })
          | inl can ↦ elim (arrived-cases reached r.alight_stop r.alight_time) [
            | inl by ↦ (best, reached, record { scan = scan-takes nw st q valid best best reached reached Seen Now r ride can (taken-already r reached by) (record { no_later = λ t there. there; there = λ one. let there = h.scan.there r.alight_stop by.0 by.1 one in let le = by.2 in let le' = there.2 in (there.0, there.1, omega arith) }) now h.scan; within = h.within; found = h.found; best_found = h.best_found })
            | inr new ↦
                let after = open-after nw st q reached h.found r ride can in
                let better = best-better best h.best_found after.0 r after.1 in
                let taken = ride-taken r reached new in (
                  better.0,
                  lowered reached r.alight_stop r.alight_time,
                  record {
                    scan = scan-takes nw st q valid best better.0 reached (lowered reached r.alight_stop r.alight_time) Seen Now r ride can taken better.1 now h.scan;
                    within = λ b past. elim (cases-option (lowered reached r.alight_stop r.alight_time b)) [
                      | inl none ↦ none
                      | inr some ↦ elim (taken.others b some.0 some.1) [
                        | inl old ↦ absurd (none-some some.0 (sym (h.within b past) ∙ old))
                        | inr here ↦ let within = fits r ride in let at = here.0 in absurd (omega arith)
                      ]
                    ];
                    found = λ b t at. elim (taken.others b t at) [
                      | inl old ↦ h.found b t old
                      | inr here ↦ (after.0, r, after.1, sym here.0, sym here.1)
                    ];
                    best_found = better.2;
                  },
                )
          ]
        ]
      where
        now : (s : PlanRide) → IsRide nw st s → Seen s ⊎ (s ≡ r) → (Seen s ⊎ (s ≡ r)) × (s.board_time ≤ r.alight_time)
        now s goes (inl seen) = let on = ride-forward nw st valid r ride in let by = before s seen in (inl seen, omega arith)
        now s goes (inr same) = let on = ride-forward nw st valid r ride in let time : s.board_time ≡ r.board_time = ap (λ (s : PlanRide). s.board_time) same in (inr same, omega arith)

    -- the rides of a list that depart at a time
    searched-at : (time : ℕ) (rs : List PlanRide) → All (IsRide nw st) rs → (Seen : PlanRide → Type 0) → ((s : PlanRide) → Seen s → s.board_time ≤ time) → Searched nw st q n Seen → Searched nw st q n (λ s. Seen s ⊎ (Contains rs s × (s.board_time ≡ time)))
    searched-at time [] all Seen before h =
        searched-weaker n Seen (λ s. Seen s ⊎ (Contains [] s × (s.board_time ≡ time))) (λ s ride now. elim now [ inl seen ↦ seen | inr none ↦ let l = none.0.1 in absurd (omega arith) ]) h
    searched-at time (r ∷ rs) all Seen before h =
        let rest = All-tail (IsRide nw st) r rs all in
        elim (cases_eq r.board_time time) [
          | inl now ↦
              let Next : PlanRide → Type 0 = λ s. Seen s ⊎ (s ≡ r) in
              let first = searched-takes Seen r (All-head (IsRide nw st) r rs all) (λ s seen. let le = before s seen in omega arith) h in
              searched-weaker n (λ s. Next s ⊎ (Contains rs s × (s.board_time ≡ time))) (λ s. Seen s ⊎ (Contains (r ∷ rs) s × (s.board_time ≡ time))) (λ s ride what. elim what [
                | inl seen ↦ inl (inl seen)
                | inr by ↦ elim (Contains-cases r rs s by.0) [ inl here ↦ inl (inr (sym here)) | inr later ↦ inr (later, by.1) ]
              ]) (searched-at time rs rest Next (λ s next. elim next [
                | inl seen ↦ before s seen
                | inr same ↦ let at : s.board_time ≡ r.board_time = ap (λ (s : PlanRide). s.board_time) same in omega arith
              ]) first)
          | inr other ↦
              searched-weaker n (λ s. Seen s ⊎ (Contains rs s × (s.board_time ≡ time))) (λ s. Seen s ⊎ (Contains (r ∷ rs) s × (s.board_time ≡ time))) (λ s ride what. elim what [
                | inl seen ↦ inl seen
                | inr by ↦ elim (Contains-cases r rs s by.0) [
                  | inl here ↦ absurd (other (ap (λ (s : PlanRide). s.board_time) here ∙ by.1))
                  | inr later ↦ inr (later, by.1)
                ]
              ]) (searched-at time rs rest Seen before h)
        ]

    -- those that depart before a time
    searched-before : (rs : List PlanRide) → All (IsRide nw st) rs → (time : ℕ) → Searched nw st q n (λ s. Contains rs s × (s.board_time < time))
    searched-before rs all zero =
        searched-weaker n (λ s. ⊥) (λ s. Contains rs s × (s.board_time < 0)) (λ s ride now. let l = now.1 in omega arith) (searched-starts n)
    searched-before rs all (suc time) =
        let Seen : PlanRide → Type 0 = λ s. Contains rs s × (s.board_time < time) in
        searched-weaker n (λ s. Seen s ⊎ (Contains rs s × (s.board_time ≡ time))) (λ s. Contains rs s × (s.board_time < suc time)) (λ s ride now. elim (cases_lt s.board_time time) [
          | inl less ↦ inl (now.0, less)
          | inr same ↦ let lt = now.1 in inr (now.0, omega arith)
        ]) (searched-at time rs all Seen (λ s seen. let lt = seen.1 in omega arith) (searched-before rs all time))

    -- all of them
    search-ends : (rs : List PlanRide) → All (IsRide nw st) rs → ((r : PlanRide) → IsRide nw st r → Contains rs r) → is_one_station nw q.from_stop q.to_stop ≡ false → (best : Option ℕ) × (reached : ℕ → Option ℕ) × IsFinished nw st q best reached × ((b : ℕ) → n ≤ b → reached b ≡ None) × ((b t : ℕ) → reached b ≡ Some t → Ends nw st q b t) × IfSome best (EndsThere nw st q)
    search-ends rs all there apart =
        let end = departs-before rs in
        let h = searched-before rs all end.0 in
        (h.0, h.1, scan-ends nw st q h.0 h.1 (λ s. Contains rs s × (s.board_time < end.0)) apart (λ r ride from early. (there r ride, All-contains (λ (r : PlanRide). r.board_time < end.0) rs r end.1 (there r ride))) h.2.scan, h.2.within, h.2.found, h.2.best_found)

-- the stops below k that are reached before the best arrival, by rising number
record IsPartBelow (best : Option ℕ) (reached : ℕ → Option ℕ) (k : ℕ) (xs : List Reach) : Type 0 where
  pub rising : AllPairs Rises xs
  pub each : All (λ x. (x.stop < k) × (reached x.stop ≡ Some x.time) × IsEarly best x.time) xs
  pub all : (b t : ℕ) → b < k → reached b ≡ Some t → IsEarly best t → Contains xs (record { stop = b; time = t })

module _ (best : Option ℕ) (reached : ℕ → Option ℕ) where
  abbrev Each : ℕ → Reach → Type 0
  Each k x = (x.stop < k) × (reached x.stop ≡ Some x.time) × IsEarly best x.time

  wider-each : (k : ℕ) (xs : List Reach) → All (Each k) xs → All (Each (suc k)) xs
  wider-each k xs each = All-weaker (Each k) (Each (suc k)) (λ x h. let lt = h.0 in (omega arith, h.1, h.2)) xs each

  part-same : (k : ℕ) (xs : List Reach) → IsPartBelow best reached k xs → ((t : ℕ) → reached k ≡ Some t → IsEarly best t → ⊥) → IsPartBelow best reached (suc k) xs
  part-same k xs part none = record {
    rising = part.rising;
    each = wider-each k xs part.each;
    all = λ b t within at early. elim (cases_lt b k) [
      | inl less ↦ part.all b t less at early
      | inr past ↦ let same : b ≡ k = omega arith in absurd (none t (ap reached (sym same) ∙ at) early)
    ];
  }

  part-more : (k : ℕ) (xs : List Reach) → IsPartBelow best reached k xs → (t : ℕ) → reached k ≡ Some t → IsEarly best t → IsPartBelow best reached (suc k) (xs ++ record { stop = k; time = t } ∷ [])
  part-more k xs part t at early = record {
    rising = all_pairs_push Rises xs (record { stop = k; time = t }) part.rising (λ i d within. (All-get_or (Each k) xs i d within part.each).0);
    each = All-push (Each (suc k)) xs (record { stop = k; time = t }) (wider-each k xs part.each) (omega arith, at, early);
    all = λ b s within there soon. elim (cases_lt b k) [
      | inl less ↦ Contains-append_left xs (record { stop = k; time = t } ∷ []) (record { stop = b; time = s }) (part.all b s less there soon)
      | inr past ↦
          let same : k ≡ b = omega arith in
          let time = same_Some t s (sym at ∙ ap reached same ∙ there) in
          let whole : ◌≡◌ {A = Reach} (record { stop = k; time = t }) (record { stop = b; time = s }) = λ i. record { stop = same i; time = time i } in
          subst (Contains (xs ++ record { stop = k; time = t } ∷ [])) whole (Contains-push xs (record { stop = k; time = t }))
    ];
  }

  early-part : (k : ℕ) → (xs : List Reach) × IsPartBelow best reached k xs
  early-part zero = ([], record { rising = AllPairs-nil Rises; each = All-nil (Each 0); all = λ b t within. absurd (omega arith) })
  early-part (suc k) =
      let before = early-part k in
      elim (cases-option (reached k)) [
        | inl none ↦ (before.0, part-same k before.0 before.1 (λ t at early. none-some t (sym none ∙ at)))
        | inr some ↦ elim (cases-early best some.0) [
          | inl early ↦ (before.0 ++ record { stop = k; time = some.0 } ∷ [], part-more k before.0 before.1 some.0 some.1 early)
          | inr late ↦ (
            before.0,
            part-same k before.0 before.1 (λ t at early.
                let same = same_Some some.0 t (sym some.1 ∙ at) in
                let lt = early-lt best t late.0 early late.1 in
                let le = late.2 in
                omega arith),
          )
        ]
      ]

module _ (nw : Network) (st : State) (q : Query) where
  -- a finished search whose stops and best arrival are found has a certificate
  certified : (n : ℕ) (best : Option ℕ) (reached : ℕ → Option ℕ) (names : List CertRide) → IsFinished nw st q best reached → ((b : ℕ) → n ≤ b → reached b ≡ None) → ((b t : ℕ) → reached b ≡ Some t → is_stop nw.stops b ≡ true) → AreRidesUntil nw st q best names → (c : Cert) × IsGoodCertificate nw st q c
  certified n best reached names done within stops journey =
      let part = early-part best reached n in
      let xs = part.0 in
      let c : Cert = record { arrives = best; rides = names; reached = xs } in (
        c,
        search-certified nw st q best reached c done refl journey (
          part.1.rising,
          All-weaker (Each best reached n) (λ x. (is_stop nw.stops x.stop ≡ true) × IsEarly best x.time) (λ x h. (stops x.stop x.time h.1, h.2)) xs part.1.each,
        ) (λ b t. (
          (λ at.
              let x = each-found nw st q (Each best reached n) xs part.1.each b t at in
              (subst (λ b. reached b ≡ Some t) x.1 (subst (λ t. reached x.0.stop ≡ Some t) x.2 x.3.1), subst (IsEarly best) x.2 x.3.2)),
          (λ h. elim (cases_lt b n) [
            | inl less ↦ All-contains (λ x. time_in xs x.stop ≡ Some x.time) xs (record { stop = b; time = t }) (all-found xs part.1.rising) (part.1.all b t less h.0 h.1)
            | inr past ↦ absurd (none-some t (sym (within b past) ∙ h.0))
          ]),
        )),
      )

  -- the rides of a journey that arrives at the best arrival
  rides-until : (best : Option ℕ) → IfSome best (EndsThere nw st q) → (names : List CertRide) × AreRidesUntil nw st q best names
  rides-until None found = ([], refl)
  rides-until (Some at) (k, r, after, there, time) =
      let all = after-journey nw st q at k r [] after (there, time) in
      (map name_of all.0, (all.0, refl, all.1))

pub stop-within : (stops : List StopRow) (b : ℕ) → is_stop stops b ≡ true → b < length stops
stop-within [] b h = absurd (cc)
stop-within (s ∷ stops) zero h = omega arith
stop-within (s ∷ stops) (suc b) h = let l = stop-within stops b h in omega arith

module _ (nw : Network) (st : State) (at_stops : AreAtStops nw.stops st) where
  module _ (valid : IsValid nw st) (q : Query) where
    apart-certified : is_one_station nw q.from_stop q.to_stop ≡ false → (c : Cert) × IsGoodCertificate nw st q c
    apart-certified apart =
        let n = length nw.stops in
        let h = search-ends nw st q valid n (λ r ride. stop-within nw.stops r.alight_stop (alights-at_stop nw st at_stops r ride)) (rides_of_trains nw st (length st.trains)) (trains-rides nw st (length st.trains)) (ride-there nw st valid) apart in
        let names = rides-until nw st q h.0 h.5 in
        certified nw st q n h.0 h.1 names.0 h.2 h.3 (λ b t at.
        let end = h.4 b t at in
        subst (λ b. is_stop nw.stops b ≡ true) end.3 (alights-at_stop nw st at_stops end.1 (after-ride nw st q end.0 end.1 end.2))) names.1

    pub every-certified : (c : Cert) × IsGoodCertificate nw st q c
    every-certified = elim (cases_Bool (is_one_station nw q.from_stop q.to_stop)) [
      | inl one ↦ certified nw st q 0 (Some q.time) (λ b. None) [] (at_once-ends nw st q valid one) (λ b past. refl) (λ b t at. absurd (none-some t at)) ([], refl, (one, refl))
      | inr apart ↦ apart-certified apart
    ]
