-- No journey arrives before the best arrival of a search that has come to its end, or of a good certificate.
use Rattle.std.proofs.Common.{◌≡◌, ◌⊎◌, inl, inr, ℕ, ◌≤◌, ◌<◌, true, false, List, [], ◌∷◌, get_or, length, map, nat_eq, Option, Some, None, refl, sym, ◌∙◌, ap, subst, arith}
use Rattle.std.specs.List.{All, AllPairs}
use Rattle.std.proofs.lemmas.Bool.{both_ways, cases_Bool, cases_lt, eq-eqb, eqb-true, ne_eqb}
use Rattle.std.proofs.lemmas.List.Elements.{All-cons, All-head, All-nil, All-tail, All-weaker}
use Rattle.std.proofs.lemmas.Option.{none-some, same_Some, MatchOption-at_some, MatchOption-at_none}
use Rattle.mt_base.specs.declared.journeys.PlanRide.{PlanRide}
use Rattle.mt_base.specs.declared.journeys.Query.{Query}
use Rattle.delay_model.specs.declared.network.Network.{Network}
use Rattle.delay_model.specs.declared.state.State.{State}
use Rattle.delay_model.specs.Journeys.{HasNoJourney, IsEarliest, IsJourney, is_one_station}
use Rattle.delay_model.specs.Valid.{IsValid}
use Rattle.delay_model.proofs.Lists.{AllPairs-after, AllPairs-tail}
use Rattle.journey_laws.specs.Certificates.{AreEarlyStops, AreJourney, AreRidesUntil, IsEarlyPart, IsGoodCertificate, name_of, time_in}
use Rattle.journey_laws.specs.Reached.{HasArrivals, HasArrived, IsAtOnce, IsEarly, IsElsewhere, IsFinished, IsOpen}
use Rattle.mt_base.specs.declared.certificates.Cert.{Cert}
use Rattle.mt_base.specs.declared.certificates.Reach.{Reach}
use Rattle.journey_laws.proofs.Beginnings.{all-arrive, early-before, journey-ends}

-- a time is early, or the best arrival is no later
pub cases-early : (best : Option ℕ) (t : ℕ) → IsEarly best t ⊎ ((at : ℕ) × (best ≡ Some at) × (at ≤ t))
cases-early None t = inl tt
cases-early (Some at) t = elim (cases_lt t at) [
  | inl lt ↦ inl lt
  | inr le ↦ inr (at, refl, le)
]

-- the best arrival is not early
pub best-not_early : (best : Option ℕ) (t : ℕ) → best ≡ Some t → IsEarly best t → ⊥
best-not_early None t is h = none-some t is
best-not_early (Some at) t is h = let same = same_Some at t is in omega arith

abbrev pub Rises : Reach → Reach → Type 0
Rises x y = x.stop < y.stop

-- in a list of rising stops each is found with its time
pub all-found : (xs : List Reach) → AllPairs Rises xs → All (λ x. time_in xs x.stop ≡ Some x.time) xs
all-found [] rising = All-nil (λ x. time_in [] x.stop ≡ Some x.time)
all-found (x ∷ xs) rising =
    All-cons (λ y. time_in (x ∷ xs) y.stop ≡ Some y.time) x xs (rw (eq-eqb x.stop x.stop refl) refl) (λ k d within.
    let y = get_or xs k d in
    let lt : x.stop < y.stop = AllPairs-after Rises [] x xs rising k d within in
    let apart = ne_eqb x.stop y.stop (λ same. omega arith) in
    rw apart (all-found xs (AllPairs-tail Rises x xs rising) k d within))

module _ (nw : Network) (st : State) (q : Query) where
  -- a ride that ends in the destination's station does not arrive early
  pub end-late : (best : Option ℕ) (reached : ℕ → Option ℕ) → IsElsewhere nw q best reached → (p : PlanRide) → is_one_station nw p.alight_stop q.to_stop ≡ true → HasArrived reached p.alight_stop p.alight_time → IsEarly best p.alight_time → ⊥
  end-late best reached elsewhere p ends by early =
      both_ways _ (elsewhere p.alight_stop by.0 by.1 (early-before best by.0 p.alight_time by.2 early)) ends

  -- without a ride one does not arrive early
  pub none-late : (best : Option ℕ) (at : ℕ) → IsAtOnce nw q best → IsJourney nw st q [] at → IsEarly best at → ⊥
  none-late best at at_once h early = best-not_early best at (at_once h.0 ∙ ap Some h.1) early

  module _ (valid : IsValid nw st) where
    -- no journey arrives before the best arrival of a finished search
    pub late : (best : Option ℕ) (reached : ℕ → Option ℕ) → IsFinished nw st q best reached → (rides : List PlanRide) (at : ℕ) → IsJourney nw st q rides at → IsEarly best at → ⊥
    late best reached done [] at h early = none-late best at done.at_once h early
    late best reached done (r ∷ rs) at h early =
        let end = journey-ends nw st q r rs at h in
        let p = end.0 in
        let early_end = subst (IsEarly best) (sym end.3) early in
        end-late best reached done.elsewhere p end.2 (all-arrive nw st q valid best reached done.arrivals (length rs) p end.1 early_end) early_end

    pub search-found : (reached : ℕ → Option ℕ) (rides : List PlanRide) (at : ℕ) → IsFinished nw st q (Some at) reached → IsJourney nw st q rides at → IsEarliest nw st q rides at
    search-found reached rides at done h =
        record { journey = h; least = least }
      where
        least : (others : List PlanRide) (by : ℕ) → IsJourney nw st q others by → at ≤ by
        least others by k = elim (cases_lt by at) [
          | inl lt ↦ absurd (late (Some at) reached done others by k lt)
          | inr le ↦ le
        ]

    pub search-none : (reached : ℕ → Option ℕ) → IsFinished nw st q None reached → HasNoJourney nw st q
    search-none reached done rides at h = late None reached done rides at h tt

  -- what is found in a list stands there
  pub each-found : (P : Reach → Type 0) (xs : List Reach) → All P xs → (b t : ℕ) → time_in xs b ≡ Some t → (x : Reach) × (x.stop ≡ b) × (x.time ≡ t) × P x
  each-found P [] h b t at = absurd (none-some t at)
  each-found P (x ∷ xs) h b t at = elim (cases_Bool (nat_eq x.stop b)) [
    | inl here ↦ (x, eqb-true x.stop b here, same_Some x.time t (rw here at at), All-head P x xs h)
    | inr apart ↦ each-found P xs (All-tail P x xs h) b t (rw apart at at)
  ]

  -- a good certificate is the end of a search
  pub certificate-done : (c : Cert) → IsGoodCertificate nw st q c → IsFinished nw st q c.arrives (time_in c.reached)
  certificate-done c good = record {
    at_once = good.journey.1;
    arrivals = good.arrivals;
    elsewhere = λ b t at early.
        let x = each-found (λ x. is_one_station nw x.stop q.to_stop ≡ false) c.reached good.elsewhere b t at in
        subst (λ b. is_one_station nw b q.to_stop ≡ false) x.1 x.3;
  }

  -- the early part of what a finished search reached makes a good certificate
  pub search-certified : (best : Option ℕ) (reached : ℕ → Option ℕ) (c : Cert) → IsFinished nw st q best reached → c.arrives ≡ best → AreRidesUntil nw st q best c.rides → AreEarlyStops nw best c.reached → IsEarlyPart best reached c.reached → IsGoodCertificate nw st q c
  search-certified best reached c done is journey early part = record {
    early = subst (λ best. AreEarlyStops nw best c.reached) (sym is) early;
    journey = (subst (λ best. AreRidesUntil nw st q best c.rides) (sym is) journey, subst (IsAtOnce nw q) (sym is) done.at_once);
    arrivals = subst (λ best. HasArrivals nw st q best (time_in c.reached) (time_in c.reached)) (sym is) arrivals;
    elsewhere = All-weaker (λ x. time_in c.reached x.stop ≡ Some x.time) (λ x. is_one_station nw x.stop q.to_stop ≡ false) (λ x at. let there = (part x.stop x.time).0 at in done.elsewhere x.stop x.time there.0 there.1) c.reached (all-found c.reached early.0);
  }
    where
      open-by : (r : PlanRide) → IsOpen nw q (time_in c.reached) r → IsOpen nw q reached r
      open-by r (inl first) = inl first
      open-by r (inr (a, s, at, change)) = inr (a, s, ((part a s).0 at).0, change)

      arrivals : HasArrivals nw st q best (time_in c.reached) (time_in c.reached)
      arrivals r ride at leaves early =
          let by = done.arrivals r ride (open-by r at) leaves early in
          (by.0, (part r.alight_stop by.0).1 (by.1, early-before best by.0 r.alight_time by.2 early), by.2)

  module _ (valid : IsValid nw st) where
    pub certificate-found : (c : Cert) (at : ℕ) → IsGoodCertificate nw st q c → c.arrives ≡ Some at → (rides : List PlanRide) × (map name_of rides ≡ c.rides) × IsEarliest nw st q rides at
    certificate-found c at good is =
        let journey = MatchOption-at_some (c.rides ≡ []) (AreJourney nw st q c.rides) at is good.journey.0 in
        let done = subst (λ best. IsFinished nw st q best (time_in c.reached)) is (certificate-done c good) in
        (journey.0, journey.1, search-found valid (time_in c.reached) journey.0 at done journey.2)

    pub certificate-none : (c : Cert) → IsGoodCertificate nw st q c → c.arrives ≡ None → (c.rides ≡ []) × HasNoJourney nw st q
    certificate-none c good is =
        let done = subst (λ best. IsFinished nw st q best (time_in c.reached)) is (certificate-done c good) in
        (MatchOption-at_none (c.rides ≡ []) (AreJourney nw st q c.rides) is good.journey.0, search-none valid (time_in c.reached) done)
