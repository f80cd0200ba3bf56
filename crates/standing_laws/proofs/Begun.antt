-- A journey is one that can be taken: it has a good standing, with its arrival.
use Rattle.std.proofs.Common.{◌≡◌, ℕ, ◌+◌, true, List, [], ◌∷◌, ◌++◌, map, Some, None, find, refl, sym, ◌∙◌, ap, subst, arith}
use Rattle.std.proofs.Math.Logic.{◌≢◌}
use Rattle.std.specs.List.{All}
use Rattle.std.proofs.lemmas.Bool.{cond-true, eq-eqb, ne_eqb}
use Rattle.std.proofs.lemmas.List.Elements.{All-contains, All-get_or, All-head, All-tail, Contains-append_right}
use Rattle.std.proofs.lemmas.Option.{get_or_from_slice_get, slice_get_within}
use Rattle.mt_base.specs.declared.certificates.CertRide.{CertRide}
use Rattle.mt_base.specs.declared.journeys.PlanRide.{PlanRide}
use Rattle.mt_base.specs.declared.journeys.Query.{Query}
use Rattle.standing_laws.specs.declared.standings.Standing.TheVariants.{Good}
use Rattle.delay_model.specs.declared.network.Network.{Network}
use Rattle.delay_model.specs.declared.state.Call.{Call}
use Rattle.delay_model.specs.declared.state.State.{State}
use Rattle.delay_model.specs.Cuts.{after}
use Rattle.delay_model.specs.Effect.{is_call}
use Rattle.delay_model.specs.Events.{calls_of}
use Rattle.delay_model.specs.Journeys.{GoesOn, IsJourney, IsRide, StopsAndGoesOn}
use Rattle.delay_model.specs.Valid.{HasDistinctLabels, IsTrain, IsValid}
use Rattle.journey_laws.specs.Certificates.{name_of}
use Rattle.journey_laws.specs.Rides.{ride_between}
use Rattle.journey_laws.proofs.CheckedLemmas.{in_time-says, origin-says}
use Rattle.journey_laws.proofs.RideLemmas.{labelled}
use Rattle.standing_laws.specs.Standings.{reached_call, ride_now, standing, standing_after}
use Rattle.standing_laws.specs.Standings.{first_arrival}

-- a call that the train reaches
reached : (between : List Call) (d : Call) (rest : List Call) → HasDistinctLabels (between ++ d ∷ rest) → All StopsAndGoesOn between → d.arrival.live ≡ true
    → reached_call d.label (between ++ d ∷ rest) ≡ Some d
reached [] d rest distinct passes arrives = rw (arrives, eq-eqb d.label d.label refl) refl
reached (c ∷ between) d rest distinct passes arrives =
    let lives = All-head StopsAndGoesOn c between passes in
    let apart = ne_eqb c.label d.label (All-contains (λ (e : Call). c.label ≢ e.label) (between ++ d ∷ rest) d distinct.0 (Contains-append_right between (d ∷ rest) d (0, omega arith, refl))) in
    rw (lives.0, apart, lives.1) (reached between d rest distinct.1 (All-tail StopsAndGoesOn c between passes) arrives)

distinct-after : (before : List Call) (c : Call) (cs : List Call) → HasDistinctLabels (before ++ c ∷ cs) → HasDistinctLabels cs
distinct-after [] c cs h = h.1
distinct-after (b ∷ before) c cs h = distinct-after before c cs h.1

-- the train's ride from a call to one that it reaches, by the calls' labels
taken : (nw : Network) (st : State) (name : CertRide) (cs rest : List Call) (c d : Call) → calls_of st name.train ≡ cs → find (is_call name.board) cs ≡ Some c
    → after (is_call name.board) cs ≡ rest → c.departure.live ≡ true → reached_call name.alight rest ≡ Some d → ride_now nw st name ≡ Some (ride_between nw st name.train 0 c d)
taken nw st name cs rest c d own found behind leaves to =
    let f = ride_between nw st name.train 0 c in
    rw (own, found, behind, to) (cond-true c.departure.live (Some (f d)) None leaves)

module _ (nw : Network) (st : State) (valid : IsValid nw st) where
  -- a ride is what its name finds
  pub ride-now : (r : PlanRide) → IsRide nw st r → ride_now nw st (name_of r) ≡ Some r
  ride-now r ride =
      let t = ride.by_train in
      let c = ride.boarded in
      let d = ride.alighted in
      let rest = ride.calls_between ++ d ∷ ride.calls_after in
      let good : IsTrain t =
      subst IsTrain (get_or_from_slice_get st.trains r.train t t ride.is_train) (All-get_or IsTrain st.trains r.train t (slice_get_within st.trains r.train t ride.is_train) valid.trains)
      in
      let distinct = subst HasDistinctLabels ride.are_calls good.labels in
      let at = labelled ride.calls_before c rest distinct in
      let to = reached ride.calls_between d ride.calls_after (distinct-after ride.calls_before c rest distinct) ride.passes ride.arrives in
      let same : ride_between nw st r.train 0 c d ≡ r = λ i. record {
        train = r.train;
        board = sym ride.board_label i;
        board_stop = sym ride.board_stop i;
        board_time = sym ride.board_time i;
        alight = sym ride.alight_label i;
        alight_stop = sym ride.alight_stop i;
        alight_time = sym ride.alight_time i;
      } in
      let own : calls_of st r.train ≡ ride.calls_before ++ c ∷ rest = rw ride.is_train ride.are_calls in
      taken nw st (name_of r) (ride.calls_before ++ c ∷ rest) rest c d own (rw ride.board_label at.0) (rw ride.board_label at.1) ride.departs (rw ride.alight_label to)
      ∙ ap Some same

  module _ (q : Query) where
    stands-after : (to at : ℕ) (rides : List PlanRide) (a t n : ℕ) → GoesOn nw st a t rides to at → standing_after nw st a t n (map name_of rides) ≡ Good at
    stands-after to at [] a t n h = ap Good h.1
    stands-after to at (r ∷ rs) a t n h = rw (ride-now r h.0, (in_time-says nw q a t r.board_stop r.board_time).1 h.1) (stands-after to at rs r.alight_stop r.alight_time (n + 1) h.2)

    -- so a journey has a good standing
    pub stands : (rides : List PlanRide) (at : ℕ) → IsJourney nw st q rides at → standing nw st q (map name_of rides) ≡ Good at
    stands [] at h = ap Good h.1
    stands (r ∷ rs) at h = rw (ride-now r h.0, (origin-says nw q r.board_stop r.board_time).1 h.1) (stands-after q.to_stop at rs r.alight_stop r.alight_time 1 h.2)

    arrives-after : (to at : ℕ) (rides : List PlanRide) (a t : ℕ) → GoesOn nw st a t rides to at → first_arrival t rides ≡ at
    arrives-after to at [] a t h = h.1
    arrives-after to at (r ∷ rs) a t h = arrives-after to at rs r.alight_stop r.alight_time h.2

    -- which begins with its arrival
    pub begins : (rides : List PlanRide) (at : ℕ) → IsJourney nw st q rides at → first_arrival q.time rides ≡ at
    begins [] at h = h.1
    begins (r ∷ rs) at h = arrives-after q.to_stop at rs r.alight_stop r.alight_time h.2
