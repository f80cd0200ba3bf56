-- What is found right is right, and what a search leaves shows that its answer is.
use Rattle.std.proofs.Common.{◌≡◌, ◌≤◌, ℕ, List, All, Option, None, Some, map, subst, refl, inl, inr}
use Rattle.conn_scan.specs.ScratchState.{IsAnswer, IsGoodCertificate, best_of_found, name_of}
use Rattle.conn_scan.specs.declared.earliest_arrival.Found.{Found}
use Rattle.conn_scan.specs.declared.earliest_arrival.Found.TheVariants.{Arrives, NoWay}
use Rattle.delay_model.specs.Valid.{IsValid}
use Rattle.delay_model.specs.declared.network.Network.{Network}
use Rattle.delay_model.specs.declared.state.State.{State}
use Rattle.information_service.specs.Output.{IsReplyToQuery, reply_to_found}
use Rattle.journey_laws.proofs.BestArrivals.{certificate-found, certificate-none}
use Rattle.mt_base.specs.declared.certificates.Cert.{Cert}
use Rattle.mt_base.specs.declared.certificates.Reach.{Reach}
use Rattle.mt_base.specs.declared.journeys.PlanRide.{PlanRide}
use Rattle.mt_base.specs.declared.journeys.Query.{Query}
use Rattle.checked_answers.specs.CheckedClaims.{IsRight}
use Rattle.checked_answers.specs.CheckedQueries.{IsCertifiedBy, IsCheckedReply}

-- a good certificate is right
right-for : (nw : Network) (st : State) (q : Query) (c : Cert) → IsValid nw st → IsGoodCertificate nw st q c → (best : Option ℕ) → c.arrives ≡ best → IsRight nw st q c
right-for nw st q c valid good None is = rw is (certificate-none nw st q valid c good is)
right-for nw st q c valid good (Some at) is = rw is (certificate-found nw st q valid c at good is)

pub good-is-right : (nw : Network) (st : State) (q : Query) (c : Cert) → IsValid nw st → IsGoodCertificate nw st q c → IsRight nw st q c
good-is-right nw st q c valid good = right-for nw st q c valid good c.arrives refl

-- the certificate of a search is that of the reply that shows its answer
module _ (nw : Network) (st : State) (q : Query) (count line day : ℕ) (rides : List PlanRide) where
  replied : (found : Found) → IsAnswer nw st q rides found → IsReplyToQuery nw st count line day q (reply_to_found line count day found rides)
  replied (Arrives at) is = inl (at, rides, refl, is)
  replied NoWay is = inr (refl, is.1)

  certified : (found : Found) (reached : List Reach) → IsAnswer nw st q rides found → IsGoodCertificate nw st q (record { arrives = best_of_found found; rides = map name_of rides; reached = reached })
      → IsCertifiedBy nw st q reached (reply_to_found line count day found rides)
  certified (Arrives at) reached is good = good
  certified NoWay reached is good = subst (λ (rs : List PlanRide). IsGoodCertificate nw st q (record { arrives = None; rides = map name_of rs; reached = reached })) is.0 good

  pub checked-reply : (found : Found) (c : Cert) → IsAnswer nw st q rides found → IsGoodCertificate nw st q c → c.arrives ≡ best_of_found found → c.rides ≡ map name_of rides
      → All (λ (x : Reach). q.time ≤ x.time) c.reached → IsCheckedReply nw st count line day q (reply_to_found line count day found rides) c.reached
  checked-reply found c is good arrives names since = record {
    answer = replied found is;
    certificate = certified found c.reached is
        (subst (λ (best : Option ℕ). IsGoodCertificate nw st q (record { arrives = best; rides = map name_of rides; reached = c.reached })) arrives
        (subst (λ ns. IsGoodCertificate nw st q (record { arrives = c.arrives; rides = ns; reached = c.reached })) names good));
    since = since;
  }
