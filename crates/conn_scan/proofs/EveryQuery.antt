-- Every query has an answer.
use Rattle.conn_scan.proofs.Words.{◌≡◌, ◌⊎◌, inl, inr, ℕ, List, Option, Some, None, refl, PlanRide, Query, Network, State, HasNoJourney, IsEarliest, IsValid, AreAtStops}
use Rattle.mt_base.specs.declared.certificates.Cert.{Cert}
use Rattle.journey_laws.specs.Certificates.{IsGoodCertificate}
use Rattle.journey_laws.proofs.BestArrivals.{certificate-found, certificate-none}
use Rattle.journey_laws.proofs.EveryQuery.{every-certified}

module _ (nw : Network) (st : State) (q : Query) (valid : IsValid nw st) where
  by-certificate : (c : Cert) → IsGoodCertificate nw st q c → (best : Option ℕ) → c.arrives ≡ best → ((rides : List PlanRide) × (arrives : ℕ) × IsEarliest nw st q rides arrives) ⊎ HasNoJourney nw st q
  by-certificate c good None is = inr (certificate-none nw st q valid c good is).1
  by-certificate c good (Some at) is = let found = certificate-found nw st q valid c at good is in inl (found.0, at, found.2)

  pub answered : AreAtStops nw.stops st → ((rides : List PlanRide) × (arrives : ℕ) × IsEarliest nw st q rides arrives) ⊎ HasNoJourney nw st q
  answered at_stops = let c = every-certified nw st at_stops valid q in by-certificate c.0 c.1 c.0.arrives refl
