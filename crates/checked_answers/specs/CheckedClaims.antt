-- When a claim is right, and the reply that says so.
use Rattle.std.specs.Prelude.{◌≡◌, ◌↔◌, ℕ, List, [], Bool, true, MatchOption, map, Some}
use Rattle.conn_scan.specs.ScratchState.{IsGoodCertificate, name_of}
use Rattle.delay_model.specs.declared.network.Network.{Network}
use Rattle.delay_model.specs.declared.state.State.{State}
use Rattle.delay_model.specs.Journeys.{IsEarliest, HasNoJourney}
use Rattle.delay_report.specs.Checks.{text_of_claim}
use Rattle.information_service.specs.ServiceState.{ServiceState}
use Rattle.message_reader.specs.Claims.{claim_resolved}
use Rattle.message_reader.specs.declared.claims.Claim.{Claim}
use Rattle.mt_base.specs.declared.certificates.Cert.{Cert}
use Rattle.mt_base.specs.declared.journeys.PlanRide.{PlanRide}
use Rattle.mt_base.specs.declared.journeys.Query.{Query}
use Rattle.checked_answers.specs.declared.claims.ClaimedAnswer.{ClaimedAnswer}

-- the rides of these names are a journey that arrives then, and no journey arrives earlier
abbrev pub IsEarliestNamed : Network → State → Query → Cert → ℕ → Type 0
IsEarliestNamed nw st q c arrives =
    (rides : List PlanRide) × (map name_of rides ≡ c.rides) × IsEarliest nw st q rides arrives

-- an answer is right: its rides are an earliest journey, or it has none, and there is no journey
abbrev pub IsRight : Network → State → Query → Cert → Type 0
IsRight nw st q c = MatchOption c.arrives ((c.rides ≡ []) × HasNoJourney nw st q)
    (IsEarliestNamed nw st q c)

-- an answer with a certificate is found good exactly where the certificate is; and then it is right
pub record IsJudgedBy (nw : Network) (st : State) (q : Query) (c : Cert) (good : Bool)
    : Type 0 where
  pub exactly : (good ≡ true) ↔ IsGoodCertificate nw st q c
  pub right : good ≡ true → IsRight nw st q c

-- the same of an answer by number, in a state after so many accepted messages
abbrev pub is_judged : Network → State → ℕ → ClaimedAnswer → Bool → Type 0
is_judged nw st count claimed good = IsJudgedBy nw st claimed.query claimed.cert good

-- the trains of a claim are known, and for what it claims this holds
abbrev pub IsOfClaim : (Network → State → Query → Cert → Type 0) → ServiceState → Claim → Type 0
IsOfClaim Is t claim = (c : Cert) × (claim_resolved t.names claim ≡ Some c)
    × Is t.network t.state claim.query c

-- a claim is found good exactly where its trains are known and its certificate is good; and then
-- what it claims is right
pub record IsJudged (t : ServiceState) (claim : Claim) (good : Bool) : Type 0 where
  pub exactly : (good ≡ true) ↔ IsOfClaim IsGoodCertificate t claim
  pub right : good ≡ true → IsOfClaim IsRight t claim

-- this is the text of the reply to a claim
pub record IsClaimText (t : ServiceState) (line : ℕ) (claim : Claim) (text : List ℕ)
    : Type 0 where
  pub good : Bool
  pub judged : IsJudged t claim good
  pub text_is : text ≡ text_of_claim line good
