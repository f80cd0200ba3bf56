-- What `check` writes is the same over networks that are alike.
use Rattle.std.proofs.Common.{◌≡◌, ◌∙◌, ap, refl, sym, arith, ℕ, List, Result, Ok, Err, Option, None, Some}
use Rattle.conn_scan.specs.ScratchState.{IsGoodCertificate}
use Rattle.delay_model.specs.Journeys.{IsEarliest, HasNoJourney}
use Rattle.delay_model.specs.declared.network.Network.{Network}
use Rattle.delay_model.specs.declared.state.State.{State}
use Rattle.delay_report.specs.declared.replies.Reply.{Reply}
use Rattle.delay_report.specs.declared.replies.Reply.TheVariants.{Accepted, Refused, RefusedExtra, Bad, Flush as Flushed, Journey, NoJourney}
use Rattle.information_service.proofs.Networks.{journey-same, query-same, reply-same, ride-same, same-back}
use Rattle.information_service.proofs.TimesAlike.{line-keeps, line-over}
use Rattle.information_service.specs.Networks.{IsSame, IsWrittenAlike, over}
use Rattle.information_service.specs.ServiceState.{ServiceState}
use Rattle.journey_laws.specs.Certificates.{AreEarlyStops, AreRidesUntil, time_in}
use Rattle.journey_laws.specs.Reached.{HasArrivals, IsAtOnce}
use Rattle.message_reader.specs.ResolvedQueries.{query_resolved}
use Rattle.message_reader.specs.declared.bad_line.BadLine.{BadLine}
use Rattle.message_reader.specs.declared.check_lines.CheckLine.{CheckLine}
use Rattle.message_reader.specs.declared.check_lines.CheckLine.TheVariants as checks
use Rattle.message_reader.specs.declared.claims.Claim.{Claim}
use Rattle.message_reader.specs.declared.resolve_queries.AskedQuery.{AskedQuery}
use Rattle.message_reader.specs.declared.wire.Line.{Line as Spoken}
use Rattle.message_reader.specs.declared.wire.Line.TheVariants.{Message as Says, Query as Asks, Flush}
use Rattle.mt_base.specs.declared.certificates.Cert.{Cert}
use Rattle.mt_base.specs.declared.certificates.CertRide.{CertRide}
use Rattle.mt_base.specs.declared.certificates.Reach.{Reach}
use Rattle.mt_base.specs.declared.journeys.PlanRide.{PlanRide}
use Rattle.mt_base.specs.declared.journeys.Query.{Query}
use Rattle.checked_answers.specs.CheckedClaims.{IsClaimText, IsRight}
use Rattle.checked_answers.specs.CheckedLines.{IsReplyText, IsSaidText, check_said_by, checked_output}
use Rattle.checked_answers.specs.CheckedQueries.{IsCertifiedBy, IsQueryText}

module _ (a b : Network) (h : IsSame a b) (st : State) where
  early-same : (best : Option ℕ) (list : List Reach) → AreEarlyStops b best list → AreEarlyStops a best list
  early-same best list e = grind (arith, h.stop)

  arrivals-same : (q : Query) (best : Option ℕ) (reached : ℕ → Option ℕ) → HasArrivals b st q best reached reached → HasArrivals a st q best reached reached
  arrivals-same q best reached all = grind (arith, h.station, h.change, ride-same b a (same-back a b h) st)

  at-once-same : (q : Query) (best : Option ℕ) → IsAtOnce b q best → IsAtOnce a q best
  at-once-same q best e = grind (arith, h.station)

  rides-same : (q : Query) (best : Option ℕ) (names : List CertRide) → AreRidesUntil b st q best names → AreRidesUntil a st q best names
  rides-same q None names none = none
  rides-same q (Some at) names j = (j.0, j.1, journey-same a b h st q j.0 at j.2)

  certificate-same : (q : Query) (c : Cert) → IsGoodCertificate b st q c → IsGoodCertificate a st q c
  certificate-same q c good = record {
    early = early-same c.arrives c.reached good.early;
    journey = (rides-same q c.arrives c.rides good.journey.0, at-once-same q c.arrives good.journey.1);
    arrivals = arrivals-same q c.arrives (time_in c.reached) good.arrivals;
    elsewhere = grind (arith, h.station, good.elsewhere);
  }

  certified-same : (q : Query) (reached : List Reach) (reply : Reply) → IsCertifiedBy b st q reached reply → IsCertifiedBy a st q reached reply
  certified-same q reached (Journey line count day arrives rides) is = certificate-same q _ is
  certified-same q reached (NoJourney line count) is = certificate-same q _ is
  certified-same q reached (Accepted line count changed) is = is
  certified-same q reached (Refused line refusal) is = is
  certified-same q reached (RefusedExtra line trip day from to) is = is
  certified-same q reached (Bad line bad) is = is
  certified-same q reached (Flushed line count) is = is

  earliest-same : (q : Query) (rides : List PlanRide) (at : ℕ) → IsEarliest b st q rides at → IsEarliest a st q rides at
  earliest-same q rides at e = record {
    journey = journey-same a b h st q rides at e.journey;
    least = λ others t j. e.least others t (journey-same b a (same-back a b h) st q others t j);
  }

  no-journey-same : (q : Query) → HasNoJourney b st q → HasNoJourney a st q
  no-journey-same q none = grind (arith, none, journey-same b a (same-back a b h) st q)

  right-by : (q : Query) (c : Cert) (best : Option ℕ) → c.arrives ≡ best → IsRight b st q c → IsRight a st q c
  right-by q c None is r = grind (arith, is, r, no-journey-same q)
  right-by q c (Some at) is r = grind (arith, is, r, earliest-same q)

module _ (nw : Network) (t : ServiceState) (same : IsSame nw t.network) where
  query-text-same : (line : ℕ) (asked : Result AskedQuery BadLine) (text : List ℕ) → IsQueryText t line asked text → IsQueryText (over nw t) line asked text
  query-text-same line (Ok asked) text is = record {
    reply = is.reply;
    reached = is.reached;
    is = record {
      answer = query-same nw t.network same t.state t.count line asked.day asked.query is.reply is.is.answer;
      certificate = certified-same nw t.network same t.state asked.query is.reached is.reply is.is.certificate;
      since = is.is.since;
    };
    text_is = is.text_is;
  }
  query-text-same line (Err bad) text is = is

  claim-text-same : (line : ℕ) (claim : Claim) (text : List ℕ) → IsClaimText t line claim text → IsClaimText (over nw t) line claim text
  claim-text-same line claim text is = record {
    good = is.good;
    judged = record {
      exactly = (
        λ good. let of = is.judged.exactly.0 good in (of.0, of.1, certificate-same nw t.network same t.state claim.query of.0 of.2),
        λ of. is.judged.exactly.1 (of.0, of.1, certificate-same t.network nw (same-back nw t.network same) t.state claim.query of.0 of.2),
      );
      right = λ good. let of = is.judged.right good in (of.0, of.1, right-by nw t.network same t.state claim.query of.0 of.0.arrives refl of.2);
    };
    text_is = is.text_is;
  }

  said-text-same : (line : ℕ) (said : Spoken) (text : List ℕ) (now : ServiceState) → IsSaidText t line said text now → IsSaidText (over nw t) line said text (over nw now)
  said-text-same line (Asks q) text now is = query-text-same line (query_resolved t.names q) text is
  said-text-same line (Says w) text now is = record { reply = is.reply; is_reply = reply-same nw t.network same t.names t.state t.count line (Ok (Says w)) is.reply is.is_reply; text_is = is.text_is }
  said-text-same line Flush text now is = record { reply = is.reply; is_reply = reply-same nw t.network same t.names t.state t.count line (Ok Flush) is.reply is.is_reply; text_is = is.text_is }

  reply-text-same : (line : ℕ) (said : Result CheckLine BadLine) (text : List ℕ) (now : ServiceState) → IsReplyText t line said text now → IsReplyText (over nw t) line said text (over nw now)
  reply-text-same line (Err bad) text now is = is
  reply-text-same line (Ok (checks.Claim claim)) text now is = claim-text-same line claim text is
  reply-text-same line (Ok (checks.Line said)) text now is = said-text-same line said text now is

pub checked-alike : IsWrittenAlike checked_output
checked-alike = record {
  begins = λ nw t kept same. refl;
  answers = λ nw t kept number x text now kept_now same one. record {
    reply = reply-text-same nw t same number (check_said_by t.names x) text now one.reply;
    leaves = ap (over nw) one.leaves ∙ sym (line-over nw t x same);
  };
  ends = λ nw t kept same. refl;
  keeps = λ t kept number x text now kept_now one. ap (λ (s : ServiceState). s.network) one.leaves ∙ line-keeps t x;
}
