-- The replies of `check` to queries: an answer, and what shows that it is right.
use Rattle.std.specs.Prelude.{◌≡◌, ℕ, ◌≤◌, List, [], All, map, Some, None, Result, Ok, Err}
use Rattle.conn_scan.specs.ScratchState.{IsGoodCertificate, name_of}
use Rattle.delay_model.specs.declared.network.Network.{Network}
use Rattle.delay_model.specs.declared.state.State.{State}
use Rattle.delay_report.specs.Checks.{text_of_checked}
use Rattle.delay_report.specs.Replies.{text_of_reply}
use Rattle.delay_report.specs.declared.replies.Reply.{Reply}
use Rattle.delay_report.specs.declared.replies.Reply.TheVariants.{Accepted, Refused, RefusedExtra, Bad, Flush, Journey, NoJourney}
use Rattle.information_service.specs.Output.{IsReplyToQuery}
use Rattle.information_service.specs.ServiceState.{ServiceState}
use Rattle.message_reader.specs.declared.bad_line.BadLine.{BadLine}
use Rattle.message_reader.specs.declared.resolve_queries.AskedQuery.{AskedQuery}
use Rattle.mt_base.specs.declared.certificates.Reach.{Reach}
use Rattle.mt_base.specs.declared.journeys.Query.{Query}
use Rattle.checked_answers.specs.declared.queries.CheckedReply.{CheckedReply}
use Rattle.checked_answers.specs.declared.queries.NumberedQuery.{NumberedQuery}

-- the arrival and the rides of a reply to a query make a good certificate with these stops
abbrev pub IsCertifiedBy : Network → State → Query → List Reach → Reply → Type 0
IsCertifiedBy nw st q reached (Journey line count day arrives rides) =
    IsGoodCertificate nw st q (record {
      arrives = Some arrives;
      rides = map name_of rides;
      reached = reached;
    })
IsCertifiedBy nw st q reached (NoJourney line count) =
    IsGoodCertificate nw st q (record { arrives = None; rides = []; reached = reached })
IsCertifiedBy nw st q reached (Accepted line count changed) = ⊥
IsCertifiedBy nw st q reached (Refused line refusal) = ⊥
IsCertifiedBy nw st q reached (RefusedExtra line trip day from to) = ⊥
IsCertifiedBy nw st q reached (Bad line bad) = ⊥
IsCertifiedBy nw st q reached (Flush line count) = ⊥

-- this is a reply to a query in a state after so many accepted messages, and these stops show that
-- it is right
pub record IsCheckedReply (nw : Network) (st : State) (count line day : ℕ) (q : Query)
    (reply : Reply) (reached : List Reach) : Type 0 where
  -- it shows an earliest journey, or says that there is none
  pub answer : IsReplyToQuery nw st count line day q reply
  -- the certificate is good
  pub certificate : IsCertifiedBy nw st q reached reply
  -- none of the stops has a time before that of the query, so each time has a text on its day
  pub since : All (λ (x : Reach). q.time ≤ x.time) reached

-- the same of a query with the number of its line
abbrev pub is_checked_reply : Network → State → ℕ → NumberedQuery → CheckedReply → Type 0
is_checked_reply nw st count question checked = IsCheckedReply nw st count question.line
    question.asked.day question.asked.query checked.reply checked.reached

-- this is the text of such a reply
pub record IsCheckedText (t : ServiceState) (line : ℕ) (asked : AskedQuery) (text : List ℕ)
    : Type 0 where
  pub reply : Reply
  pub reached : List Reach
  pub is : IsCheckedReply t.network t.state t.count line asked.day asked.query reply reached
  pub text_is : text ≡ text_of_checked t.names reached asked.day reply

-- this is the text of the reply to a query by number, or to one whose names make its line bad
abbrev pub IsQueryText : ServiceState → ℕ → Result AskedQuery BadLine → List ℕ → Type 0
IsQueryText t line (Ok asked) text = IsCheckedText t line asked text
IsQueryText t line (Err bad) text = text ≡ text_of_reply t.names (Bad line bad)
